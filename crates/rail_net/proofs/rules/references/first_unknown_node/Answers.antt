-- Why `first_unknown_node` does what its contract says.
use Rattle.std.proofs.Common.{List, subst}
use Rattle.std.specs.Prelude.{MatchOption}
use Rattle.vss_lists.specs.Breaks.{HoldsOfEach, BreaksFirstAt}
use Rattle.rail_net.specs.Rules.{KnowsTracks}
use Rattle.rail_net.specs.declared.parts.NodePart.{NodePart}
use Rattle.rail_net.proofs.rules.references.first_unknown_node.Goals as goal

pub returns : goal.returns
returns c =
    let p = c.args.parts.now in
    subst (λ (ns : List NodePart). MatchOption c.first_break.result (HoldsOfEach (KnowsTracks p) ns) (BreaksFirstAt (KnowsTracks p) ns)) c.as_slice.ensures c.first_break.ensures
