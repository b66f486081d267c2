-- Why `has_degree` does what its contract says.
use Rattle.std.proofs.Common.{◌+◌, arith}
use Rattle.rail_net.specs.Parts.{IsNode}
use Rattle.rail_net.specs.Rules.{begin_count, end_count, degree}
use Rattle.rail_net.specs.declared.parts.NodePart.{NodePart}
use Rattle.rail_net.proofs.ListLaws.{map_at}
use Rattle.rail_net.proofs.RuleLemmas.{sum_is}
use Rattle.rail_net.proofs.rules.nodes.has_degree.Goals as goal

pub returns : goal.returns
returns c =
    let p = c.args.parts.now in
    let node = c.args.node.now in
    let is : IsNode p node.name c.args.place = map_at (λ (n : NodePart). n.name) p.nodes c.args.place node c.requires.its in
    let sum = c.requires.degrees.at_node c.args.place node.name is in
    sum_is c.saturating_add.result (begin_count p node.name + end_count p node.name) (degree node.kind) c.degree.result (omega (arith, c.saturating_add.ensures, sum)) c.degree.ensures.degree c.degree.ensures.few
