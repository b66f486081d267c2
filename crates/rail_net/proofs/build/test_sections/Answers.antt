-- Why `test_sections` does what its contract says.
use Rattle.std.proofs.Common.{refl}
use Rattle.rail_net.specs.Refusals.{section_rules}
use Rattle.rail_net.specs.Rules.{IsOfSomeSection}
use Rattle.rail_net.specs.declared.refusal.ListKind.TheVariants.{Nodes, Tracks, Sections}
use Rattle.rail_net.specs.declared.refusal.NetFault.TheVariants.{TrackInNoSection, TrackInTwoSections, SplitSection, SectionApart}
use Rattle.rail_net.proofs.OrderLemmas.{told_at, told_place}
use Rattle.rail_net.proofs.build.test_sections.Goals as goal

pub returns-in-Err-clause-refusal : goal.returns-in-Err-clause-refusal
returns-in-Err-clause-refusal c =
    let p = c.args.parts.now in
    told_at (section_rules p) 0 TrackInNoSection Tracks (IsOfSomeSection p) p.tracks c.in-Err.found c.refused.result c.refused.ensures c.in-Err.ensures.unlisted (λ place broken. (place, refl, broken))

pub returns-in-Some-clause-refusal : goal.returns-in-Some-clause-refusal
returns-in-Some-clause-refusal c = told_place (section_rules c.args.parts.now) 1 TrackInTwoSections Tracks c.in-Some.item c.named.result c.named.ensures (c.in-Ok.ensures.listed, (c.in-Some.item, refl, c.in-Some.ensures))

pub returns-in-Some-first_split_node-clause-refusal : goal.returns-in-Some-first_split_node-clause-refusal
returns-in-Some-first_split_node-clause-refusal c = told_place (section_rules c.args.parts.now) 2 SplitSection Nodes c.in-Some-first_split_node.item c.named-in-Some-first_split_node.result c.named-in-Some-first_split_node.ensures (c.in-Ok.ensures.listed, (c.in-None.ensures, (c.in-Some-first_split_node.item, refl, c.in-Some-first_split_node.ensures)))

pub returns-in-Some-first_apart-clause-refusal : goal.returns-in-Some-first_apart-clause-refusal
returns-in-Some-first_apart-clause-refusal c = told_place (section_rules c.args.parts.now) 3 SectionApart Sections c.in-Some-first_apart.item c.named-in-Some-first_apart.result c.named-in-Some-first_apart.ensures (c.in-Ok.ensures.listed, (c.in-None.ensures, (c.in-None-first_split_node.ensures, (c.in-Some-first_apart.item, refl, c.in-Some-first_apart.ensures))))
