-- Why `test_references` does what its contract says.
use Rattle.std.proofs.Common.{refl}
use Rattle.rail_net.specs.Refusals.{reference_rules}
use Rattle.rail_net.specs.Rules.{KnowsNodes, ListsTracks}
use Rattle.rail_net.specs.declared.refusal.ListKind.TheVariants.{Nodes, Tracks, Sections, Borders, Stations}
use Rattle.rail_net.specs.declared.refusal.NetFault.TheVariants.{UnknownName}
use Rattle.rail_net.proofs.OrderLemmas.{told_at, told_place}
use Rattle.rail_net.proofs.build.test_references.Goals as goal

pub returns-in-Some-clause-refusal : goal.returns-in-Some-clause-refusal
returns-in-Some-clause-refusal c = told_place (reference_rules c.args.parts.now) 0 UnknownName Nodes c.in-Some.item c.named.result c.named.ensures (c.in-Some.item, refl, c.in-Some.ensures)

pub returns-in-Err-clause-refusal : goal.returns-in-Err-clause-refusal
returns-in-Err-clause-refusal c =
    let p = c.args.parts.now in
    told_at (reference_rules p) 1 UnknownName Tracks (KnowsNodes p) p.tracks c.in-Err.found c.refused.result c.refused.ensures c.in-Err.ensures.unknown (λ place broken. (c.in-None.ensures, (place, refl, broken)))

pub returns-in-Err-listings_of-clause-refusal : goal.returns-in-Err-listings_of-clause-refusal
returns-in-Err-listings_of-clause-refusal c =
    let p = c.args.parts.now in
    told_at (reference_rules p) 2 UnknownName Sections (ListsTracks p) p.sections c.in-Err-listings_of.found c.refused-in-Err-listings_of.result c.refused-in-Err-listings_of.ensures c.in-Err-listings_of.ensures.unknown (λ place broken. (c.in-None.ensures, (c.in-Ok.ensures.known, (place, refl, broken))))

pub returns-in-Some-first_unknown_border-clause-refusal : goal.returns-in-Some-first_unknown_border-clause-refusal
returns-in-Some-first_unknown_border-clause-refusal c = told_place (reference_rules c.args.parts.now) 3 UnknownName Borders c.in-Some-first_unknown_border.item c.named-in-Some-first_unknown_border.result c.named-in-Some-first_unknown_border.ensures (c.in-None.ensures, (c.in-Ok.ensures.known, (c.in-Ok-listings_of.ensures.known, (c.in-Some-first_unknown_border.item, refl, c.in-Some-first_unknown_border.ensures))))

pub returns-in-Some-first_unknown_station-clause-refusal : goal.returns-in-Some-first_unknown_station-clause-refusal
returns-in-Some-first_unknown_station-clause-refusal c = told_place (reference_rules c.args.parts.now) 4 UnknownName Stations c.in-Some-first_unknown_station.item c.named-in-Some-first_unknown_station.result c.named-in-Some-first_unknown_station.ensures (c.in-None.ensures, (c.in-Ok.ensures.known, (c.in-Ok-listings_of.ensures.known, (c.in-None-first_unknown_border.ensures, (c.in-Some-first_unknown_station.item, refl, c.in-Some-first_unknown_station.ensures)))))
