-- Why `names_of` does what its contract says.
use Rattle.std.proofs.Common.{refl}
use Rattle.rail_net.specs.Rules.{HasNewName}
use Rattle.rail_net.specs.Refusals.{name_rules}
use Rattle.rail_net.specs.declared.refusal.ListKind.TheVariants.{Nodes, Tracks, Sections, Stations}
use Rattle.rail_net.specs.declared.refusal.NetFault.TheVariants.{DuplicateName}
use Rattle.rail_net.proofs.OrderLemmas.{told_at}
use Rattle.rail_net.proofs.tables.names_of.Goals as goal

pub returns-in-Err-clause-refusal : goal.returns-in-Err-clause-refusal
returns-in-Err-clause-refusal c =
    let p = c.args.parts.now in
    told_at (name_rules p) 0 DuplicateName Nodes (HasNewName (λ n. n.name) p.nodes) p.nodes c.in-Err.found _ c.refused.ensures c.in-Err.ensures.old
    (λ place broken. (place, refl, broken))

pub returns-in-Err-names_of_tracks-clause-refusal : goal.returns-in-Err-names_of_tracks-clause-refusal
returns-in-Err-names_of_tracks-clause-refusal c =
    let p = c.args.parts.now in
    told_at (name_rules p) 1 DuplicateName Tracks (HasNewName (λ t. t.name) p.tracks) p.tracks c.in-Err-names_of_tracks.found _ c.refused-in-Err-names_of_tracks.ensures c.in-Err-names_of_tracks.ensures.old
    (λ place broken. (c.in-Ok.ensures.new, (place, refl, broken)))

pub returns-in-Err-names_of_sections-clause-refusal : goal.returns-in-Err-names_of_sections-clause-refusal
returns-in-Err-names_of_sections-clause-refusal c =
    let p = c.args.parts.now in
    told_at (name_rules p) 2 DuplicateName Sections (HasNewName (λ s. s.name) p.sections) p.sections c.in-Err-names_of_sections.found _ c.refused-in-Err-names_of_sections.ensures c.in-Err-names_of_sections.ensures.old
    (λ place broken. (c.in-Ok.ensures.new, (c.in-Ok-names_of_tracks.ensures.new, (place, refl, broken))))

pub returns-in-Err-names_of_stations-clause-refusal : goal.returns-in-Err-names_of_stations-clause-refusal
returns-in-Err-names_of_stations-clause-refusal c =
    let p = c.args.parts.now in
    told_at (name_rules p) 3 DuplicateName Stations (HasNewName (λ s. s.name) p.stations) p.stations c.in-Err-names_of_stations.found _ c.refused-in-Err-names_of_stations.ensures c.in-Err-names_of_stations.ensures.old
    (λ place broken. (c.in-Ok.ensures.new, (c.in-Ok-names_of_tracks.ensures.new, (c.in-Ok-names_of_sections.ensures.new, (place, refl, broken)))))

pub returns-clause-kept : goal.returns-clause-kept
returns-clause-kept c =
    (c.in-Ok.ensures.new, (c.in-Ok-names_of_tracks.ensures.new, (c.in-Ok-names_of_sections.ensures.new, (c.in-Ok-names_of_stations.ensures.new, tt))))
