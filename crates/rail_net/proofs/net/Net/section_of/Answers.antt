-- Why `Net::section_of` does what its contract says.
use Rattle.std.proofs.Common.{subst, sym}
use Rattle.std.proofs.lemmas.Option.{get_or_from_slice_get}
use Rattle.rail_net.specs.Parts.{IsTrackOfSection}
use Rattle.rail_net.specs.Tables.{AreHomes}
use Rattle.rail_net.specs.declared.parts.NetParts.{NetParts}
use Rattle.rail_net.proofs.SectionLemmas.{home_of}
use Rattle.rail_net.proofs.net.Net.section_of.Goals as goal

pub returns-clause-only : goal.returns-clause-only
returns-clause-only c = λ section of_section.
    let p : NetParts = c.self.inside.parts in
    let homes = c.as_slice-homes.result.now in
    let all : AreHomes p homes = subst (AreHomes p) (sym c.as_slice-homes.ensures.value) c.self.invariant.1.homes in
    let own : IsTrackOfSection p section c.args.track = subst (λ (q : NetParts). IsTrackOfSection q section c.args.track) (sym c.self.view_is) of_section in
    sym (get_or_from_slice_get homes c.args.track section 0 (home_of p homes section c.args.track all c.self.invariant.0.once own))
