-- Why `listings_of` does what its contract says.
use Rattle.std.proofs.Common.{◌≡◌, ◌<◌, ◌≤◌, ℕ, List, length, get_or, slice_get, Some, subst, sym, refl}
use Rattle.std.proofs.lemmas.Option.{slice_get_read}
use Rattle.rail_net.specs.Parts.{track_names}
use Rattle.rail_net.specs.Rules.{AreKnown, ListsTracks}
use Rattle.rail_net.specs.Tables.{AddsListings}
use Rattle.rail_net.specs.declared.parts.GroupPart.{GroupPart}
use Rattle.rail_net.proofs.ListLaws.{holds_more, holds_all}
use Rattle.rail_net.proofs.ListingLemmas.{section_more, listings_all}
use Rattle.rail_net.proofs.sections.listings_of.Goals as goal

-- the section at a place
here : (sections seen : List GroupPart) (at : ℕ) (g : GroupPart) → seen ≡ sections → at < length seen → g ≡ get_or seen at g → slice_get sections at ≡ Some g
here sections seen at g same within is = subst (λ gs. slice_get gs at ≡ Some g) same (slice_get_read seen (length seen) at g refl within is)

pub returns-in-Ok-false-clause-unknown : goal.returns-in-Ok-false-clause-unknown
returns-in-Ok-false-clause-unknown c =
    let p = c.args.parts.now in
    let g : GroupPart = c.index-sections-place.result in
    record {
      before = c.loop-place.invariant.known;
      item = g;
      is_there = here p.sections c.as_slice-sections.result.now c.loop-place.place g c.as_slice-sections.ensures c.loop-place-test.true c.index-sections-place.is;
      breaks = λ known. c.in-Ok-false.ensures.unknown c.in-Ok-false.field-0-test (subst (λ names. AreKnown names g.tracks) (sym c.requires.names.tracks) known);
    }

pub loop-place-preserved : goal.loop-place-preserved
loop-place-preserved c =
    let p = c.args.parts.now in
    let place = c.loop-place.place in
    let g : GroupPart = c.index-sections-place.result in
    let is = here p.sections c.as_slice-sections.result.now place g c.as_slice-sections.ensures c.loop-place-test.true c.index-sections-place.is in
    let known : AreKnown (track_names p) g.tracks = subst (λ names. AreKnown names g.tracks) c.requires.names.tracks (c.in-Ok-true.ensures.known c.in-Ok-true.field-0-test) in
    let added : AddsListings (track_names p) place g.tracks c.loop-place.entries.items c.list_tracks.new.entries.items =
    subst (λ names. AddsListings names place g.tracks c.loop-place.entries.items c.list_tracks.new.entries.items) c.requires.names.tracks (c.in-Ok-true.ensures.added c.in-Ok-true.field-0-test) in
    record {
      entries = section_more (track_names p) p.sections place g c.loop-place.entries.items c.list_tracks.new.entries.items is c.loop-place.invariant.entries added;
      known = holds_more (ListsTracks p) p.sections place g c.loop-place.invariant.known is known;
    }

pub returns-clause-listings : goal.returns-clause-listings
returns-clause-listings c =
    let p = c.args.parts.now in
    listings_all p c.loop-place.place c.loop-place.entries.items (subst (λ gs. length gs ≤ c.loop-place.place) c.as_slice-sections.ensures c.loop-place-test.false) c.loop-place.invariant.entries

pub returns-clause-known : goal.returns-clause-known
returns-clause-known c =
    let p = c.args.parts.now in
    holds_all (ListsTracks p) p.sections c.loop-place.place (subst (λ gs. length gs ≤ c.loop-place.place) c.as_slice-sections.ensures c.loop-place-test.false) c.loop-place.invariant.known
