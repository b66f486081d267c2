-- Why `sections_of` does what its contract says.
use Rattle.std.proofs.Common.{◌≡◌, ◌<◌, ◌+◌, ◌∷◌, [], ◌++◌, inl, inr, ℕ, List, Option, None, length, get_or, slice_get, Some, subst, sym, ap, refl, ◌∙◌, arith}
use Rattle.std.proofs.lemmas.Option.{slice_get-get_or, same_Some}
use Rattle.std.proofs.lemmas.List.{length_push}
use Rattle.rail_net.specs.Parts.{IsTrackOfSection, Lists}
use Rattle.rail_net.specs.Entries.{AreValues, HasEntry}
use Rattle.rail_net.specs.Refusals.{HasNewTracks}
use Rattle.rail_net.specs.Rules.{IsOfSomeSection}
use Rattle.rail_net.specs.Tables.{AreListings}
use Rattle.rail_net.specs.declared.entries.Entry.{Entry}
use Rattle.rail_net.specs.declared.parts.NetParts.{NetParts}
use Rattle.rail_net.specs.declared.parts.TrackPart.{TrackPart}
use Rattle.rail_net.proofs.ListLaws.{map_at, push_at, holds_next, holds_all, there_is}
use Rattle.rail_net.proofs.NameLaws.{same_number}
use Rattle.rail_net.proofs.ListingLemmas.{entry_of, of_entry}
use Rattle.rail_net.proofs.sections.sections_of.Goals as goal

-- a track that no entry is under isn't listed
unlisted : (p : NetParts) (entries : List Entry) (place : ℕ) (t : TrackPart) → HasNewTracks p → AreListings p entries → slice_get p.tracks place ≡ Some t
    → ((section : ℕ) → ¬ HasEntry entries place section) → ¬ IsOfSomeSection p place t
unfolding IsOfSomeSection
unlisted p entries place t new numbers is none (section, lists) =
    let entry = entry_of p entries section t.name numbers lists in
    let same : entry.0 ≡ place = same_number (λ (x : TrackPart). x.name) p.tracks new entry.0 place t.name entry.1 (map_at (λ (x : TrackPart). x.name) p.tracks place t is) in
    none section (subst (λ k. HasEntry entries k section) same entry.2)

-- a track of a section is listed
listed : (p : NetParts) (section place : ℕ) (t : TrackPart) → slice_get p.tracks place ≡ Some t → IsTrackOfSection p section place → IsOfSomeSection p place t
unfolding IsOfSomeSection
listed p section place t is of_section =
    let own : of_section.name ≡ t.name = same_Some of_section.name t.name (sym of_section.is_track ∙ map_at (λ (x : TrackPart). x.name) p.tracks place t is) in
    (section, subst (Lists p section) own of_section.listed)

no_entry : (entries : List Entry) (found : List (Option ℕ)) (place : ℕ) → AreValues entries found → slice_get found place ≡ Some None → (section : ℕ) → ¬ HasEntry entries place section
unfolding AreValues
no_entry entries found place values is = values place None is

an_entry : (entries : List Entry) (found : List (Option ℕ)) (place section : ℕ) → AreValues entries found → slice_get found place ≡ Some (Some section) → HasEntry entries place section
unfolding AreValues
an_entry entries found place section values is = values place (Some section) is

option_none : (o : Option ℕ) → ((x : ℕ) → o ≡ Some x → ⊥) → o ≡ None
option_none None other = refl
option_none (Some x) other = absurd (other x refl)

homes_more : (p : NetParts) (homes : List ℕ) (place section : ℕ) → length homes ≡ place → IsTrackOfSection p section place
    → ((track s : ℕ) → slice_get homes track ≡ Some s → IsTrackOfSection p s track) → (track s : ℕ) → slice_get (homes ++ section ∷ []) track ≡ Some s → IsTrackOfSection p s track
homes_more p homes place section count own each track s at = elim (push_at homes section track s at) [
  | inl before ↦ each track s before
  | inr here ↦ subst (IsTrackOfSection p s) (sym (here.0 ∙ count)) (subst (λ x. IsTrackOfSection p x place) here.1 own)
]

pub returns-in_default-found-clause-unlisted : goal.returns-in_default-found-clause-unlisted
returns-in_default-found-clause-unlisted c =
    let p = c.args.parts.now in
    let place = c.loop-place.place in
    let found = c.args.found.now in
    let low : place < length found = c.loop-place-test.true in
    let is : slice_get found place ≡ Some None = slice_get-get_or found place None low ∙ ap Some (option_none (get_or found place None) c.in_default-found.not-Some) in
    let within : place < length p.tracks = subst (λ n. place < n) c.requires.len low in
    let t = there_is p.tracks place within in
    record {
      before = c.loop-place.invariant.listed;
      item = t.0;
      is_there = t.1;
      breaks = unlisted p c.args.listings.now place t.0 c.requires.names c.requires.listings t.1 (no_entry c.args.listings.now found place c.requires.found is);
    }

pub loop-place-preserved : goal.loop-place-preserved
loop-place-preserved c =
    let p = c.args.parts.now in
    let place = c.loop-place.place in
    let found = c.args.found.now in
    let homes = c.loop-place.homes.items in
    let section = c.in-Some.section in
    let low : place < length found = c.loop-place-test.true in
    let is : slice_get found place ≡ Some (Some section) = slice_get-get_or found place None low ∙ ap Some c.in-Some.is in
    let home : IsTrackOfSection p section place = of_entry p c.args.listings.now place section c.requires.listings (an_entry c.args.listings.now found place section c.requires.found is) in
    let grown : c.push.new.self.items ≡ homes ++ section ∷ [] = c.in-Ok-push.ensures.items in
    record {
      count = ap length grown ∙ (length_push homes section ∙ ap (λ n. n + 1) c.loop-place.invariant.count);
      each = subst (λ hs. (track s : ℕ) → slice_get hs track ≡ Some s → IsTrackOfSection p s track) (sym grown)
          (homes_more p homes place section c.loop-place.invariant.count home c.loop-place.invariant.each);
      listed = holds_next (IsOfSomeSection p) p.tracks place c.loop-place.invariant.listed (λ t there. listed p section place t there home);
    }

pub returns-clause-listed : goal.returns-clause-listed
returns-clause-listed c =
    holds_all (IsOfSomeSection c.args.parts.now) c.args.parts.now.tracks c.loop-place.place (omega arith) c.loop-place.invariant.listed
