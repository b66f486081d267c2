-- Why `list_tracks` does what its contract says.
use Rattle.std.proofs.Common.{◌≡◌, ◌<◌, ◌≤◌, ◌∷◌, [], ◌++◌, ◌+◌, ℕ, List, length, take, get_or, slice_get, Some, subst, sym, ap, refl, ◌∙◌}
use Rattle.std.specs.List.{Contains}
use Rattle.std.proofs.lemmas.Option.{slice_get_read, slice_get_within, get_or_from_slice_get}
use Rattle.std.proofs.lemmas.List.{take_more, take_all}
use Rattle.rail_net.specs.Rules.{AreKnown}
use Rattle.rail_net.specs.Tables.{AddsListings}
use Rattle.rail_net.specs.declared.entries.Entry.{Entry}
use Rattle.rail_net.proofs.ListLaws.{contains_at}
use Rattle.rail_net.proofs.ListingLemmas.{adds_none, adds_more, known_none, known_more, known_at}
use Rattle.rail_net.proofs.sections.list_tracks.Goals as goal

pub loop-at-init : goal.loop-at-init
loop-at-init c = record { added = adds_none c.args.tracks.now c.args.place c.args.entries.now.items; known = known_none c.args.tracks.now }

-- the name at a place of the section's list
here : (texts seen : List (List ℕ)) (at : ℕ) (text : List ℕ) → seen ≡ texts → at < length seen → text ≡ get_or seen at text → slice_get texts at ≡ Some text
here texts seen at text same within is = subst (λ ts. slice_get ts at ≡ Some text) same (slice_get_read seen (length seen) at text refl within is)

-- the front of a list with one more item
front : (texts : List (List ℕ)) (at : ℕ) (text : List ℕ) → slice_get texts at ≡ Some text → take (at + 1) texts ≡ take at texts ++ text ∷ []
front texts at text is = take_more texts at text (slice_get_within texts at text is) ∙ ap (λ x. take at texts ++ x ∷ []) (get_or_from_slice_get texts at text text is)

pub returns-in-None-clause-unknown : goal.returns-in-None-clause-unknown
returns-in-None-clause-unknown c = λ said known.
    let texts = c.args.section.now.tracks in
    let text = c.index-names-at.result in
    let is = here texts c.as_slice-names.result.now c.loop-at.at text c.as_slice-names.ensures c.loop-at-test.true c.index-names-at.is in
    c.in-None.ensures (subst (Contains c.args.tracks.now) (sym c.as_str.ensures) (known_at c.args.tracks.now texts c.loop-at.at text is known))

pub loop-at-preserved : goal.loop-at-preserved
loop-at-preserved c =
    let texts = c.args.section.now.tracks in
    let tracks = c.args.tracks.now in
    let at = c.loop-at.at in
    let text = c.index-names-at.result in
    let old = c.args.entries.now.items in
    let new = c.loop-at.entries.items in
    let e : Entry = record { key = c.in-Some.track; value = c.args.place } in
    let is = here texts c.as_slice-names.result.now at text c.as_slice-names.ensures c.loop-at-test.true c.index-names-at.is in
    let found : slice_get tracks c.in-Some.track ≡ Some text = c.in-Some.ensures ∙ ap Some c.as_str.ensures in
    let grown : c.push.new.self.items ≡ new ++ e ∷ [] = c.in_ok-push-in-Some.ensures.items in
    record {
      added = subst (λ ts. AddsListings tracks c.args.place ts old c.push.new.self.items) (sym (front texts at text is))
          (subst (AddsListings tracks c.args.place (take at texts ++ text ∷ []) old) (sym grown)
          (adds_more tracks c.args.place (take at texts) text c.in-Some.track old new found c.loop-at.invariant.added));
      known = subst (AreKnown tracks) (sym (front texts at text is)) (known_more tracks (take at texts) text (contains_at tracks c.in-Some.track text found) c.loop-at.invariant.known);
    }

pub returns-clause-added : goal.returns-clause-added
returns-clause-added c = λ said.
    let texts = c.args.section.now.tracks in
    subst (λ ts. AddsListings c.args.tracks.now c.args.place ts c.args.entries.now.items c.loop-at.entries.items)
    (take_all c.loop-at.at texts (subst (λ ts. length ts ≤ c.loop-at.at) c.as_slice-names.ensures c.loop-at-test.false)) c.loop-at.invariant.added

pub returns-clause-known : goal.returns-clause-known
returns-clause-known c = λ said.
    let texts = c.args.section.now.tracks in
    subst (AreKnown c.args.tracks.now)
    (take_all c.loop-at.at texts (subst (λ ts. length ts ≤ c.loop-at.at) c.as_slice-names.ensures c.loop-at-test.false)) c.loop-at.invariant.known
