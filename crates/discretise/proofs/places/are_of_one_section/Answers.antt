-- Why `are_of_one_section` does what its contract says.
use Rattle.std.proofs.Common.{◌≡◌, ◌↔◌, Bool, IsTrue, List, [], ◌∷◌, Some, None, slice_get, refl, sym, subst, ◌∙◌, arith}
use Rattle.std.proofs.lemmas.Option.{slice_get_within, get_or_from_slice_get}
use Rattle.discretise.specs.Places.{AreEndsOfOneSection, AreOfSection, track_of}
use Rattle.discretise.specs.declared.tracks.GridTrack.{GridTrack}
use Rattle.discretise.specs.declared.ends.TrackEnd.{TrackEnd}
use Rattle.discretise.proofs.places.are_of_one_section.Goals as goal

none_apart : (gs : List GridTrack) (ends : List TrackEnd) → slice_get ends 0 ≡ None → AreEndsOfOneSection gs ends
unfolding AreEndsOfOneSection
none_apart gs [] none = (0, λ k d within. absurd (omega arith))
none_apart gs (e ∷ ends) none = absurd (grind arith)

as_first : (gs : List GridTrack) (ends : List TrackEnd) (first : TrackEnd) (told : Bool) → slice_get ends 0 ≡ Some first → IsTrue told ↔ AreOfSection gs (track_of gs first).section ends → IsTrue told ↔ AreEndsOfOneSection gs ends
unfolding AreEndsOfOneSection
as_first gs ends first told is tells = (
  λ yes_told. ((track_of gs first).section, tells.0 yes_told),
  λ one. tells.1 (λ k d within.
      let its : (track_of gs first).section ≡ one.0 = subst (λ e. (track_of gs e).section ≡ one.0) (get_or_from_slice_get ends 0 first d is) (one.1 0 d (slice_get_within ends 0 first is)) in
      one.1 k d within ∙ sym its),
)

pub returns-in_default : goal.returns-in_default
returns-in_default c = (λ told. none_apart c.args.tracks.now c.args.ends.now (sym c.in_default.ensures.value), λ one. refl)

pub returns : goal.returns
returns c = as_first c.args.tracks.now c.args.ends.now c.in-Some.first.now c.are_of_section.result (sym c.in-Some.ensures.value) c.are_of_section.ensures
