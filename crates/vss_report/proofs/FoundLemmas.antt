-- Lines of the kinds that may stand at a place.
use Rattle.std.proofs.Common.{◌≡◌, ◌<◌, ◌≤◌, ◌+◌, inl, inr, ℕ, List, Some, slice_get, length, refl, sym, ap, subst, ◌∙◌, arith}
use Rattle.std.proofs.lemmas.Bool.{cases_eq}
use Rattle.std.proofs.lemmas.Option.{slice_get_within}
use Rattle.vss_text.specs.Reading.{EndsWithin, NeverBegins}
use Rattle.vss_report.specs.Lines.{line_kind, full_text}
use Rattle.vss_report.specs.Places.{kinds_at, MayStand}
use Rattle.vss_report.specs.Readings.{IsOfKind, IsFound}
use Rattle.vss_report.specs.declared.kind.Kind.{Kind}
use Rattle.vss_report.specs.declared.place.Place.{Place}
use Rattle.vss_report.specs.declared.read_line.ReadLine.{ReadLine}

-- no line of the first kinds stands at the front of the text
pub record AreTried (text : List ℕ) (kinds : List Kind) (count : ℕ) : Type 0 where
  pub never : (k : ℕ) (kind : Kind) → k < count → slice_get kinds k ≡ Some kind → NeverBegins (IsOfKind kind) full_text text

pub AreTried-none : (text : List ℕ) (kinds : List Kind) → AreTried text kinds 0
AreTried-none text kinds = record { never = λ k kind under. absurd (omega arith) }

pub AreTried-more : (text : List ℕ) (kinds : List Kind) (count : ℕ) (tried : Kind) → AreTried text kinds count → slice_get kinds count ≡ Some tried → NeverBegins (IsOfKind tried) full_text text → AreTried text kinds (count + 1)
AreTried-more text kinds count tried before is fails = record {
  never = λ k kind under at. elim (cases_eq k count) [
    | inl here ↦
        let same : Some tried ≡ Some kind = sym is ∙ (ap (slice_get kinds) (sym here) ∙ at) in
        let one : tried ≡ kind = cc in
        subst (λ t. NeverBegins (IsOfKind t) full_text text) one fails
    | inr earlier ↦ before.never k kind (omega arith) at
  ];
}

in_range : {X : Type 0} (xs : List X) (k : ℕ) (x : X) → slice_get xs k ≡ Some x → k < length xs
in_range xs k x is = slice_get_within xs k x is

pub AreTried-all : (text : List ℕ) (place : Place) (kinds : List Kind) (count : ℕ) → kinds ≡ kinds_at place → length kinds ≤ count → AreTried text kinds count → NeverBegins (MayStand place) full_text text
unfolding NeverBegins
AreTried-all text place kinds count is all tried = λ l more rest fits same.
    let at : slice_get kinds fits.among.place ≡ Some (line_kind l) = ap (λ ks. slice_get ks fits.among.place) is ∙ fits.among.is_there in
    tried.never fits.among.place (line_kind l) (omega (arith, in_range kinds fits.among.place (line_kind l) at)) at l more rest (record { spelled = fits.spelled; kind_is = refl }) same

pub found_at : (text rest : List ℕ) (place : Place) (kinds : List Kind) (k : ℕ) (kind : Kind) (found : ReadLine) → kinds ≡ kinds_at place → slice_get kinds k ≡ Some kind → IsFound (IsOfKind kind) text found rest → IsFound (MayStand place) text found rest
found_at text rest place kinds k kind found is at line = record {
  line = line.line;
  fits = record {
    spelled = line.fits.spelled;
    among = record { place = k; is_there = ap (λ ks. slice_get ks k) (sym is) ∙ (at ∙ ap Some (sym line.fits.kind_is)) };
  };
  says = line.says;
  is_front = line.is_front;
}

pub short_at : (text : List ℕ) (place : Place) (kinds : List Kind) (k : ℕ) (kind : Kind) → kinds ≡ kinds_at place → slice_get kinds k ≡ Some kind → EndsWithin (IsOfKind kind) full_text text → EndsWithin (MayStand place) full_text text
short_at text place kinds k kind is at within = record {
  item = within.item;
  more = within.more;
  fits = record {
    spelled = within.fits.spelled;
    among = record { place = k; is_there = ap (λ ks. slice_get ks k) (sym is) ∙ (at ∙ ap Some (sym within.fits.kind_is)) };
  };
  goes_on = within.goes_on;
  too_early = within.too_early;
}
