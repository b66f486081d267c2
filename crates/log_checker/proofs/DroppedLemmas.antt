-- Laws of flags past whose end all count as not set.
use Rattle.std.proofs.Common.{◌≡◌, ℕ, zero, suc, ◌<◌, Bool, true, false, not, ◌&&◌, ◌||◌, inl, inr, List, [], ◌∷◌, length, get_or, set, replicate, refl, ap, sym, ◌∙◌}
use Rattle.std.specs.Prelude.{nat_eq}
use Rattle.std.proofs.lemmas.List.{get_or-set_same, get_or-set_other}
use Rattle.std.proofs.lemmas.Bool.{cases_eq, eq-eqb, ne_eqb}
use Rattle.std.proofs.Math.Bool.{or-false, or-true, and-false, and-true}

pub flag_set : (flags : List Bool) (place : ℕ) → place < length flags → (other : ℕ) → get_or (set flags place true) other false ≡ (get_or flags other false || nat_eq other place)
flag_set flags place within other = elim (cases_eq other place) [
  | inl same ↦ ap (λ at. get_or (set flags place true) at false) same ∙ (get_or-set_same flags place true false within ∙ sym (ap (λ b. get_or flags other false || b) (eq-eqb other place same) ∙ or-true (get_or flags other false)))
  | inr differs ↦ get_or-set_other flags place other true false differs ∙ sym (ap (λ b. get_or flags other false || b) (ne_eqb other place differs) ∙ or-false (get_or flags other false))
]

none_past : (flags : List Bool) (place : ℕ) → get_or (set flags place false) place false ≡ false
none_past [] place = refl
none_past (b ∷ flags) zero = refl
none_past (b ∷ flags) (suc place) = none_past flags place

pub flag_unset : (flags : List Bool) (place : ℕ) → (other : ℕ) → get_or (set flags place false) other false ≡ (get_or flags other false && not (nat_eq other place))
flag_unset flags place other = elim (cases_eq other place) [
  | inl same ↦ ap (λ at. get_or (set flags place false) at false) same ∙ (none_past flags place ∙ sym (ap (λ b. get_or flags other false && not b) (eq-eqb other place same) ∙ and-false (get_or flags other false)))
  | inr differs ↦ get_or-set_other flags place other false false differs ∙ sym (ap (λ b. get_or flags other false && not b) (ne_eqb other place differs) ∙ and-true (get_or flags other false))
]

pub all_unset : (n other : ℕ) → get_or (replicate n false) other false ≡ false
all_unset zero other = refl
all_unset (suc n) zero = refl
all_unset (suc n) (suc other) = all_unset n other

pub ruleset dropped_laws = (flag_set, flag_unset, all_unset)
