-- Laws of ascending numbers, and of the search in them.
use Rattle.std.proofs.Common.{◌≡◌, ◌≢◌, ℕ, zero, suc, ◌+◌, ◌-◌, ◌<◌, ◌≤◌, inl, inr, List, [], ◌∷◌, ◌++◌, length, get_or, refl, ap, sym, subst, ◌∙◌, arith}
use Rattle.std.proofs.lemmas.Bool.{lt-ltb, le-ltb, cases_eq, cases_lt}
use Rattle.std.proofs.lemmas.List.{get_or_default}
use Rattle.sat_core.specs.declared.literal.ClauseId.{ClauseId}
use Rattle.log_checker.specs.Stored.{number_at, AscendsTo}

-- each number of the log is above the formula's and above those before it
pub AscendsTo-above : (from : ℕ) (numbers : List ClauseId) (last place : ℕ) (d : ClauseId) → AscendsTo from numbers last → place < length numbers → from + place < (get_or numbers place d).0
AscendsTo-above from [] last place d ascends within = absurd (omega arith)
AscendsTo-above from (id ∷ numbers) last zero d ascends within = omega (arith, ascends.0)
AscendsTo-above from (id ∷ numbers) last (suc place) d ascends within = omega (arith, ascends.0, AscendsTo-above id.0 numbers last place d ascends.1 (omega arith))

pub AscendsTo-last : (from : ℕ) (numbers : List ClauseId) (last : ℕ) → AscendsTo from numbers last → from + length numbers ≤ last
AscendsTo-last from [] last ascends = omega (arith, ascends)
AscendsTo-last from (id ∷ numbers) last ascends = omega (arith, ascends.0, AscendsTo-last id.0 numbers last ascends.1)

pub AscendsTo-pairs : (from : ℕ) (numbers : List ClauseId) (last : ℕ) → AscendsTo from numbers last → (i j : ℕ) (d : ClauseId) → i < j → j < length numbers → (get_or numbers i d).0 < (get_or numbers j d).0
AscendsTo-pairs from [] last ascends i j d before within = absurd (omega arith)
AscendsTo-pairs from (id ∷ numbers) last ascends zero zero d before within = absurd (omega arith)
AscendsTo-pairs from (id ∷ numbers) last ascends zero (suc j) d before within = omega (arith, AscendsTo-above id.0 numbers last j d ascends.1 (omega arith))
AscendsTo-pairs from (id ∷ numbers) last ascends (suc i) zero d before within = absurd (omega arith)
AscendsTo-pairs from (id ∷ numbers) last ascends (suc i) (suc j) d before within = AscendsTo-pairs id.0 numbers last ascends.1 i j d (omega arith) (omega arith)

pub AscendsTo-push : (from : ℕ) (numbers : List ClauseId) (last : ℕ) (id : ClauseId) → AscendsTo from numbers last → last < id.0 → AscendsTo from (numbers ++ id ∷ []) id.0
AscendsTo-push from [] last id ascends above = (omega (arith, ascends), refl)
AscendsTo-push from (first ∷ numbers) last id ascends above = (ascends.0, AscendsTo-push first.0 numbers last id ascends.1 above)

-- the number at a place of the formula, and of the log
pub number_at-own : (own : ℕ) (numbers : List ClauseId) (place : ℕ) → place < own → number_at own numbers place ≡ place + 1
number_at-own own numbers place within = rw (lt-ltb place own within) refl

pub number_at-log : (own : ℕ) (numbers : List ClauseId) (place : ℕ) → own ≤ place → number_at own numbers place ≡ (get_or numbers (place - own) (record { 0 = 0 })).0
number_at-log own numbers place behind = rw (le-ltb place own behind) refl

-- the numbers below `low` are too small, and those from `high` on are not
pub record IsBetween (numbers : List ClauseId) (wanted low high : ℕ) : Type 0 where
  pub in_order : low ≤ high
  pub within : high ≤ length numbers
  pub below : (k : ℕ) (d : ClauseId) → k < low → (get_or numbers k d).0 < wanted
  pub above : (k : ℕ) (d : ClauseId) → high ≤ k → k < length numbers → wanted ≤ (get_or numbers k d).0

abbrev pub Ascend : List ClauseId → Type 0
Ascend numbers = (i j : ℕ) (d : ClauseId) → i < j → j < length numbers → (get_or numbers i d).0 < (get_or numbers j d).0

at_default : (numbers : List ClauseId) (k : ℕ) (d e : ClauseId) → k < length numbers → (get_or numbers k d).0 ≡ (get_or numbers k e).0
at_default numbers k d e within = ap (λ (id : ClauseId). id.0) (get_or_default numbers k d e within)

pub IsBetween-low : (numbers : List ClauseId) (wanted low high middle : ℕ) (e : ClauseId) → Ascend numbers → IsBetween numbers wanted low high → low ≤ middle → middle < high → (get_or numbers middle e).0 < wanted → IsBetween numbers wanted (middle + 1) high
IsBetween-low numbers wanted low high middle e ascend between from to small = record {
  in_order = omega arith;
  within = between.within;
  below = λ k d under.
      let top : (get_or numbers middle d).0 < wanted = omega (arith, at_default numbers middle d e (omega (arith, between.within))) in
      elim (cases_eq k middle) [
        | inl same ↦ subst (λ place. (get_or numbers place d).0 < wanted) (sym same) top
        | inr differs ↦ omega (arith, ascend k middle d (omega arith) (omega (arith, between.within)))
      ];
  above = between.above;
}

pub IsBetween-high : (numbers : List ClauseId) (wanted low high middle : ℕ) (e : ClauseId) → Ascend numbers → IsBetween numbers wanted low high → low ≤ middle → middle < high → wanted ≤ (get_or numbers middle e).0 → IsBetween numbers wanted low middle
IsBetween-high numbers wanted low high middle e ascend between from to large = record {
  in_order = from;
  within = omega (arith, between.within);
  below = between.below;
  above = λ k d over within.
      let bottom : wanted ≤ (get_or numbers middle d).0 = omega (arith, at_default numbers middle d e (omega (arith, between.within))) in
      elim (cases_eq k middle) [
        | inl same ↦ subst (λ place. wanted ≤ (get_or numbers place d).0) (sym same) bottom
        | inr differs ↦ omega (arith, ascend middle k d (omega arith) within)
      ];
}

-- the number stands nowhere
pub IsBetween-missing : (numbers : List ClauseId) (wanted low : ℕ) (e : ClauseId) → Ascend numbers → IsBetween numbers wanted low low → (low < length numbers → (get_or numbers low e).0 ≢ wanted) → (k : ℕ) (d : ClauseId) → k < length numbers → (get_or numbers k d).0 ≢ wanted
IsBetween-missing numbers wanted low e ascend between not_here k d within same =
    elim (cases_eq k low) [
      | inl here ↦
          let inside : low < length numbers = omega arith in
          not_here inside (at_default numbers low e d inside ∙ (ap (λ place. (get_or numbers place d).0) (sym here) ∙ same))
      | inr differs ↦ elim (cases_lt k low) [
        | inl under ↦ omega (arith, between.below k d under)
        | inr over ↦ omega (arith, between.above low d (omega arith) (omega arith), ascend low k d (omega arith) within)
      ]
    ]

-- no place has the number 0, and none has a number that no list has
pub number_at-positive : (own : ℕ) (numbers : List ClauseId) (last place : ℕ) → AscendsTo own numbers last → place < own + length numbers → number_at own numbers place ≢ 0
number_at-positive own numbers last place ascends within zero_is = elim (cases_lt place own) [
  | inl formula ↦ omega (arith, number_at-own own numbers place formula)
  | inr log ↦ omega (arith, number_at-log own numbers place log, AscendsTo-above own numbers last (place - own) (record { 0 = 0 }) ascends (omega arith))
]

pub number_at-missing : (own : ℕ) (numbers : List ClauseId) (wanted place : ℕ) → own < wanted → ((k : ℕ) (d : ClauseId) → k < length numbers → (get_or numbers k d).0 ≢ wanted) → place < own + length numbers → number_at own numbers place ≢ wanted
number_at-missing own numbers wanted place above none within same = elim (cases_lt place own) [
  | inl formula ↦ omega (arith, number_at-own own numbers place formula)
  | inr log ↦ none (place - own) (record { 0 = 0 }) (omega arith) (sym (number_at-log own numbers place log) ∙ same)
]

pub number_at-behind : (own : ℕ) (numbers : List ClauseId) (behind : ℕ) (d : ClauseId) → behind < length numbers → number_at own numbers (own + behind) ≡ (get_or numbers behind d).0
number_at-behind own numbers behind d within =
    let place : own + behind - own ≡ behind = omega arith in
    number_at-log own numbers (own + behind) (omega arith) ∙ (ap (λ k. (get_or numbers k (record { 0 = 0 })).0) place ∙ at_default numbers behind (record { 0 = 0 }) d within)

pub ruleset number_laws = (number_at-own, number_at-behind, number_at-missing)
