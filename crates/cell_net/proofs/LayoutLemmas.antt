-- On borders that rise.
use Rattle.std.proofs.Common.{◌≡◌, ◌+◌, ◌<◌, ◌≤◌, inl, inr, ℕ, List, length, ltb, true, false, get_or, Contains, arith, refl, ap, ◌∙◌}
use Rattle.std.proofs.lemmas.Bool.{cases_lt}
use Rattle.std.proofs.lemmas.Bool.Decides.{nat_tests}
use Rattle.std.proofs.lemmas.Option.{slice_get-get_or}
use Rattle.std.proofs.lemmas.List.{get_or_default}
use Rattle.std.proofs.lemmas.List.Sorted.{IsNonDecreasingBy-from_all_adjacent}
use Rattle.std.specs.List.Sorted.{IsNonDecreasingBy, IsPartitionPoint}
use Rattle.vss_lists.specs.Breaks.{HoldsOfEach}
use Rattle.cell_net.specs.Borders.{RisesAt}
use Rattle.cell_net.specs.declared.ids.CandidateId.{CandidateId}

module _ (bs : List CandidateId) (rising : HoldsOfEach (RisesAt bs) bs) where
  pub non_decreasing : IsNonDecreasingBy (λ b. b.0) bs
  non_decreasing = IsNonDecreasingBy-from_all_adjacent (λ (b : CandidateId). b.0) bs
      (λ k d below. let less : (get_or bs k d).0 < (get_or bs (k + 1) d).0 =
      rising.at_each (k + 1) (get_or bs (k + 1) d) (slice_get-get_or bs (k + 1) d below) k (get_or bs k d) refl (slice_get-get_or bs k d (omega arith)) in
      omega arith)

  module _ (id : CandidateId) (k : ℕ) (point : IsPartitionPoint (λ b. b.0 < id.0) (λ b. id.0 ≤ b.0) bs k) where
    -- a border that is there stands at the point
    pub stands_at : Contains bs id → (k < length bs) × ((d : CandidateId) → (get_or bs k d).0 ≡ id.0)
    stands_at (j, within, is) =
        let its : (get_or bs j id).0 ≡ id.0 = ap (λ (b : CandidateId). b.0) is in
        let low : k ≤ j = elim (cases_lt j k) [ inl early ↦ absurd (let less : (get_or bs j id).0 < id.0 = point.0 j id (omega arith) early in omega arith) | inr past ↦ past ] in
        let above : id.0 ≤ (get_or bs k id).0 = point.1 k id (omega arith) (omega arith) in
        let below : (get_or bs k id).0 ≤ (get_or bs j id).0 = non_decreasing k j id low within in
        let number : (get_or bs k id).0 ≡ id.0 = omega arith in
        (omega arith, λ d. ap (λ (b : CandidateId). b.0) (get_or_default bs k d id (omega arith)) ∙ number)

-- a border at a place is there
pub contains_at : (bs : List CandidateId) (k : ℕ) (id d : CandidateId) → k < length bs → (get_or bs k d).0 ≡ id.0 → Contains bs id
contains_at bs k id d within is =
    let number : (get_or bs k id).0 ≡ id.0 = ap (λ (b : CandidateId). b.0) (get_or_default bs k id d within) ∙ is in
    (k, within, (λ i. record { 0 = number i }))

pub below_from_tests : (bs : List CandidateId) (n k : ℕ) → IsPartitionPoint (λ b. ltb b.0 n ≡ true) (λ b. ltb b.0 n ≡ false) bs k →
    IsPartitionPoint (λ b. b.0 < n) (λ b. n ≤ b.0) bs k
below_from_tests bs n k point = (
  λ i d low high. let t : ltb (get_or bs i d).0 n ≡ true = point.0 i d low high in grind (arith, nat_tests),
  λ i d low high. let t : ltb (get_or bs i d).0 n ≡ false = point.1 i d low high in grind (arith, nat_tests),
)
