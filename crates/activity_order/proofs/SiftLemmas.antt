-- How the order of a heap is mended: one step up, one step down, and the ends of both ways.
use Rattle.std.proofs.Common.{◌≡◌, ◌≢◌, ℕ, zero, suc, ◌+◌, ◌-◌, ◌*◌, ◌/◌, ◌<◌, ◌≤◌, inl, inr, refl, ap, subst, arith}
use Rattle.std.proofs.lemmas.Bool.{cases_eq}
use Rattle.activity_order.specs.Heaps.{IsChild, IsOrdered, IsOrderedBut, IsOrderedBelow}

-- a place stands below one place alone
one_parent : (p q k : ℕ) → IsChild p k → IsChild q k → p ≡ q
one_parent p q k (inl a) (inl b) = omega arith
one_parent p q k (inl a) (inr b) = absurd (omega arith)
one_parent p q k (inr a) (inl b) = absurd (omega arith)
one_parent p q k (inr a) (inr b) = omega arith

pub below : (p k : ℕ) → IsChild p k → p < k
below p k (inl a) = omega arith
below p k (inr a) = omega arith

pub not_top : (p : ℕ) → IsChild p 0 → ⊥
not_top p (inl a) = absurd (omega arith)
not_top p (inr a) = absurd (omega arith)

pub half_is_parent : (place half : ℕ) → 0 < place → half ≡ (place - 1) / 2 → IsChild half place
half_is_parent place half some is = elim (cases_eq place (2 * half + 1)) [
  | inl odd ↦ inl odd
  | inr even ↦ inr (omega arith)
]

-- one step up: what stands at the parent comes down
pub up_step : (f g : ℕ → ℕ) (n at parent : ℕ) → IsChild parent at → at < n → f parent < f at → g at ≡ f parent → g parent ≡ f at → ((k : ℕ) → k ≢ at → k ≢ parent → g k ≡ f k) → IsOrderedBut f n at → IsOrderedBut g n parent
up_step f g n at parent child within higher down up same ordered = record {
  others = λ p k c short apart. elim (cases_eq k at) [
    | inl here ↦ omega (arith, ap g here, down, higher, up, ap g (one_parent p parent at (subst (IsChild p) here c) child))
    | inr elsewhere ↦ elim (cases_eq p at) [
      | inl there ↦ omega (arith, ap g there, down, same k elsewhere apart, ordered.across parent k child (subst (λ q. IsChild q k) there c) short)
      | inr not_at ↦ elim (cases_eq p parent) [
        | inl above ↦ omega (arith, ap g above, up, higher, same k elsewhere apart, ap f above, ordered.others p k c short elsewhere)
        | inr other ↦ omega (arith, same k elsewhere apart, same p not_at other, ordered.others p k c short elsewhere)
      ]
    ]
  ];
  across = λ p k top c short.
      let p_at : p ≢ at = λ is. omega (arith, is, below p parent top, below parent at child) in
      let p_parent : p ≢ parent = λ is. omega (arith, is, below p parent top) in
      let over : f parent ≤ f p = ordered.others p parent top (omega (arith, below parent at child)) (λ is. omega (arith, is, below parent at child)) in
      elim (cases_eq k at) [
        | inl here ↦ omega (arith, ap g here, down, same p p_at p_parent, over)
        | inr elsewhere ↦ omega (arith, same k elsewhere (λ is. omega (arith, is, below parent k c)), same p p_at p_parent, over, ordered.others parent k c short elsewhere)
      ];
}

-- the way up ends at the top, or below one that ranks no lower
pub up_top : (f : ℕ → ℕ) (n : ℕ) → IsOrderedBut f n 0 → IsOrdered f n
up_top f n ordered p k c short = ordered.others p k c short (λ is. not_top p (subst (IsChild p) is c))

pub up_end : (f : ℕ → ℕ) (n at parent : ℕ) → IsChild parent at → f at ≤ f parent → IsOrderedBut f n at → IsOrdered f n
up_end f n at parent child low ordered p k c short = elim (cases_eq k at) [
  | inl here ↦ omega (arith, ap f here, low, ap f (one_parent p parent at (subst (IsChild p) here c) child))
  | inr elsewhere ↦ ordered.others p k c short elsewhere
]

-- one step down: what stands at the greater child goes up
pub down_step : (f g : ℕ → ℕ) (n at child : ℕ) → IsChild at child → child < n → ((k : ℕ) → IsChild at k → k < n → f k ≤ f child) → f at < f child → g at ≡ f child → g child ≡ f at → ((k : ℕ) → k ≢ at → k ≢ child → g k ≡ f k) → IsOrderedBelow f n at → IsOrderedBelow g n child
down_step f g n at child is within greater higher up down same ordered = record {
  others = λ p k c short apart. elim (cases_eq p at) [
    | inl here ↦
        let c' : IsChild at k = subst (λ q. IsChild q k) here c in
        elim (cases_eq k child) [
          | inl there ↦ omega (arith, ap g there, down, ap g here, up, higher)
          | inr elsewhere ↦ omega (arith, ap g here, up, same k (λ e. omega (arith, e, below at k c')) elsewhere, greater k c' short)
        ]
    | inr elsewhere ↦ elim (cases_eq k at) [
      | inl there ↦ omega (arith, ap g there, up, same p elsewhere apart, ordered.across p child (subst (IsChild p) there c) is within)
      | inr other ↦ omega (arith, same k other (λ e. elsewhere (one_parent p at child (subst (IsChild p) e c) is)), same p elsewhere apart, ordered.others p k c short elsewhere)
    ]
  ];
  across = λ p k top c short.
      let p_at : p ≡ at = one_parent p at child top is in
      omega (arith, ap g p_at, up, same k (λ e. omega (arith, e, below child k c, below at child is)) (λ e. omega (arith, e, below child k c)), ordered.others child k c short (λ e. omega (arith, e, below at child is)));
}

pub down_leaf : (f : ℕ → ℕ) (n at : ℕ) → n ≤ 2 * at + 1 → IsOrderedBelow f n at → IsOrdered f n
down_leaf f n at none ordered p k c short = ordered.others p k c short (λ is. leaf k (subst (λ q. IsChild q k) is c) short) where
  leaf : (k : ℕ) → IsChild at k → k < n → ⊥
  leaf k (inl a) short = absurd (omega arith)
  leaf k (inr a) short = absurd (omega arith)

pub down_end : (f : ℕ → ℕ) (n at child : ℕ) → ((k : ℕ) → IsChild at k → k < n → f k ≤ f child) → f child ≤ f at → IsOrderedBelow f n at → IsOrdered f n
down_end f n at child greater low ordered p k c short = elim (cases_eq p at) [
  | inl here ↦ omega (arith, ap f here, low, greater k (subst (λ q. IsChild q k) here c) short)
  | inr elsewhere ↦ ordered.others p k c short elsewhere
]

-- none ranks above the one at the top
top_within : (f : ℕ → ℕ) (n : ℕ) → IsOrdered f n → (fuel k : ℕ) → k < fuel → k < n → f k ≤ f 0
top_within f n ordered zero k short within = absurd (omega arith)
top_within f n ordered (suc fuel) k short within = elim (cases_eq k 0) [
  | inl top ↦ omega (arith, ap f top)
  | inr below_top ↦
      let half : ℕ = (k - 1) / 2 in
      let c : IsChild half k = half_is_parent k half (omega arith) refl in
      omega (arith, ordered half k c within, top_within f n ordered fuel half (omega (arith, below half k c)) (omega (arith, below half k c)))
]

pub top_is_first : (f : ℕ → ℕ) (n : ℕ) → IsOrdered f n → (k : ℕ) → k < n → f k ≤ f 0
top_is_first f n ordered k within = top_within f n ordered (k + 1) k (omega arith) within
