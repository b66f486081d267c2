-- Sums of the numbers from 1 on.
use Rattle.std.proofs.Common.{◌≡◌, ℕ, zero, suc, ◌+◌, ◌-◌, ◌*◌, ◌/◌, ◌≤◌, refl, ap, ◌∙◌, arith}
use Rattle.border_counter.specs.Counter.{sum_to}

pub sum_to-suc : (n : ℕ) → sum_to (suc n) ≡ sum_to n + suc n
unfolding sum_to
sum_to-suc n = omega arith

pub sum_to-zero : sum_to 0 ≡ 0
unfolding sum_to
sum_to-zero = refl

pub sum_to-pred : (n : ℕ) → 1 ≤ n → sum_to n ≡ sum_to (n - 1) + n
sum_to-pred zero some = absurd (omega arith)
sum_to-pred (suc n) some = let before : suc n - 1 ≡ n = omega arith in sum_to-suc n ∙ ap (λ m. sum_to m + suc n) (let back : n ≡ suc n - 1 = omega arith in back)

pub sum_to-more : (n : ℕ) → n ≤ sum_to n
sum_to-more zero = omega arith
sum_to-more (suc n) = omega (arith, sum_to-suc n)

le_by : (m n more : ℕ) → n ≡ m + more → sum_to m ≤ sum_to n
le_by m n zero same = omega (arith, ap sum_to same, ap (λ k. sum_to k) (let e : m + 0 ≡ m = omega arith in e))
le_by m n (suc more) same =
    let front : sum_to m ≤ sum_to (m + more) = le_by m (m + more) more refl in
    let last : n ≡ suc (m + more) = omega arith in
    omega (arith, front, ap sum_to last, sum_to-suc (m + more))

pub sum_to-le : (m n : ℕ) → m ≤ n → sum_to m ≤ sum_to n
sum_to-le m n within = le_by m n (n - m) (omega arith)

-- half of the product of two neighbouring numbers
pub half_product : (n : ℕ) → 1 ≤ n → (n - 1) * n / 2 ≡ sum_to (n - 1)
unfolding sum_to
half_product zero some = absurd (omega arith)
half_product (suc n) some = let before : suc n ≡ suc n - 1 + 1 = omega arith in ap (λ m. (suc n - 1) * m / 2) before
