-- Lists of clauses over ranges of numbers.
use Rattle.std.proofs.Common.{◌≡◌, ℕ, zero, suc, ◌+◌, ◌-◌, ◌<◌, List, [], ◌++◌, sym, ap, ◌∙◌, arith, append_assoc}
use Rattle.std.specs.List.{range_with_len, flat_map}
use Rattle.std.proofs.lemmas.List.{append-nil}
use Rattle.std.proofs.lemmas.List.Concat.{flat_map-cons}

-- one number more
pub more : {A : Type 0} (f : ℕ → List A) (a n next : ℕ) → next ≡ a + n → flat_map f (range_with_len a (n + 1)) ≡ flat_map f (range_with_len a n) ++ f next
more f a zero next same = flat_map-cons f a [] ∙ (append-nil (f a) ∙ ap f (let e : a ≡ next = omega arith in e))
more f a (suc n) next same =
    let others = more f (a + 1) n next (omega arith) in
    let here = flat_map-cons f a (range_with_len (a + 1) n) in
    let number : suc n + 1 ≡ suc (n + 1) = omega arith in
    ap (λ m. flat_map f (range_with_len a m)) number ∙ (flat_map-cons f a (range_with_len (a + 1) (n + 1)) ∙ (ap (λ xs. f a ++ xs) others ∙ (sym (append_assoc (f a) (flat_map f (range_with_len (a + 1) n)) (f next)) ∙ ap (λ xs. xs ++ f next) (sym here))))

-- the part of one number, between those before it and those behind it
pub split_at : {A : Type 0} (f : ℕ → List A) (a n k next : ℕ) → k < n → next ≡ a + k → flat_map f (range_with_len a n) ≡ flat_map f (range_with_len a k) ++ (f next ++ flat_map f (range_with_len (next + 1) (n - (k + 1))))
split_at f a zero k next within same = absurd (omega arith)
split_at f a (suc n) zero next within same =
    let at : a ≡ next = omega arith in
    let rest : n ≡ suc n - (0 + 1) = omega arith in
    flat_map-cons f a (range_with_len (a + 1) n) ∙ (ap (λ b. f b ++ flat_map f (range_with_len (b + 1) n)) at ∙ ap (λ m. f next ++ flat_map f (range_with_len (next + 1) m)) rest)
split_at f a (suc n) (suc k) next within same =
    let others = split_at f (a + 1) n k next (omega arith) (omega arith) in
    let rest : n - (k + 1) ≡ suc n - (suc k + 1) = omega arith in
    let here = flat_map-cons f a (range_with_len (a + 1) k) in
    flat_map-cons f a (range_with_len (a + 1) n) ∙ (ap (λ xs. f a ++ xs) others ∙ (sym (append_assoc (f a) (flat_map f (range_with_len (a + 1) k)) (f next ++ flat_map f (range_with_len (next + 1) (n - (k + 1))))) ∙ (ap (λ xs. xs ++ (f next ++ flat_map f (range_with_len (next + 1) (n - (k + 1))))) (sym here) ∙ ap (λ m. flat_map f (range_with_len a (suc k)) ++ (f next ++ flat_map f (range_with_len (next + 1) m))) rest)))
