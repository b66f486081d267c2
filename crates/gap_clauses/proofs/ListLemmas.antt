-- Lists: what a test keeps, the beginnings of lists, and that different items are no more than those that they are among.
use Rattle.std.proofs.Common.{◌≡◌, ◌≢◌, ◌<◌, ◌≤◌, ◌+◌, ◌⊎◌, inl, inr, ℕ, zero, suc, Bool, true, false, List, [], ◌∷◌, ◌++◌, length, get_or, refl, sym, ap, ◌∙◌, subst, arith, length-append}
use Rattle.std.specs.Prelude.{AllPairs, Contains}
use Rattle.std.specs.List.{filter}
use Rattle.std.proofs.lemmas.Bool.{cases_Bool}
use Rattle.std.proofs.lemmas.List.{get_or_append_left}
use Rattle.vss_rows.proofs.JoinedLaws.{AllPairs-tail, AllPairs-head}

pub nothing_in_nil : {X Y : Type 0} (x : X) → Contains [] x → Y
nothing_in_nil x there = absurd (let low : there.0 < 0 = there.1 in omega arith)

pub in_tail : {X : Type 0} (x : X) (xs : List X) (y : X) → Contains xs y → Contains (x ∷ xs) y
in_tail x xs y there = (suc there.0, omega (arith, there.1), there.2)

pub in_cons : {X : Type 0} (x y : X) (xs : List X) → Contains (x ∷ xs) y → (x ≡ y) ⊎ Contains xs y
in_cons x y xs (zero, within, same) = inl same
in_cons x y xs (suc k, within, same) = inr (k, omega arith, same)

-- what a test keeps
pub filter_yes : {X : Type 0} (t : X → Bool) (x : X) (xs : List X) → t x ≡ true → filter t (x ∷ xs) ≡ x ∷ filter t xs
filter_yes t x xs passes = rw passes refl

pub filter_no : {X : Type 0} (t : X → Bool) (x : X) (xs : List X) → t x ≡ false → filter t (x ∷ xs) ≡ filter t xs
filter_no t x xs never = rw never refl

pub Contains-filter : {X : Type 0} (t : X → Bool) (xs : List X) (x : X) → Contains xs x → t x ≡ true → Contains (filter t xs) x
Contains-filter t [] x there passes = nothing_in_nil x there
Contains-filter t (y ∷ ys) x (zero, within, same) passes =
    subst (λ zs. Contains zs x) (sym (filter_yes t y ys (ap t same ∙ passes))) (0, omega arith, same)
Contains-filter t (y ∷ ys) x (suc k, within, same) passes =
    let rest : Contains (filter t ys) x = Contains-filter t ys x (k, omega arith, same) passes in
    elim (cases_Bool (t y)) [
      | inl here ↦ subst (λ zs. Contains zs x) (sym (filter_yes t y ys here)) (in_tail y (filter t ys) x rest)
      | inr never ↦ subst (λ zs. Contains zs x) (sym (filter_no t y ys never)) rest
    ]

pub Contains-from_filter : {X : Type 0} (t : X → Bool) (xs : List X) (x : X) → Contains (filter t xs) x → Contains xs x × (t x ≡ true)
Contains-from_filter t [] x there = nothing_in_nil x there
Contains-from_filter t (y ∷ ys) x there = elim (cases_Bool (t y)) [
  | inl here ↦ elim (in_cons y x (filter t ys) (subst (λ zs. Contains zs x) (filter_yes t y ys here) there)) [
    | inl same ↦ ((0, omega arith, same), ap t (sym same) ∙ here)
    | inr later ↦ let rest = Contains-from_filter t ys x later in (in_tail y ys x rest.0, rest.1)
  ]
  | inr never ↦ let rest = Contains-from_filter t ys x (subst (λ zs. Contains zs x) (filter_no t y ys never) there) in (in_tail y ys x rest.0, rest.1)
]

-- a list without the item at a place
abbrev remove : {X : Type 0} → List X → ℕ → List X
remove [] k = []
remove (y ∷ ys) zero = ys
remove (y ∷ ys) (suc k) = y ∷ remove ys k

length_remove : {X : Type 0} (ys : List X) (k : ℕ) → k < length ys → length (remove ys k) + 1 ≡ length ys
length_remove [] k within = absurd (omega arith)
length_remove (y ∷ ys) zero within = omega arith
length_remove (y ∷ ys) (suc k) within = omega (arith, length_remove ys k (omega arith))

remains : {X : Type 0} (ys : List X) (k : ℕ) (x z : X) → k < length ys → get_or ys k x ≡ x → z ≢ x → Contains ys z → Contains (remove ys k) z
remains [] k x z within at other there = nothing_in_nil z there
remains (y ∷ ys) zero x z within at other (zero, inside, same) = absurd (other (sym same ∙ at))
remains (y ∷ ys) zero x z within at other (suc j, inside, same) = (j, omega arith, same)
remains (y ∷ ys) (suc k) x z within at other (zero, inside, same) = (0, omega arith, same)
remains (y ∷ ys) (suc k) x z within at other (suc j, inside, same) = in_tail y (remove ys k) z (remains ys k x z (omega arith) at other (j, omega arith, same))

-- different items are no more than those that they are among
pub no_more_than : {X : Type 0} (xs ys : List X) → AllPairs ◌≢◌ xs → ((x : X) → Contains xs x → Contains ys x) → length xs ≤ length ys
no_more_than [] ys pairs among = omega arith
no_more_than (x ∷ xs) ys pairs among =
    let there = among x (0, omega arith, refl) in
    let fewer : length xs ≤ length (remove ys there.0) = no_more_than xs (remove ys there.0) (AllPairs-tail ◌≢◌ x xs pairs)
    (λ z at. remains ys there.0 x z there.1 there.2 (λ same. AllPairs-head ◌≢◌ x z xs pairs at (sym same)) (among z (in_tail x xs z at))) in
    omega (arith, fewer, length_remove ys there.0 there.1)

-- the beginning of a list in order is in order
pub AllPairs-begin : {X : Type 0} (R : X → X → Type 0) (xs ys : List X) → AllPairs R (xs ++ ys) → AllPairs R xs
AllPairs-begin R xs ys pairs i j d low high =
    let at_i : get_or (xs ++ ys) i d ≡ get_or xs i d = get_or_append_left xs ys d i (omega arith) in
    let at_j : get_or (xs ++ ys) j d ≡ get_or xs j d = get_or_append_left xs ys d j high in
    let total = length-append xs ys in
    rw (sym at_i, sym at_j) (pairs i j d low (omega arith))

middle : {X : Type 0} (xs : List X) (y : X) (ys : List X) → get_or (xs ++ y ∷ ys) (length xs) y ≡ y
middle [] y ys = refl
middle (x ∷ xs) y ys = middle xs y ys

-- what comes behind isn't among what is before it
pub not_before : {X : Type 0} (xs : List X) (y : X) (ys : List X) → AllPairs ◌≢◌ (xs ++ y ∷ ys) → ¬ Contains xs y
not_before [] y ys pairs there = nothing_in_nil y there
not_before (x ∷ xs) y ys pairs there = elim (in_cons x y xs there) [
  | inl same ↦ AllPairs-head ◌≢◌ x y (xs ++ y ∷ ys) pairs (length xs, omega (arith, length-append xs (y ∷ ys)), middle xs y ys) same
  | inr later ↦ not_before xs y ys (AllPairs-tail ◌≢◌ x (xs ++ y ∷ ys) pairs) later
]
