-- Lists joined from pieces: what they contain, and that they stay in order.
use Rattle.std.proofs.Common.{◌≡◌, ◌<◌, ◌-◌, inl, inr, zero, suc, List, [], ◌∷◌, ◌++◌, length, get_or, sym, refl, subst, arith, length-append}
use Rattle.std.specs.Prelude.{Contains, AllPairs}
use Rattle.std.specs.List.{flat_map}
use Rattle.std.proofs.lemmas.Bool.{cases_lt}
use Rattle.std.proofs.lemmas.List.{get_or_append_left, get_or-append_right}
use Rattle.std.proofs.lemmas.List.Elements.{Contains-append_left, Contains-append_right, Contains-append_cases, Contains-get_or}

-- an item of a joined list is of some piece
pub Contains-from_flat_map : {X Y : Type 0} (f : X → List Y) (xs : List X) (y : Y) → Contains (flat_map f xs) y → (x : X) × Contains xs x × Contains (f x) y
Contains-from_flat_map f [] y there = absurd (let none : there.0 < 0 = there.1 in omega arith)
Contains-from_flat_map f (x ∷ xs) y there = elim (Contains-append_cases (f x) (flat_map f xs) y there) [
  | inl here ↦ (x, (0, omega arith, refl), here)
  | inr rest ↦ let found = Contains-from_flat_map f xs y rest in (found.0, (suc found.1.0, omega (arith, found.1.1), found.1.2), found.2)
]

-- what a piece has, the joined list has
pub Contains-flat_map : {X Y : Type 0} (f : X → List Y) (xs : List X) (x : X) (y : Y) → Contains xs x → Contains (f x) y → Contains (flat_map f xs) y
Contains-flat_map f [] x y there here = absurd (let none : there.0 < 0 = there.1 in omega arith)
Contains-flat_map f (z ∷ zs) x y (zero, within, same) here = Contains-append_left (f z) (flat_map f zs) y (subst (λ w. Contains (f w) y) (sym same) here)
Contains-flat_map f (z ∷ zs) x y (suc k, within, same) here = Contains-append_right (f z) (flat_map f zs) y (Contains-flat_map f zs x y (k, omega arith, same) here)

-- two lists in order, each item of the one before each of the other
pub AllPairs-append : {X : Type 0} (R : X → X → Type 0) (xs ys : List X) → AllPairs R xs → AllPairs R ys → ((x y : X) → Contains xs x → Contains ys y → R x y) → AllPairs R (xs ++ ys)
AllPairs-append R xs ys first second across i j d low high =
    let total = length-append xs ys in
    elim (cases_lt j (length xs)) [
      | inl inside ↦
          let at_i : get_or (xs ++ ys) i d ≡ get_or xs i d = get_or_append_left xs ys d i (omega arith) in
          let at_j : get_or (xs ++ ys) j d ≡ get_or xs j d = get_or_append_left xs ys d j inside in
          rw (at_i, at_j) (first i j d low inside)
      | inr past_j ↦
          let at_j : get_or (xs ++ ys) j d ≡ get_or ys (j - length xs) d = get_or-append_right xs ys (length xs) j d refl past_j in
          let in_j : j - length xs < length ys = omega arith in
          elim (cases_lt i (length xs)) [
            | inl inside ↦
                let at_i : get_or (xs ++ ys) i d ≡ get_or xs i d = get_or_append_left xs ys d i inside in
                rw (at_i, at_j) (across (get_or xs i d) (get_or ys (j - length xs) d) (Contains-get_or xs i d inside) (Contains-get_or ys (j - length xs) d in_j))
            | inr past_i ↦
                let at_i : get_or (xs ++ ys) i d ≡ get_or ys (i - length xs) d = get_or-append_right xs ys (length xs) i d refl past_i in
                rw (at_i, at_j) (second (i - length xs) (j - length xs) d (omega arith) in_j)
          ]
    ]

pub AllPairs-tail : {X : Type 0} (R : X → X → Type 0) (x : X) (xs : List X) → AllPairs R (x ∷ xs) → AllPairs R xs
AllPairs-tail R x xs pairs i j d low high = pairs (suc i) (suc j) d (omega arith) (omega arith)

pub AllPairs-head : {X : Type 0} (R : X → X → Type 0) (x y : X) (xs : List X) → AllPairs R (x ∷ xs) → Contains xs y → R x y
AllPairs-head R x y xs pairs there = subst (R x) there.2 (pairs 0 (suc there.0) y (omega arith) (omega (arith, there.1)))

in_tail : {X : Type 0} (x : X) (xs : List X) (y : X) → Contains xs y → Contains (x ∷ xs) y
in_tail x xs y there = (suc there.0, omega (arith, there.1), there.2)

-- pieces in order, and each item of a piece before each of a later piece
pub AllPairs-flat_map : {X Y : Type 0} (S : X → X → Type 0) (R : Y → Y → Type 0) (f : X → List Y) (xs : List X) → AllPairs S xs →
    ((x : X) → Contains xs x → AllPairs R (f x)) → ((w x : X) (u v : Y) → Contains xs w → Contains xs x → S w x → Contains (f w) u → Contains (f x) v → R u v) → AllPairs R (flat_map f xs)
AllPairs-flat_map S R f [] order inside across = λ i j d low high. absurd (omega arith)
AllPairs-flat_map S R f (x ∷ xs) order inside across =
    AllPairs-append R (f x) (flat_map f xs) (inside x (0, omega arith, refl))
    (AllPairs-flat_map S R f xs (AllPairs-tail S x xs order) (λ z there. inside z (in_tail x xs z there)) (λ w z u v at_w at_z. across w z u v (in_tail x xs w at_w) (in_tail x xs z at_z)))
    (λ u v here there. let found = Contains-from_flat_map f xs v there in
    across x found.0 u v (0, omega arith, refl) (in_tail x xs found.0 found.1) (AllPairs-head S x found.0 xs order found.1) here found.2)
