-- Lists that grow at their end, and what is in them.
use Rattle.std.proofs.Common.{◌≡◌, ◌≢◌, ◌+◌, ◌<◌, ◌⊎◌, Bool, true, set, inl, inr, ℕ, zero, suc, List, [], ◌∷◌, ◌++◌, length, map, take, get_or, Some, slice_get, refl, sym, ap, subst, ◌∙◌, arith, append_assoc}
use Rattle.std.specs.List.{AllZip, Contains, flat_map, range_with_len}
use Rattle.std.proofs.lemmas.Bool.{cases_eq}
use Rattle.std.proofs.lemmas.Option.{same_Some}
use Rattle.rail_net.proofs.ListLaws.{set_here, set_other}
use Rattle.std.proofs.lemmas.List.{append-nil, take_more}
use Rattle.std.proofs.lemmas.List.FromFn.{map-range_with_len_more}
use Rattle.std.proofs.lemmas.Grind.{flat_map-append}

-- the first item, and a later one
pub has_first : {X : Type 0} (x : X) (xs : List X) → Contains (x ∷ xs) x
has_first x xs = (zero, omega arith, refl)

pub has_later : {X : Type 0} (x : X) (xs : List X) (y : X) → Contains xs y → Contains (x ∷ xs) y
has_later x xs y (k, within, is) = (suc k, omega arith, is)

pub has_cases : {X : Type 0} (x : X) (xs : List X) (y : X) → Contains (x ∷ xs) y → (x ≡ y) ⊎ Contains xs y
has_cases x xs y (zero, within, is) = inl is
has_cases x xs y (suc k, within, is) = inr (k, omega arith, is)

-- one more number
range_suc : (a n : ℕ) → range_with_len a (suc n) ≡ range_with_len a n ++ (a + n) ∷ []
range_suc a zero = ap (λ m. m ∷ []) (let same : a ≡ a + 0 = omega arith in same)
range_suc a (suc n) = ap (λ xs. a ∷ xs) (range_suc (a + 1) n ∙ ap (λ m. range_with_len (a + 1) n ++ m ∷ []) (let same : a + 1 + n ≡ a + suc n = omega arith in same))

pub range_push : (a n : ℕ) → range_with_len a (n + 1) ≡ range_with_len a n ++ (a + n) ∷ []
range_push a n = ap (range_with_len a) (let same : n + 1 ≡ suc n = omega arith in same) ∙ range_suc a n

pub range_more : (n : ℕ) → range_with_len 0 (n + 1) ≡ range_with_len 0 n ++ n ∷ []
range_more n = range_push 0 n ∙ ap (λ m. range_with_len 0 n ++ m ∷ []) (let same : 0 + n ≡ n = omega arith in same)

-- one more item of a number, behind old ones
pub added_more : {X : Type 0} (f : ℕ → X) (old xs : List X) (k : ℕ) → xs ≡ old ++ map f (range_with_len 0 k) → xs ++ f k ∷ [] ≡ old ++ map f (range_with_len 0 (k + 1))
added_more f old xs k is =
    ap (λ ys. ys ++ f k ∷ []) is ∙ (append_assoc old (map f (range_with_len 0 k)) (f k ∷ []) ∙ ap (λ ys. old ++ ys) (sym (map-range_with_len_more f 0 k k (omega arith))))

-- the lists of the items up to a place, and that of the item there
pub flat_more : {X Y : Type 0} (f : X → List Y) (xs : List X) (i : ℕ) (d : X) → i < length xs → flat_map f (take (i + 1) xs) ≡ flat_map f (take i xs) ++ f (get_or xs i d)
flat_more f xs i d within =
    ap (flat_map f) (take_more xs i d within) ∙ (flat_map-append f (take i xs) (get_or xs i d ∷ []) ∙ ap (λ ys. flat_map f (take i xs) ++ ys) (append-nil (f (get_or xs i d))))

-- one more pair
pub zip_push : {X Y : Type 0} (R : X → Y → Type 0) (xs : List X) (ys : List Y) (x : X) (y : Y) → AllZip R xs ys → R x y → AllZip R (xs ++ x ∷ []) (ys ++ y ∷ [])
zip_push R [] [] x y zipped pair = (pair, tt)
zip_push R [] (b ∷ ys) x y zipped pair = absurd zipped
zip_push R (a ∷ xs) [] x y zipped pair = absurd zipped
zip_push R (a ∷ xs) (b ∷ ys) x y zipped pair = (zipped.0, zip_push R xs ys x y zipped.1 pair)

pub zip_more : {X Y : Type 0} (R : X → Y → Type 0) (xs : List X) (ys : List Y) (i : ℕ) (d : X) (y : Y) → i < length xs → AllZip R (take i xs) ys → R (get_or xs i d) y → AllZip R (take (i + 1) xs) (ys ++ y ∷ [])
zip_more R xs ys i d y within zipped pair = subst (λ zs. AllZip R zs (ys ++ y ∷ [])) (sym (take_more xs i d within)) (zip_push R (take i xs) ys (get_or xs i d) y zipped pair)

-- the only item of a list of one
pub one_of : {X : Type 0} (xs : List X) (d : X) → length xs ≡ 1 → xs ≡ get_or xs 0 d ∷ []
one_of [] d one = absurd (omega arith)
one_of (x ∷ []) d one = refl
one_of (x ∷ y ∷ xs) d one = absurd (omega arith)

-- a list of marks where one is set
pub mark_cases : (marks : List Bool) (at k : ℕ) (mark : Bool) → at < length marks → slice_get (set marks at true) k ≡ Some mark → ((k ≡ at) × (mark ≡ true)) ⊎ ((k ≢ at) × (slice_get marks k ≡ Some mark))
mark_cases marks at k mark within is = elim (cases_eq k at) [
  | inl same ↦ inl (same, sym (same_Some true mark (sym (set_here marks at true within) ∙ subst (λ j. slice_get (set marks at true) j ≡ Some mark) same is)))
  | inr other ↦ inr (other, sym (set_other marks at k true other) ∙ is)
]

-- one more pair, where the list is read through another that is the same
pub zip_read : {X Y : Type 0} (R : X → Y → Type 0) (xs seen : List X) (ys new : List Y) (i : ℕ) (x : X) (y : Y) → seen ≡ xs → i < length seen → x ≡ get_or seen i x → AllZip R (take i xs) ys → R x y → new ≡ ys ++ y ∷ [] → AllZip R (take (i + 1) xs) new
zip_read R xs seen ys new i x y same within is zipped pair more =
    let below : i < length xs = subst (λ zs. i < length zs) same within in
    let read : x ≡ get_or xs i x = subst (λ zs. x ≡ get_or zs i x) same is in
    subst (λ zs. AllZip R (take (i + 1) xs) zs) (sym more) (zip_more R xs ys i x y below zipped (subst (λ z. R z y) read pair))
