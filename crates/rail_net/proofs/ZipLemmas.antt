-- What two lists give in pairs.
use Rattle.std.proofs.Common.{◌≡◌, ◌<◌, ◌+◌, inl, inr, ℕ, zero, suc, List, [], ◌∷◌, ◌++◌, length, take, get_or, Some, slice_get, refl, sym, ap, subst, ◌∙◌, arith, append_assoc}
use Rattle.std.specs.List.{Contains}
use Rattle.std.proofs.lemmas.List.{append-nil, take_more, length-take-le}
use Rattle.std.proofs.lemmas.List.Elements.{Contains-append_cases, Contains-append_left, Contains-append_right}
use Rattle.std.proofs.lemmas.Option.{same_Some}
use Rattle.rail_net.specs.Tables.{zipped, joined_pairs}

module _ {X Y Z : Type 0} (f : X → Y → Z) where
  zipped_push : (xs : List X) (ys : List Y) (x : X) (y : Y) → length xs ≡ length ys → zipped f (xs ++ x ∷ []) (ys ++ y ∷ []) ≡ zipped f xs ys ++ f x y ∷ []
  zipped_push [] [] x y same = refl
  zipped_push [] (b ∷ ys) x y same = absurd (omega arith)
  zipped_push (a ∷ xs) [] x y same = absurd (omega arith)
  zipped_push (a ∷ xs) (b ∷ ys) x y same = ap (λ zs. f a b ∷ zs) (zipped_push xs ys x y (omega arith))

  pub zipped_more : (xs : List X) (ys : List Y) (i : ℕ) (dx : X) (dy : Y) → i < length xs → i < length ys
      → zipped f (take (i + 1) xs) (take (i + 1) ys) ≡ zipped f (take i xs) (take i ys) ++ f (get_or xs i dx) (get_or ys i dy) ∷ []
  zipped_more xs ys i dx dy in_xs in_ys =
      ap (λ zs. zipped f zs (take (i + 1) ys)) (take_more xs i dx in_xs)
      ∙ (ap (zipped f (take i xs ++ get_or xs i dx ∷ [])) (take_more ys i dy in_ys)
      ∙ zipped_push (take i xs) (take i ys) (get_or xs i dx) (get_or ys i dy) (length-take-le i xs (omega arith) ∙ sym (length-take-le i ys (omega arith))))

  pub length_zipped : (xs : List X) (ys : List Y) → length xs ≡ length ys → length (zipped f xs ys) ≡ length xs
  length_zipped [] ys same = refl
  length_zipped (x ∷ xs) [] same = absurd (omega arith)
  length_zipped (x ∷ xs) (y ∷ ys) same = let rest = length_zipped xs ys (omega arith) in omega arith

  -- what stands at a place comes of the two items there
  pub zipped_at : (xs : List X) (ys : List Y) (k : ℕ) (z : Z) → slice_get (zipped f xs ys) k ≡ Some z → (x : X) × (y : Y) × (slice_get xs k ≡ Some x) × (slice_get ys k ≡ Some y) × (f x y ≡ z)
  zipped_at [] ys k z is = absurd (grind arith)
  zipped_at (x ∷ xs) [] k z is = absurd (grind arith)
  zipped_at (x ∷ xs) (y ∷ ys) zero z is = (x, y, refl, refl, same_Some (f x y) z is)
  zipped_at (x ∷ xs) (y ∷ ys) (suc k) z is = zipped_at xs ys k z is

  pub at_zipped : (xs : List X) (ys : List Y) (k : ℕ) (x : X) (y : Y) → slice_get xs k ≡ Some x → slice_get ys k ≡ Some y → slice_get (zipped f xs ys) k ≡ Some (f x y)
  at_zipped [] ys k x y in_xs in_ys = absurd (grind arith)
  at_zipped (a ∷ xs) [] k x y in_xs in_ys = absurd (grind arith)
  at_zipped (a ∷ xs) (b ∷ ys) zero x y in_xs in_ys =
      let one : a ≡ x = same_Some a x in_xs in
      let other : b ≡ y = same_Some b y in_ys in
      ap Some (ap (λ c. f c b) one ∙ ap (f x) other)
  at_zipped (a ∷ xs) (b ∷ ys) (suc k) x y in_xs in_ys = at_zipped xs ys k x y in_xs in_ys

module _ {X Y Z : Type 0} (f : X → Y → List Z) where
  joined_push : (xs : List X) (ys : List Y) (x : X) (y : Y) → length xs ≡ length ys → joined_pairs f (xs ++ x ∷ []) (ys ++ y ∷ []) ≡ joined_pairs f xs ys ++ f x y
  joined_push [] [] x y same = append-nil (f x y)
  joined_push [] (b ∷ ys) x y same = absurd (omega arith)
  joined_push (a ∷ xs) [] x y same = absurd (omega arith)
  joined_push (a ∷ xs) (b ∷ ys) x y same = ap (λ zs. f a b ++ zs) (joined_push xs ys x y (omega arith)) ∙ sym (append_assoc (f a b) (joined_pairs f xs ys) (f x y))

  pub joined_more : (xs : List X) (ys : List Y) (i : ℕ) (dx : X) (dy : Y) → i < length xs → i < length ys
      → joined_pairs f (take (i + 1) xs) (take (i + 1) ys) ≡ joined_pairs f (take i xs) (take i ys) ++ f (get_or xs i dx) (get_or ys i dy)
  joined_more xs ys i dx dy in_xs in_ys =
      ap (λ zs. joined_pairs f zs (take (i + 1) ys)) (take_more xs i dx in_xs)
      ∙ (ap (joined_pairs f (take i xs ++ get_or xs i dx ∷ [])) (take_more ys i dy in_ys)
      ∙ joined_push (take i xs) (take i ys) (get_or xs i dx) (get_or ys i dy) (length-take-le i xs (omega arith) ∙ sym (length-take-le i ys (omega arith))))

  -- what is in the lists comes of two items at one place
  pub joined_has : (xs : List X) (ys : List Y) (z : Z) → Contains (joined_pairs f xs ys) z → (k : ℕ) × (x : X) × (y : Y) × (slice_get xs k ≡ Some x) × (slice_get ys k ≡ Some y) × Contains (f x y) z
  joined_has [] ys z there = absurd (omega (arith, there.1))
  joined_has (x ∷ xs) [] z there = absurd (omega (arith, there.1))
  joined_has (x ∷ xs) (y ∷ ys) z there = elim (Contains-append_cases (f x y) (joined_pairs f xs ys) z there) [
    | inl here ↦ (zero, x, y, refl, refl, here)
    | inr later ↦ let rest = joined_has xs ys z later in (suc rest.0, rest.1, rest.2, rest.3, rest.4, rest.5)
  ]

  pub has_joined : (xs : List X) (ys : List Y) (k : ℕ) (x : X) (y : Y) (z : Z) → slice_get xs k ≡ Some x → slice_get ys k ≡ Some y → Contains (f x y) z → Contains (joined_pairs f xs ys) z
  has_joined [] ys k x y z in_xs in_ys there = absurd (grind arith)
  has_joined (a ∷ xs) [] k x y z in_xs in_ys there = absurd (grind arith)
  has_joined (a ∷ xs) (b ∷ ys) zero x y z in_xs in_ys there =
      let one : a ≡ x = same_Some a x in_xs in
      let other : b ≡ y = same_Some b y in_ys in
      Contains-append_left (f a b) (joined_pairs f xs ys) z (subst (λ zs. Contains zs z) (sym (ap (λ c. f c b) one ∙ ap (f x) other)) there)
  has_joined (a ∷ xs) (b ∷ ys) (suc k) x y z in_xs in_ys there = Contains-append_right (f a b) (joined_pairs f xs ys) z (has_joined xs ys k x y z in_xs in_ys there)
