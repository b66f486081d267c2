-- Names: where a name stands, and whether it stood before.
use Rattle.std.proofs.Common.{◌≡◌, ◌+◌, ◌⊎◌, inl, inr, ◌||◌, ℕ, zero, suc, Bool, true, false, List, [], ◌∷◌, ◌++◌, map, take, get_or, Some, String, string_bytes, slice_get, refl, sym, ap, ◌∙◌, arith}
use Rattle.std.specs.Prelude.{bytes_eq, not}
use Rattle.std.specs.List.{Contains, list_any, position}
use Rattle.std.specs.declared.alloc.Global.{Global}
use Rattle.std.proofs.lemmas.Bool.{cases_lt}
use Rattle.std.proofs.lemmas.List.{map_push, take_more}
use Rattle.std.proofs.lemmas.List.Quantifiers.{position-Some}
use Rattle.std.proofs.lemmas.Option.{same_Some, slice_get-get_or, slice_get_within, get_or_from_slice_get}
use Rattle.std.proofs.lemmas.Slice.Eq.{bytes_eq-Decides}
use Rattle.vss_lists.specs.Breaks.{HoldsOfEach}
use Rattle.rail_net.specs.Rules.{HasNewName}
use Rattle.rail_net.proofs.ListLaws.{contains_at, place_of, map_at, mapped_at, front_at, at_front}

-- the name that a search finds is at that place
pub found_at : (name : List ℕ) (keys : List (String Global)) (k : ℕ) → position (λ key. bytes_eq name (string_bytes key)) keys ≡ Some k → slice_get (map string_bytes keys) k ≡ Some name
found_at name [] k found = absurd (grind arith)
found_at name (key ∷ keys) k found =
    let at = position-Some (λ key. bytes_eq name (string_bytes key)) (key ∷ keys) k key found in
    let same : name ≡ string_bytes (get_or (key ∷ keys) k key) = (bytes_eq-Decides name (string_bytes (get_or (key ∷ keys) k key))).0 at.1 in
    map_at string_bytes (key ∷ keys) k (get_or (key ∷ keys) k key) (slice_get-get_or (key ∷ keys) k key at.0) ∙ ap Some (sym same)

or_cases : (b c : Bool) → b || c ≡ true → (b ≡ true) ⊎ (c ≡ true)
or_cases true c e = inl refl
or_cases false c e = inr e

or_left : (b c : Bool) → b ≡ true → b || c ≡ true
or_left true c e = refl
or_left false c e = absurd (grind arith)

or_right : (b c : Bool) → c ≡ true → b || c ≡ true
or_right true c e = refl
or_right false c e = e

-- a key has the name, exactly if the name is among those of the keys
any_at : (name : List ℕ) (keys : List (String Global)) → list_any (λ key. bytes_eq name (string_bytes key)) keys ≡ true → (k : ℕ) × (slice_get (map string_bytes keys) k ≡ Some name)
any_at name [] e = absurd (grind arith)
any_at name (key ∷ keys) e = elim (or_cases (bytes_eq name (string_bytes key)) (list_any (λ key. bytes_eq name (string_bytes key)) keys) e) [
  | inl here ↦ (zero, ap Some (sym ((bytes_eq-Decides name (string_bytes key)).0 here)))
  | inr later ↦ let rest = any_at name keys later in (suc rest.0, rest.1)
]

at_any : (name : List ℕ) (keys : List (String Global)) (k : ℕ) → slice_get (map string_bytes keys) k ≡ Some name → list_any (λ key. bytes_eq name (string_bytes key)) keys ≡ true
at_any name [] k is = absurd (grind arith)
at_any name (key ∷ keys) zero is = or_left _ _ ((bytes_eq-Decides name (string_bytes key)).1 (sym (same_Some (string_bytes key) name is)))
at_any name (key ∷ keys) (suc k) is = or_right _ _ (at_any name keys k is)

pub any_named : (name : List ℕ) (keys : List (String Global)) → list_any (λ key. bytes_eq name (string_bytes key)) keys ≡ true → Contains (map string_bytes keys) name
any_named name keys e = let at = any_at name keys e in contains_at (map string_bytes keys) at.0 name at.1

pub none_named : (name : List ℕ) (keys : List (String Global)) → list_any (λ key. bytes_eq name (string_bytes key)) keys ≡ false → ¬ Contains (map string_bytes keys) name
none_named name keys e there =
    let at = place_of (map string_bytes keys) name there in
    let any : list_any (λ key. bytes_eq name (string_bytes key)) keys ≡ true = at_any name keys at.0 at.1 in
    absurd (cc)

module _ {X : Type 0} (f : X → List ℕ) (items : List X) where
  -- a name that isn't among those before it is new, and one that is isn't
  pub new_here : (place : ℕ) (x : X) → ¬ Contains (map f (take place items)) (f x) → HasNewName f items place x
  new_here place x none k earlier before is same =
      none (contains_at (map f (take place items)) k (f x) (map_at f (take place items) k earlier (at_front items place k earlier before is) ∙ ap Some same))

  pub old_here : (place : ℕ) (x : X) → Contains (map f (take place items)) (f x) → ¬ HasNewName f items place x
  old_here place x there new =
      let at = place_of (map f (take place items)) (f x) there in
      let item = mapped_at f (take place items) at.0 (f x) at.1 in
      let front = front_at items place at.0 item.0 item.1 in
      new at.0 item.0 front.0 front.1 item.2

  -- where each name is new, a name has one number
  pub same_number : HoldsOfEach (HasNewName f items) items → (i j : ℕ) (name : List ℕ) → slice_get (map f items) i ≡ Some name → slice_get (map f items) j ≡ Some name → i ≡ j
  same_number each i j name is also =
      let one = mapped_at f items i name is in
      let other = mapped_at f items j name also in
      elim (cases_lt i j) [
        | inl low ↦ absurd (each.at_each j other.0 other.1 i one.0 low one.1 (one.2 ∙ sym other.2))
        | inr past ↦ elim (cases_lt j i) [
          | inl high ↦ absurd (each.at_each i one.0 one.1 j other.0 high other.1 (other.2 ∙ sym one.2))
          | inr same ↦ omega arith
        ]
      ]

  -- the names of the items up to a place, and its own behind them
  pub names_more : (place : ℕ) (x : X) (names : List (List ℕ)) → slice_get items place ≡ Some x → names ≡ map f (take place items) → names ++ f x ∷ [] ≡ map f (take (place + 1) items)
  names_more place x names is so_far =
      ap (λ ns. ns ++ f x ∷ []) so_far ∙ sym (map_push f (take place items) x) ∙ ap (map f) (ap (λ y. take place items ++ y ∷ []) (sym (get_or_from_slice_get items place x x is)) ∙ sym (take_more items place x (slice_get_within items place x is)))

-- a key that is new goes behind the others
pub keys_more : (keys : List (String Global)) (key : String Global) → map string_bytes (keys ++ key ∷ []) ≡ map string_bytes keys ++ string_bytes key ∷ []
keys_more keys key = map_push string_bytes keys key

-- what an insertion says of a key
pub was_there : (b added : Bool) → added ≡ not b → added ≡ false → b ≡ true
was_there true added says fact = refl
was_there false added says fact = absurd (grind arith)

pub was_new : (b added : Bool) → added ≡ not b → added ≡ true → b ≡ false
was_new true added says fact = absurd (grind arith)
was_new false added says fact = refl
