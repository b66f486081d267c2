-- JSON values as `serde_json` reads them, and what an object of them has under a name.
use Rattle.std.specs.Prelude.{◌≡◌, ℕ, Bool, List, [], ◌∷◌, Option, Some, None, is_some, option_map, option_and_then, IsUtf8}
use Rattle.serde_json.specs.Data.{Data, Items, no_items, item}
use Rattle.serde_json.specs.Read.{read}
use Rattle.serde_json.specs.Find as find
use Rattle.serde_json.specs.View as view
use Rattle.serde_json.specs.declared.value.Value.{Value}

-- a value of a document, as contracts see it
abbrev pub Json : Type 0
Json = Data

-- the value that a `serde_json` value stands for
abbrev pub json_of : Value → Json
json_of = view.view

-- the bytes are the text of this JSON value
pub record IsJson (bytes : List ℕ) (d : Json) : Type 0 where
  pub utf8 : IsUtf8 bytes
  pub reads : read bytes ≡ Some d

-- the value that an object has under a name; of a repeated member, the last
abbrev pub member : List ℕ → Json → Option Json
member = find.get

-- a text
abbrev pub text_of : Json → Option (List ℕ)
text_of = find.as_str

-- a number: whole, without a sign, and at most 2 ^ 64 - 1
abbrev pub number_of : Json → Option ℕ
number_of d = option_and_then find.as_u64 (find.as_number d)

-- `true` or `false`
abbrev pub flag_of : Json → Option Bool
flag_of = find.as_bool

-- the items of an array, as a list
abbrev pub list_from : Items → List Json
list_from no_items = []
list_from (item d ds) = d ∷ list_from ds

-- a list of values
unfoldable pub list_of : Json → Option (List Json)
list_of d = option_map list_from (find.as_array d)

-- a list that isn't empty
abbrev pub not_empty : {X : Type 0} → List X → Option (List X)
not_empty [] = None
not_empty (x ∷ xs) = Some (x ∷ xs)

-- a list of two
abbrev pub as_two : {X : Type 0} → List X → Option (X × X)
as_two [] = None
as_two (x ∷ []) = None
as_two (x ∷ y ∷ []) = Some (x, y)
as_two (x ∷ y ∷ z ∷ zs) = None

-- two values, where both are there
abbrev pub both : {X Y : Type 0} → Option X → Option Y → Option (X × Y)
both None y = None
both (Some x) None = None
both (Some x) (Some y) = Some (x, y)

-- an object, whatever its members
abbrev pub is_object : Json → Bool
is_object d = is_some (find.as_object d)

-- the items of a list that isn't empty
abbrev pub some_items : Json → Option (List Json)
some_items d = option_and_then not_empty (list_of d)

-- the two items of a list of two
abbrev pub two_of : Json → Option (Json × Json)
two_of d = option_and_then as_two (list_of d)

-- a list of two texts
unfoldable pub text_pair : Json → Option (List ℕ × List ℕ)
text_pair d = option_and_then (λ p. both (text_of p.0) (text_of p.1)) (two_of d)

-- a list of two lists of two texts
unfoldable pub text_pairs : Json → Option ((List ℕ × List ℕ) × (List ℕ × List ℕ))
text_pairs d = option_and_then (λ p. both (text_pair p.0) (text_pair p.1)) (two_of d)
