-- Lists of values, and reading them item by item.
use Rattle.std.proofs.Common.{◌≡◌, List, [], ◌∷◌, ◌++◌, map, Ok, refl, ap}
use Rattle.serde_json.specs.View.{view, items_view}
use Rattle.serde_json.specs.declared.value.Value.{Value}
use Rattle.vss_json.specs.Values.{json_of, list_from}
use Rattle.vss_json.specs.Readings.{Reading, ◌>>=◌}

-- the items of an array of values are the values, each as what it stands for
pub list_from_items : (vs : List Value) → list_from (items_view vs) ≡ map json_of vs
list_from_items [] = refl
list_from_items (v ∷ vs) = ap (λ ds. view v ∷ ds) (list_from_items vs)

-- what is read of a list, behind parts that are read
abbrev pub behind : {M X : Type 0} → List X → Reading (List X) M → Reading (List X) M
behind parts reading = reading >>= (λ xs. Ok (parts ++ xs))
