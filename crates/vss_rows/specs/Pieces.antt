-- How lists stand in one row: the items of all of them, and the place behind each one's last item.
use Rattle.std.specs.Prelude.{◌≡◌, ℕ, zero, suc, ◌≤◌, List, [], ◌∷◌, slice_range, slice_index}

-- the pieces of the row that end at the given places, where the first begins at `from`
abbrev pub pieces : {X : Type 0} → List X → ℕ → List ℕ → List (List X)
pieces row from [] = []
pieces row from (end ∷ ends) = slice_range row from end ∷ pieces row end ends

-- where the piece with that place begins
abbrev pub begin_of : ℕ → List ℕ → ℕ → ℕ
begin_of from ends zero = from
begin_of from ends (suc place) = slice_index ends place

-- the places rise from `from` to `to`
abbrev pub RisesTo : ℕ → List ℕ → ℕ → Type 0
RisesTo from [] to = from ≡ to
RisesTo from (end ∷ ends) to = (from ≤ end) × RisesTo end ends to
