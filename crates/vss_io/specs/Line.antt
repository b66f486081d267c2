-- The text of a line.
use Rattle.std.specs.Prelude.{ℕ, List, [], ◌∷◌, ◌++◌, map}
use Rattle.std.specs.List.{flat_map}
use Rattle.std.specs.Borrow.{Bor}

-- these texts, one after another
abbrev pub flat : List (List ℕ) → List ℕ
flat texts = flat_map (λ text. text) texts

-- the bytes of all pieces, one after another
abbrev pub joined : List (Bor (List ℕ)) → List ℕ
joined pieces = flat (map (λ piece. piece.now) pieces)

-- the line of these bytes: the bytes and a line feed
abbrev pub line : List ℕ → List ℕ
line bytes = bytes ++ 10 ∷ []
