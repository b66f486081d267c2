-- What is picked of a list.
use Rattle.std.specs.Prelude.{◌≡◌, ◌⊎◌, List, [], ◌∷◌}

-- the items of the list of which it holds, in their order
abbrev pub Picks : {X : Type 0} → (X → Type 0) → List X → List X → Type 0
Picks holds [] picked = picked ≡ []
Picks {X} holds (x ∷ xs) picked =
    (holds x × (rest : List X) × (picked ≡ x ∷ rest) × Picks holds xs rest) ⊎ (¬ holds x × Picks holds xs picked)
