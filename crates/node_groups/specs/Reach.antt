-- Reach: what is reached by the steps of a relation.
use Rattle.std.specs.Prelude.{◌≡◌, List, [], ◌∷◌}

-- the items lead from a to b: each is related to the one before it, the first of them to a, and the last is b.
-- No items lead from a to a itself
abbrev pub LeadsTo : {X : Type 0} → (X → X → Type 0) → X → List X → X → Type 0
LeadsTo R a [] b = a ≡ b
LeadsTo R a (c ∷ cs) b = R a c × LeadsTo R c cs b

-- some items lead from a to b
unfoldable pub Reaches : {X : Type 0} → (X → X → Type 0) → X → X → Type 0
Reaches {X} R a b = (items : List X) × LeadsTo R a items b
