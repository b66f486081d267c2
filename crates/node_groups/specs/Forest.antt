-- Forest: a list that gives each item a parent, read as trees.
use Rattle.std.specs.Prelude.{◌≡◌, ℕ, ◌<◌, ◌≤◌, ◌⊎◌, ◌↔◌, List, length, slice_index}
use Rattle.node_groups.specs.Reach.{Reaches}

-- no parent is higher than its item
abbrev pub IsForest : List ℕ → Type 0
IsForest parents = (k : ℕ) → k < length parents → slice_index parents k ≤ k

-- the item has this parent
pub record HasParent (parents : List ℕ) (item parent : ℕ) : Type 0 where
  pub within : item < length parents
  pub is : slice_index parents item ≡ parent

-- the item is its own parent
abbrev pub IsRoot : List ℕ → ℕ → Type 0
IsRoot parents item = HasParent parents item item

-- one of the two items is the parent of the other
unfoldable pub IsParentOrChild : List ℕ → ℕ → ℕ → Type 0
IsParentOrChild parents i j = HasParent parents i j ⊎ HasParent parents j i

-- the two items stand in one tree
unfoldable pub Joined : List ℕ → ℕ → ℕ → Type 0
Joined parents i j = Reaches (IsParentOrChild parents) i j

-- the same items stand in one tree before and after
unfoldable pub JoinsAlike : List ℕ → List ℕ → Type 0
JoinsAlike old new = (i j : ℕ) → Joined new i j ↔ Joined old i j

-- what was a root still is one
abbrev pub KeepsRoots : List ℕ → List ℕ → Type 0
KeepsRoots old new = (k : ℕ) → IsRoot old k → IsRoot new k

-- the relation, and one pair more in either order
unfoldable pub WithPair : (ℕ → ℕ → Type 0) → ℕ → ℕ → ℕ → ℕ → Type 0
WithPair R a b i j = R i j ⊎ (((i ≡ a) × (j ≡ b)) ⊎ ((i ≡ b) × (j ≡ a)))

-- in one tree stands now what the old trees and the pair a, b join
unfoldable pub AddsPair : List ℕ → List ℕ → ℕ → ℕ → Type 0
AddsPair old new a b = (i j : ℕ) → Joined new i j ↔ Reaches (WithPair (Joined old) a b) i j

-- each parent is a root
abbrev pub AreRoots : List ℕ → Type 0
AreRoots parents = (k : ℕ) → k < length parents → IsRoot parents (slice_index parents k)

-- each item is a root
abbrev pub AreAllRoots : List ℕ → Type 0
AreAllRoots parents = (k : ℕ) → k < length parents → slice_index parents k ≡ k

-- in one tree stand the items that reach each other by the relation
unfoldable pub JoinsBy : List ℕ → (ℕ → ℕ → Type 0) → Type 0
JoinsBy parents R = (i j : ℕ) → Joined parents i j ↔ Reaches R i j
