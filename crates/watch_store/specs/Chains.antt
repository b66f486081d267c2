-- Chains of nodes that are linked by number: each node stands in the chain of its home, and in no other.
use Rattle.std.specs.Prelude.{◌≡◌, ◌≢◌, ℕ, ◌-◌, ◌^◌, ◌<◌, ◌≤◌, Bool, false, ◌&&◌, nat_eq, nat_lt, List, [], ◌∷◌, ◌++◌, length, Option, Some, None, ⊤, slice_index}
use Rattle.std.specs.List.{list_any}

-- from `at` the links lead through these nodes in this order, and then to no node: no node has the greatest number
abbrev pub IsLinked : List ℕ → ℕ → List ℕ → Type 0
IsLinked nexts at [] = 2 ^ 32 - 1 ≤ at
IsLinked nexts at (node ∷ nodes) = (at ≡ node) × (node < length nexts) × IsLinked nexts (slice_index nexts node) nodes

-- whether the node is one of these
abbrev pub is_among : List ℕ → ℕ → Bool
is_among nodes node = list_any (nat_eq node) nodes

-- no node twice
abbrev pub Once : List ℕ → Type 0
Once [] = ⊤
Once (node ∷ nodes) = (is_among nodes node ≡ false) × Once nodes

-- whether the node's home is this
abbrev pub lives_at : List ℕ → ℕ → ℕ → Bool
lives_at homes home node = nat_lt node (length homes) && nat_eq (slice_index homes node) home

-- these are the nodes of the chain of that home
pub record IsLinkedChain (heads nexts homes : List ℕ) (home : ℕ) (nodes : List ℕ) : Type 0 where
  pub linked : IsLinked nexts (slice_index heads home) nodes
  pub once : Once nodes
  pub exact : (node : ℕ) → is_among nodes node ≡ lives_at homes home node

-- what holds of the table itself
pub record IsLinkTable (heads nexts homes : List ℕ) : Type 0 where
  pub all_nodes : length nexts ≡ length homes
  pub few_nodes : length homes ≤ 2 ^ 32 - 1
  pub all_homes : (node : ℕ) → node < length homes → slice_index homes node < length heads

-- every home has its chain
pub record AreChained (heads nexts homes : List ℕ) : Type 0 where
  pub table : IsLinkTable heads nexts homes
  pub chains : (home : ℕ) → home < length heads → (nodes : List ℕ) × IsLinkedChain heads nexts homes home nodes

abbrev pub last_or : ℕ → List ℕ → ℕ
last_or node [] = node
last_or node (next ∷ nodes) = last_or next nodes

abbrev pub last_kept : List ℕ → Option ℕ
last_kept [] = None
last_kept (node ∷ nodes) = Some (last_or node nodes)

-- A walk along the chain of a home: these nodes were kept, the last of them before `at`, from which the others are still to come.
pub record IsChainWalk (heads nexts homes : List ℕ) (home : ℕ) (kept rest : List ℕ) (before : Option ℕ) (at : ℕ) : Type 0 where
  pub table : IsLinkTable heads nexts homes
  pub home_within : home < length heads
  pub chain : IsLinkedChain heads nexts homes home (kept ++ rest)
  pub to_come : IsLinked nexts at rest
  pub last : before ≡ last_kept kept
  pub others : (other : ℕ) → other < length heads → other ≢ home → (nodes : List ℕ) × IsLinkedChain heads nexts homes other nodes
