-- Walks: the ways from one cell of a section to another over shared nodes.
use Rattle.std.specs.Prelude.{◌≡◌, ◌≢◌, ◌<◌, ◌⊎◌, ◌↔◌, ℕ, List, [], ◌∷◌, map, AllPairs, Some, slice_get, Contains}
use Rattle.cell_net.specs.Borders.{IsAtEnd}
use Rattle.cell_net.specs.declared.ids.CellId.{CellId}
use Rattle.cell_net.specs.declared.ids.NodeId.{NodeId}
use Rattle.cell_net.specs.declared.cells.CellSpec.{CellSpec}
use Rattle.cell_net.specs.declared.parts.InstanceParts.{InstanceParts}

-- a step of a walk: the node over which it goes, and the cell behind it
pub record Step : Type 0 where
  pub node : NodeId
  pub cell : CellId

-- the nodes and the cells of steps
abbrev pub step_nodes : List Step → List NodeId
step_nodes steps = map (λ s. s.node) steps

abbrev pub step_cells : List Step → List CellId
step_cells steps = map (λ s. s.cell) steps

-- both cells are of one section and have the node at an end
pub record SharesNode (p : InstanceParts) (e : CellId) (n : NodeId) (f : CellId) : Type 0 where
  pub one : CellSpec
  pub other : CellSpec
  pub is_one : slice_get p.cells e.0 ≡ Some one
  pub is_other : slice_get p.cells f.0 ≡ Some other
  pub one_section : one.section ≡ other.section
  pub at_one : IsAtEnd one n
  pub at_other : IsAtEnd other n

-- the steps lead from e to f, each over a node that the cells before it and behind it share
abbrev pub Leads : InstanceParts → CellId → List Step → CellId → Type 0
Leads p e [] f = e ≡ f
Leads p e (s ∷ steps) f = SharesNode p e s.node s.cell × Leads p s.cell steps f

-- the cell to which steps from e lead
abbrev pub end_of : CellId → List Step → CellId
end_of e [] = e
end_of e (s ∷ steps) = end_of s.cell steps

-- the steps walk from e to f: they lead there, with no cell twice and no node twice
pub record IsWalk (p : InstanceParts) (e : CellId) (steps : List Step) (f : CellId) : Type 0 where
  pub leads : Leads p e steps f
  pub no_cell_twice : AllPairs ◌≢◌ (e ∷ step_cells steps)
  pub no_node_twice : AllPairs ◌≢◌ (step_nodes steps)

-- the steps walk from e to some cell
abbrev pub IsWalkFrom : InstanceParts → CellId → List Step → Type 0
IsWalkFrom p e steps = IsWalk p e steps (end_of e steps)

-- the one list comes before the other, number by number; where one begins the other, the shorter
abbrev pub IsLess : List ℕ → List ℕ → Type 0
IsLess [] [] = ⊥
IsLess [] (y ∷ ys) = Unit {0}
IsLess (x ∷ xs) [] = ⊥
IsLess (x ∷ xs) (y ∷ ys) = (x < y) ⊎ ((x ≡ y) × IsLess xs ys)

-- the numbers of the nodes, and of the cells
abbrev pub node_numbers : List Step → List ℕ
node_numbers steps = map (λ s. s.node.0) steps

abbrev pub cell_numbers : List Step → List ℕ
cell_numbers steps = map (λ s. s.cell.0) steps

-- the order of walks: by their whole lists of nodes, then by their lists of cells
unfoldable pub IsWalkBefore : List Step → List Step → Type 0
IsWalkBefore one other = IsLess (node_numbers one) (node_numbers other) ⊎
    ((node_numbers one ≡ node_numbers other) × IsLess (cell_numbers one) (cell_numbers other))

-- the list holds each walk from e to f once, and nothing else, in order
pub record AreWalks (p : InstanceParts) (e f : CellId) (walks : List (List Step)) : Type 0 where
  pub each : (w : List Step) → Contains walks w ↔ IsWalk p e w f
  pub in_order : AllPairs IsWalkBefore walks
