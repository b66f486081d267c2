-- The walks from one cell, as they are searched and kept, which only this crate's code and proofs see.
use Rattle.std.specs.Prelude.{◌≡◌, ◌≢◌, ◌<◌, ◌≤◌, ◌+◌, ◌*◌, ◌⊎◌, ◌↔◌, ◌||◌, ℕ, Bool, false, List, [], ◌∷◌, ◌++◌, Option, Some, None, length, map, cond, drop, All, AllPairs, slice_get, slice_index_or, Contains, nat_eq}
use Rattle.std.specs.List.{filter, flat_map, list_any, count_by}
use Rattle.cell_net.specs.Borders.{IsAtEnd}
use Rattle.cell_net.specs.Rules.{IsInstance}
use Rattle.cell_net.specs.Space.{IsCell}
use Rattle.cell_net.specs.declared.ids.CellId.{CellId}
use Rattle.cell_net.specs.declared.ids.NodeId.{NodeId}
use Rattle.cell_net.specs.declared.cells.CellSpec.{CellSpec}
use Rattle.cell_net.specs.declared.parts.InstanceParts.{InstanceParts}
use Rattle.gap_clauses.specs.Walks.{Step, end_of, IsWalkFrom, IsWalkBefore, SharesNode, IsLess, node_numbers}
use Rattle.gap_clauses.specs.Crowds.{IsCrowdedFrom}
use Rattle.gap_clauses.specs.declared.fan.Stop.{Stop}
use Rattle.gap_clauses.specs.declared.fan.Stop.TheVariants.{TooMany, Memory}

-- what contracts see of a fan: the cell that its walks begin with, how many cells there are, and the walks
pub record FanParts : Type 0 where
  pub first : CellId
  pub cells : ℕ
  pub walks : List (List Step)

-- whether steps from the first cell lead to this one
unfoldable pub ends_in : CellId → CellId → List Step → Bool
ends_in first f steps = nat_eq (end_of first steps).0 f.0

-- the walks to this cell
abbrev pub walks_to : CellId → List (List Step) → CellId → List (List Step)
walks_to first walks f = filter (ends_in first f) walks

-- whether steps go over the node, and whether a walk has the cell
unfoldable pub has_node : NodeId → List Step → Bool
has_node n steps = list_any (λ s. nat_eq s.node.0 n.0) steps

unfoldable pub has_cell : CellId → List Step → Bool
has_cell c steps = list_any (λ s. nat_eq s.cell.0 c.0) steps

unfoldable pub visits : CellId → CellId → List Step → Bool
visits first c steps = nat_eq first.0 c.0 || has_cell c steps

-- whether the last of these steps goes over the node
abbrev pub ends_over : NodeId → List Step → Bool
ends_over n [] = false
ends_over n (s ∷ []) = nat_eq s.node.0 n.0
ends_over n (s ∷ t ∷ steps) = ends_over n (t ∷ steps)

-- no step leads into the cell
abbrev pub IsNewIn : List Step → CellId → Type 0
IsNewIn steps c = has_cell c steps ≡ false

-- the walk at that place
abbrev pub walk_at : List (List Step) → ℕ → List Step
walk_at walks place = slice_index_or walks place []

-- for each cell the places of the walks to it, rising, and not too many
pub record AreListsOf (first : CellId) (walks : List (List Step)) (lists : List (List ℕ)) : Type 0 where
  pub first_within : first.0 < length lists
  pub places : (f : ℕ) → f < length lists → All (λ k. k < length walks) (slice_index_or lists f [])
  pub lead_there : (f : CellId) → f.0 < length lists → map (walk_at walks) (slice_index_or lists f.0 []) ≡ walks_to first walks f
  pub few : (f : ℕ) → f < length lists → length (slice_index_or lists f []) ≤ 64

-- some cell has too many walks
unfoldable pub HasTooManyWalks : CellId → List (List Step) → Type 0
HasTooManyWalks first walks = (f : CellId) × (64 < count_by (ends_in first f) walks)

-- why a search may stop behind these walks
abbrev pub IsStop : CellId → List (List Step) → Stop → Type 0
IsStop first walks TooMany = HasTooManyWalks first walks
IsStop first walks Memory = Unit {0}

-- the other cells of the cell's section at the node, rising
pub record AreBehind (p : InstanceParts) (cell : CellId) (n : NodeId) (found : List CellId) : Type 0 where
  pub which : (c : CellId) → Contains found c ↔ (SharesNode p cell n c × (c ≢ cell))
  pub rising : AllPairs (λ c d. c.0 < d.0) found

-- the cells of numbers below this one among them
pub record AreBehindBelow (p : InstanceParts) (cell : CellId) (n : NodeId) (below : ℕ) (found : List CellId) : Type 0 where
  pub which : (c : CellId) → Contains found c ↔ ((c.0 < below) × SharesNode p cell n c × (c ≢ cell))
  pub rising : AllPairs (λ c d. c.0 < d.0) found

-- two rows for each cell below this number: what is behind its low node, and what is behind its high node
pub record AreRowsBelow (p : InstanceParts) (below : ℕ) (rows : List (List CellId)) : Type 0 where
  pub for_each : length rows ≡ 2 * below
  pub low : (c : CellId) (spec : CellSpec) → c.0 < below → slice_get p.cells c.0 ≡ Some spec → AreBehind p c spec.low (slice_index_or rows (2 * c.0) [])
  pub high : (c : CellId) (spec : CellSpec) → c.0 < below → slice_get p.cells c.0 ≡ Some spec → AreBehind p c spec.high (slice_index_or rows (2 * c.0 + 1) [])

abbrev pub AreRows : InstanceParts → List (List CellId) → Type 0
AreRows p = AreRowsBelow p (length p.cells)

-- the cells behind the node, in these rows
abbrev pub behind_of : List (List CellId) → CellId → NodeId → Option CellSpec → List CellId
behind_of rows cell n None = []
behind_of rows cell n (Some spec) = cond (nat_eq spec.low.0 n.0) (slice_index_or rows (2 * cell.0) [])
    (cond (nat_eq spec.high.0 n.0) (slice_index_or rows (2 * cell.0 + 1) []) [])

unfoldable pub behind : InstanceParts → List (List CellId) → CellId → NodeId → List CellId
behind p rows cell n = behind_of rows cell n (slice_get p.cells cell.0)

-- the walk over the node into the cell, if the walk doesn't have it
unfoldable pub longer : CellId → NodeId → List Step → CellId → List (List Step)
longer first n walk c = cond (visits first c walk) [] ((walk ++ record { node = n; cell = c } ∷ []) ∷ [])

-- the walks one step longer over the node, if the walk doesn't go over it yet
unfoldable pub over : InstanceParts → List (List CellId) → CellId → NodeId → List Step → List (List Step)
over p rows first n walk = cond (has_node n walk) [] (flat_map (longer first n walk) (behind p rows (end_of first walk) n))

-- the same of a list of walks
abbrev pub all_over : InstanceParts → List (List CellId) → CellId → NodeId → List (List Step) → List (List Step)
all_over p rows first n walks = flat_map (over p rows first n) walks

-- the walks from e that are so are these, in order
pub record AreListed (p : InstanceParts) (e : CellId) (P : List Step → Type 0) (walks : List (List Step)) : Type 0 where
  pub each : (w : List Step) → Contains walks w ↔ (IsWalkFrom p e w × P w)
  pub in_order : AllPairs IsWalkBefore walks

-- over exactly these nodes
unfoldable pub IsOverNodes : List ℕ → List Step → Type 0
IsOverNodes nodes walk = node_numbers walk ≡ nodes

-- over these nodes, or over a list of nodes that comes before
unfoldable pub IsUpTo : List ℕ → List Step → Type 0
IsUpTo nodes walk = IsLess (node_numbers walk) nodes ⊎ (node_numbers walk ≡ nodes)

-- over these nodes, and further over a node below this number
unfoldable pub GoesOnOver : List ℕ → ℕ → List Step → Type 0
GoesOnOver nodes below walk = (n : ℕ) × (rest : List ℕ) × (node_numbers walk ≡ nodes ++ n ∷ rest) × (n < below)

-- up to these nodes, or further over a node below this number
unfoldable pub IsDone : List ℕ → ℕ → List Step → Type 0
IsDone nodes below walk = IsUpTo nodes walk ⊎ GoesOnOver nodes below walk

-- the numbers of the nodes of the walk at that place
abbrev pub nodes_at : List (List Step) → ℕ → List ℕ
nodes_at walks place = node_numbers (walk_at walks place)

-- from that place on stand the walks over the nodes of the first of them, and all walks are up to these nodes
pub record IsGroup (p : InstanceParts) (e : CellId) (walks : List (List Step)) (from : ℕ) : Type 0 where
  pub within : from < length walks
  pub group : AreListed p e (IsOverNodes (nodes_at walks from)) (drop from walks)
  pub all : AreListed p e (IsUpTo (nodes_at walks from)) walks

-- the node is below this number, or no lower than the next one
abbrev pub IsSkipped : ℕ → Option NodeId → NodeId → Type 0
IsSkipped below None m = m.0 < below
IsSkipped below (Some n) m = (m.0 < below) ⊎ (n.0 ≤ m.0)

-- the next node, if there is one, has at least this number
abbrev pub IsNotBelow : ℕ → Option NodeId → Type 0
IsNotBelow below None = Unit {0}
IsNotBelow below (Some n) = below ≤ n.0

-- each node at the last cell of the walk is below this number, or the next one is no higher
unfoldable pub GoesOverNext : InstanceParts → CellId → ℕ → Option NodeId → List Step → Type 0
GoesOverNext p first below next walk = (spec : CellSpec) (m : NodeId) → slice_get p.cells (end_of first walk).0 ≡ Some spec → IsAtEnd spec m → IsSkipped below next m

-- the walks lead to cells of the instance
abbrev pub LeadToCells : InstanceParts → CellId → List (List Step) → Type 0
LeadToCells p first walks = All (λ w. IsCell p (end_of first w)) walks

-- what a search goes on from: an instance, its rows, walks from one of its cells, and a group of them
pub record IsSearchState (p : InstanceParts) (rows : List (List CellId)) (fan : FanParts) (from : ℕ) : Type 0 where
  pub rules : IsInstance p
  pub are_rows : AreRows p rows
  pub first : IsCell p fan.first
  pub cells : fan.cells ≡ length p.cells
  pub group : IsGroup p fan.first fan.walks from

-- why a search stops: a cell has too many walks; want of memory has no cause
abbrev pub IsSearchStop : InstanceParts → CellId → Stop → Type 0
IsSearchStop p e TooMany = IsCrowdedFrom p e
IsSearchStop p e Memory = Unit {0}

-- the fan has all walks from the cell, to each cell not too many
pub record IsFanOf (p : InstanceParts) (e : CellId) (fan : FanParts) : Type 0 where
  pub first : fan.first ≡ e
  pub cells : fan.cells ≡ length p.cells
  pub all : AreListed p e (λ w. Unit {0}) fan.walks
  pub few : (f : CellId) → f.0 < fan.cells → length (walks_to fan.first fan.walks f) ≤ 64
