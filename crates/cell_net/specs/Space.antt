-- Space: cells, the ends that meet at a node, and the paths that a train can take.
use Rattle.std.specs.Prelude.{◌≡◌, ◌≢◌, ◌<◌, ◌⊎◌, List, length, All, AllPairs, Any}
use Rattle.std.specs.List.{AllAdjacentBelow}
use Rattle.cell_net.specs.declared.ids.CellId.{CellId}
use Rattle.cell_net.specs.declared.cells.End.{End}
use Rattle.cell_net.specs.declared.cells.End.TheVariants.{Low, High}
use Rattle.cell_net.specs.declared.cells.DirCell.{DirCell}
use Rattle.cell_net.specs.declared.cells.CellEnd.{CellEnd}
use Rattle.cell_net.specs.declared.cells.JoinSpec.{JoinSpec}
use Rattle.cell_net.specs.declared.parts.InstanceParts.{InstanceParts}

-- the cell is one of the instance's
abbrev pub IsCell : InstanceParts → CellId → Type 0
IsCell p c = c.0 < length p.cells

-- the end of a cell that isn't this one
abbrev pub opposite : End → End
opposite Low = High
opposite High = Low

-- the end that a directed cell heads to
abbrev pub head_of : DirCell → CellEnd
head_of d = record { cell = d.cell; end = d.end }

-- the end that it doesn't head to
abbrev pub tail_of : DirCell → CellEnd
tail_of d = record { cell = d.cell; end = opposite d.end }

-- the join pairs the two ends, in one order or the other
abbrev pub Pairs : CellEnd → CellEnd → JoinSpec → Type 0
Pairs one other j = ((j.one ≡ one) × (j.other ≡ other)) ⊎ ((j.one ≡ other) × (j.other ≡ one))

-- a directed cell follows the one before it: a join pairs the end that the one before heads to with
-- the end that this one doesn't head to
unfoldable pub Follows : InstanceParts → DirCell → DirCell → Type 0
Follows p before after = Any (Pairs (head_of before) (tail_of after)) p.joins

-- a track path: a list of directed cells, not empty, each following the one before, no cell twice
pub record IsTrackPath (p : InstanceParts) (path : List DirCell) : Type 0 where
  pub not_empty : 0 < length path
  pub cells : All (λ d. IsCell p d.cell) path
  pub in_order : AllAdjacentBelow (Follows p) path (length path)
  pub no_cell_twice : AllPairs (λ c d. c.cell ≢ d.cell) path
