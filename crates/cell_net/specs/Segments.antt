-- Cells as segments between nodes, and borders as barriers.
use Rattle.std.specs.Prelude.{◌↔◌, ℕ, List, Contains}
use Rattle.cell_net.specs.Borders.{IsBorder}
use Rattle.cell_net.specs.declared.ids.NodeId.{NodeId}
use Rattle.cell_net.specs.declared.ids.CandidateId.{CandidateId}
use Rattle.cell_net.specs.declared.cells.CellSpec.{CellSpec}
use Rattle.cell_net.specs.declared.parts.InstanceParts.{InstanceParts}
use Rattle.node_groups.specs.declared.segments.Segment.{Segment}

-- the segment of a cell: its nodes, and its section as the part
abbrev pub segment_of : CellSpec → Segment
segment_of cell = record { low = cell.low.0; high = cell.high.0; part = cell.section.0 }

-- the nodes of the borders
abbrev pub AreBarriers : InstanceParts → List CandidateId → List ℕ → Type 0
AreBarriers p borders barriers = (n : NodeId) → Contains barriers n.0 ↔ IsBorder p borders n
