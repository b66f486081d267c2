-- Cells: by track, and on a track from where it begins; and how people know them.
use Rattle.std.specs.Prelude.{ℕ, ◌+◌, ◌-◌, ◌==◌, if◌then◌else◌, List, map}
use Rattle.std.specs.List.{flat_map, range_with_len}
use Rattle.cell_net.specs.declared.ids.CellId.{CellId}
use Rattle.cell_net.specs.declared.ids.NodeId.{NodeId}
use Rattle.cell_net.specs.declared.cells.CellSpec.{CellSpec}
use Rattle.cell_net.specs.declared.labels.CellLabel.{CellLabel}
use Rattle.discretise.specs.declared.tracks.GridTrack.{GridTrack}

abbrev pub cell : ℕ → CellId
cell number = record { 0 = number }

abbrev pub node : ℕ → NodeId
node number = record { 0 = number }

-- the number of the node before the cell at that place of a track: before the first cell, and behind the last, are the
-- track's own nodes, and else a cut
abbrev pub node_before : GridTrack → ℕ → ℕ
node_before g place = if place == 0 then g.from else (if place == g.count then g.to else g.cut + (place - 1))

-- the cell at that place of a track
abbrev pub cell_in : GridTrack → ℕ → CellSpec
cell_in g place = record {
  low = node (node_before g place);
  high = node (node_before g (place + 1));
  section = record { 0 = g.section };
  limit = g.limit;
}

abbrev pub cells_in : GridTrack → List CellSpec
cells_in g = map (cell_in g) (range_with_len 0 g.count)

-- the cells of all tracks
abbrev pub cells_on : List GridTrack → List CellSpec
cells_on gs = flat_map cells_in gs

-- the name of a cell: its track, and its place there
abbrev pub label_in : GridTrack → ℕ → CellLabel
label_in g place = record { track = g.number; index = place }

abbrev pub labels_in : GridTrack → List CellLabel
labels_in g = map (label_in g) (range_with_len 0 g.count)

abbrev pub cell_labels : List GridTrack → List CellLabel
cell_labels gs = flat_map labels_in gs
