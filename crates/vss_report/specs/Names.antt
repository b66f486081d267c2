-- The names that labels give to tracks, trains, cells and places of borders.
use Rattle.std.specs.Prelude.{◌≡◌, ◌<◌, ℕ, List, [], Option, Some, None, slice_get, unwrap_or, length}
use Rattle.cell_net.specs.declared.ids.CandidateId.{CandidateId}
use Rattle.cell_net.specs.declared.ids.TrainId.{TrainId}
use Rattle.cell_net.specs.declared.cells.DirCell.{DirCell}
use Rattle.cell_net.specs.declared.cells.End.{End}
use Rattle.cell_net.specs.declared.labels.CellLabel.{CellLabel}
use Rattle.cell_net.specs.declared.labels.PlaceLabel.{PlaceLabel}
use Rattle.cell_net.specs.declared.labels.PlaceLabel.TheVariants.{Cut, Joint}
use Rattle.cell_net.specs.declared.labels.Labels.{Labels}
use Rattle.vss_report.specs.Lines.{CellName, PlaceName, cut, joint}

-- the name of the track of that number; nothing where there is none
abbrev pub track_name : Labels → ℕ → List ℕ
track_name labels track = unwrap_or (slice_get labels.tracks track) []

-- the name of the train; nothing where there is none
abbrev pub train_name : Labels → TrainId → List ℕ
train_name labels train = unwrap_or (slice_get labels.trains train.0) []

-- the name of a directed cell with that label; nothing stands for its track where it has none
abbrev pub labelled_cell : Labels → End → Option CellLabel → CellName
labelled_cell labels end (Some label) = record { track = track_name labels label.track; index = label.index; end = end }
labelled_cell labels end None = record { track = []; index = 0; end = end }

abbrev pub cell_named : Labels → DirCell → CellName
cell_named labels d = labelled_cell labels d.end (slice_get labels.cells d.cell.0)

-- the name of a place with that label; nothing where it has none
abbrev pub labelled_place : Labels → Option PlaceLabel → PlaceName
labelled_place labels (Some (Cut track at_m)) = cut (track_name labels track) at_m
labelled_place labels (Some (Joint name)) = joint name
labelled_place labels None = joint []

abbrev pub place_named : Labels → CandidateId → PlaceName
place_named labels candidate = labelled_place labels (slice_get labels.places candidate.0)

-- the directed cell is the one of that name
pub record IsNamedCell (labels : Labels) (name : CellName) (d : DirCell) : Type 0 where
  pub within : d.cell.0 < length labels.cells
  pub named : cell_named labels d ≡ name

-- the place is the one of that name
pub record IsPlaceOf (labels : Labels) (name : PlaceName) (candidate : CandidateId) : Type 0 where
  pub within : candidate.0 < length labels.places
  pub named : place_named labels candidate ≡ name
