-- The names of cells and places of borders in printed lines, as bytes.
use Rattle.std.specs.Prelude.{ℕ, List, [], ◌∷◌, Option, Some, None, slice_get, codes, decimal}
use Rattle.vss_io.specs.Line.{flat}
use Rattle.vss_report.specs.Names.{track_name}
use Rattle.cell_net.specs.declared.ids.CellId.{CellId}
use Rattle.cell_net.specs.declared.ids.CandidateId.{CandidateId}
use Rattle.cell_net.specs.declared.labels.CellLabel.{CellLabel}
use Rattle.cell_net.specs.declared.labels.PlaceLabel.{PlaceLabel}
use Rattle.cell_net.specs.declared.labels.PlaceLabel.TheVariants.{Cut, Joint}
use Rattle.cell_net.specs.declared.labels.Labels.{Labels}

-- a cell's track and its number on it, as `t1:0`
abbrev pub label_text : Labels → Option CellLabel → List ℕ
label_text labels (Some label) = flat (track_name labels label.track ∷ codes ":" ∷ decimal label.index ∷ [])
label_text labels None = []

abbrev pub cell_name : Labels → CellId → List ℕ
cell_name labels cell = label_text labels (slice_get labels.cells cell.0)

-- a cut, as `cut t1 500`, and a joint, as `joint J`
abbrev pub cut_text : List ℕ → ℕ → List ℕ
cut_text track at_m = flat (codes "cut " ∷ track ∷ codes " " ∷ decimal at_m ∷ [])

abbrev pub joint_text : List ℕ → List ℕ
joint_text name = flat (codes "joint " ∷ name ∷ [])

-- where a border stands
abbrev pub place_label_text : Labels → Option PlaceLabel → List ℕ
place_label_text labels (Some (Cut track at_m)) = cut_text (track_name labels track) at_m
place_label_text labels (Some (Joint name)) = joint_text name
place_label_text labels None = []

abbrev pub place_name : Labels → CandidateId → List ℕ
place_name labels candidate = place_label_text labels (slice_get labels.places candidate.0)
