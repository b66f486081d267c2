-- The scene of a network and a timetable: the instance that they are cut into, and its labels; or why there is none.
use Rattle.std.specs.Prelude.{◌≡◌, ◌+◌, ℕ, List, length, Result, Ok, Err}
use Rattle.std.specs.List.{AllZip}
use Rattle.vss_lists.specs.Orders.{AreKept}
use Rattle.cell_net.specs.declared.labels.Labels.{Labels}
use Rattle.cell_net.specs.declared.parts.InstanceParts.{InstanceParts}
use Rattle.cell_net.specs.declared.scene.Scene.{Scene}
use Rattle.rail_net.specs.Parts.{track_names}
use Rattle.rail_net.specs.declared.parts.NetParts.{NetParts}
use Rattle.timetable.specs.Timetables.{train_names}
use Rattle.timetable.specs.declared.parts.Timetable.{Timetable}
use Rattle.discretise.specs.Rounding.{step_count}
use Rattle.discretise.specs.Tracks.{AreGridTracks, cut_total}
use Rattle.discretise.specs.Cells.{cell_labels, cells_on}
use Rattle.discretise.specs.Joins.{AreJoins}
use Rattle.discretise.specs.Places.{AreFreeJoints, AreKeptPlaces, nodes_of_candidates, place_labels}
use Rattle.discretise.specs.Stations.{IsStationOf}
use Rattle.discretise.specs.Trains.{IsGridTrain}
use Rattle.discretise.specs.Refusals.{RefusesCut, cut_rules}
use Rattle.discretise.specs.declared.refusal.CutRefusal.{CutRefusal}
use Rattle.discretise.specs.declared.tracks.GridTrack.{GridTrack}

-- the parts of the instance, where these are the tracks on the grid and the joints where a border may stand: the
-- network's nodes are the first of the instance's
pub record AreParts (p : NetParts) (t : Timetable) (gs : List GridTrack) (joints : List ℕ) (i : InstanceParts) : Type 0 where
  pub nodes : i.nodes ≡ length p.nodes + cut_total gs
  pub sections : i.sections ≡ length p.sections
  pub cells : i.cells ≡ cells_on gs
  pub joins : AreJoins p gs i.joins
  pub candidates : i.candidates ≡ nodes_of_candidates joints gs
  pub kept : AreKeptPlaces p t gs i.candidates i.kept
  pub stations : AllZip (IsStationOf p gs) p.stations i.stations
  pub trains : AllZip (IsGridTrain gs t) t.trains i.trains
  pub steps : i.steps ≡ step_count t

-- the labels
pub record AreNames (p : NetParts) (t : Timetable) (gs : List GridTrack) (joints : List ℕ) (l : Labels) : Type 0 where
  pub tracks : l.tracks ≡ track_names p
  pub cells : l.cells ≡ cell_labels gs
  pub places : l.places ≡ place_labels p t joints gs
  pub trains : l.trains ≡ train_names t

-- the scene of the network and the timetable
pub record IsScene (p : NetParts) (t : Timetable) (i : InstanceParts) (l : Labels) : Type 0 where
  pub tracks : List GridTrack
  pub joints : List ℕ
  pub are_tracks : AreGridTracks p t tracks
  pub are_joints : AreFreeJoints p joints
  pub parts : AreParts p t tracks joints i
  pub names : AreNames p t tracks joints l

-- their scene where every rule of the grid is kept, or a refusal
abbrev pub IsSceneOf : NetParts → Timetable → Result Scene CutRefusal → Type 0
IsSceneOf p t (Ok scene) = AreKept (cut_rules p t) × IsScene p t scene.inst scene.labels
IsSceneOf p t (Err refusal) = RefusesCut (cut_rules p t) refusal
