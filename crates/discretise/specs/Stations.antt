-- Stations: the cells of their tracks.
use Rattle.std.specs.Prelude.{◌≡◌, ◌+◌, ◌↔◌, ◌⊎◌, ◌≢◌, ℕ, Bool, true, IsTrue, List, map, length, Contains, Some, slice_get}
use Rattle.std.specs.List.{flat_map, range_with_len}
use Rattle.cell_net.specs.declared.ids.CellId.{CellId}
use Rattle.rail_net.specs.Parts.{IsTrack}
use Rattle.rail_net.specs.declared.parts.GroupPart.{GroupPart}
use Rattle.rail_net.specs.declared.parts.NetParts.{NetParts}
use Rattle.discretise.specs.Cells.{cell}
use Rattle.discretise.specs.Picks.{Picks}
use Rattle.discretise.specs.declared.tracks.GridTrack.{GridTrack}

-- the station lists the track
pub record IsTrackOf (p : NetParts) (s : GroupPart) (g : GridTrack) : Type 0 where
  pub name : List ℕ
  pub is_track : IsTrack p name g.number
  pub listed : Contains s.tracks name

-- the numbers of a track's cells
abbrev pub cell_ids : GridTrack → List CellId
cell_ids g = map (λ place. cell (g.first + place)) (range_with_len 0 g.count)

-- the cells of a station are all cells of its tracks, each once, in their order
pub record IsStationOf (p : NetParts) (gs : List GridTrack) (s : GroupPart) (cells : List CellId) : Type 0 where
  pub tracks : List GridTrack
  pub picked : Picks (IsTrackOf p s) gs tracks
  pub are : cells ≡ flat_map cell_ids tracks

-- the tracks of these names are marked
pub record AreMarkedNames (p : NetParts) (names : List (List ℕ)) (marks : List Bool) : Type 0 where
  pub count : length marks ≡ length p.tracks
  pub each : (k : ℕ) (mark : Bool) (name : List ℕ) → slice_get marks k ≡ Some mark → IsTrack p name k → IsTrue mark ↔ Contains names name

-- the track of that name is marked, and no other mark is changed
pub record MarksName (p : NetParts) (name : List ℕ) (old new : List Bool) : Type 0 where
  pub count : length new ≡ length old
  pub each : (k : ℕ) (mark : Bool) (its : List ℕ) → slice_get new k ≡ Some mark → IsTrack p its k
      → ((its ≡ name) × (mark ≡ true)) ⊎ ((its ≢ name) × (slice_get old k ≡ Some mark))
