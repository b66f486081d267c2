-- Tracks on the grid: each in numbers, with its cells and inner cuts behind those of the tracks before it.
use Rattle.std.specs.Prelude.{◌≡◌, ◌<◌, ◌≤◌, ◌+◌, ◌-◌, ◌^◌, ℕ, All, false, List, [], ◌∷◌, length, ⊤, sum_by}
use Rattle.cell_net.specs.declared.limits.TheConstants.{CELLS}
use Rattle.rail_net.specs.Parts.{IsNode, IsTrackOfSection}
use Rattle.rail_net.specs.declared.parts.TrackPart.{TrackPart}
use Rattle.rail_net.specs.declared.parts.NetParts.{NetParts}
use Rattle.timetable.specs.declared.parts.Timetable.{Timetable}
use Rattle.discretise.specs.Rounding.{length_in_cells, limit_of}
use Rattle.discretise.specs.declared.tracks.GridTrack.{GridTrack}

-- the track of that number is this on the grid, where its first cell and the node of its first cut have these numbers
pub record IsGridTrack (p : NetParts) (t : Timetable) (place first_cell first_cut : ℕ) (part : TrackPart) (g : GridTrack) : Type 0 where
  pub number : g.number ≡ place
  pub from : IsNode p part.from g.from
  pub to : IsNode p part.to g.to
  pub section : IsTrackOfSection p g.section place
  pub limit : g.limit ≡ limit_of t part.limit_kmh
  pub is_virtual : g.is_virtual ≡ part.virtual_ok
  pub count : g.count ≡ length_in_cells t part.length_m
  pub first : g.first ≡ first_cell
  pub cut : g.cut ≡ first_cut

-- the tracks are these on the grid, the first of them with that number, first cell and first cut; each track has as
-- many cuts as it has cells, less one
abbrev pub AreLaid : NetParts → Timetable → (number first cut : ℕ) → List TrackPart → List GridTrack → Type 0
AreLaid p t number first cut [] [] = ⊤
AreLaid p t number first cut [] (g ∷ gs) = ⊥
AreLaid p t number first cut (part ∷ parts) [] = ⊥
AreLaid p t number first cut (part ∷ parts) (g ∷ gs) =
    IsGridTrack p t number first cut part g × AreLaid p t (number + 1) (first + g.count) (cut + (g.count - 1)) parts gs

-- all tracks of the network on the grid of the timetable: cells are counted from 0, and cuts follow the network's nodes
unfoldable pub AreGridTracks : NetParts → Timetable → List GridTrack → Type 0
AreGridTracks p t gs = AreLaid p t 0 0 (length p.nodes) p.tracks gs

-- how many cells and cuts they have
abbrev pub cell_total : List GridTrack → ℕ
cell_total gs = sum_by (λ g. g.count) gs

abbrev pub cut_total : List GridTrack → ℕ
cut_total gs = sum_by (λ g. g.count - 1) gs

-- a track has a cell, and its cells and cuts have small numbers
pub record IsSmall (g : GridTrack) : Type 0 where
  pub some : 0 < g.count
  pub cells : g.first + g.count ≤ CELLS
  pub cuts : g.cut + g.count < 2 ^ 32

abbrev pub AreSmall : List GridTrack → Type 0
AreSmall gs = All IsSmall gs

-- a track's own number and those of its nodes are in their ranges, where there are so many nodes and tracks
pub record IsTrackInRange (nodes tracks : ℕ) (g : GridTrack) : Type 0 where
  pub number : g.number < tracks
  pub from : g.from < nodes
  pub to : g.to < nodes

abbrev pub AreInRange : ℕ → List GridTrack → Type 0
AreInRange nodes gs = All (IsTrackInRange nodes (length gs)) gs

-- what is read where there is no track
abbrev pub no_track : GridTrack
no_track = record { number = 0; from = 0; to = 0; section = 0; limit = 0; is_virtual = false; count = 0; first = 0; cut = 0 }
