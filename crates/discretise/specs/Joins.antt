-- Joins: at each cut, and where a passage leads over a node of the network.
use Rattle.std.specs.Prelude.{◌≡◌, ◌<◌, ◌+◌, ◌-◌, ◌==◌, ℕ, if◌then◌else◌, List, [], ◌∷◌, ◌++◌, map, length, slice_index_or, slice_get, Some, All}
use Rattle.std.specs.List.{flat_map, range_with_len}
use Rattle.cell_net.specs.declared.cells.End.TheVariants.{Low, High}
use Rattle.cell_net.specs.declared.cells.JoinSpec.{JoinSpec}
use Rattle.rail_net.specs.Passages.{HasPassage, IsAtNode}
use Rattle.rail_net.specs.declared.parts.NetParts.{NetParts}
use Rattle.discretise.specs.Cells.{cell}
use Rattle.discretise.specs.Picks.{Picks}
use Rattle.discretise.specs.declared.tracks.GridTrack.{GridTrack}
use Rattle.discretise.specs.declared.ends.TrackEnd.{TrackEnd}

-- the cut behind the cell at that place of a track joins its high end and the low end of the next
abbrev pub cut_join : GridTrack → ℕ → JoinSpec
cut_join g place = record {
  one = record { cell = cell (g.first + place); end = High };
  other = record { cell = cell (g.first + place + 1); end = Low };
}

abbrev pub cut_joins_in : GridTrack → List JoinSpec
cut_joins_in g = map (cut_join g) (range_with_len 0 (g.count - 1))

abbrev pub cut_joins : List GridTrack → List JoinSpec
cut_joins gs = flat_map cut_joins_in gs

-- the two ends of a track: the low end of its first cell, and the high end of its last
abbrev pub low_end : GridTrack → TrackEnd
low_end g = record { track = g.number; end = record { cell = cell g.first; end = Low } }

abbrev pub high_end : GridTrack → TrackEnd
high_end g = record { track = g.number; end = record { cell = cell (g.first + (g.count - 1)); end = High } }

-- those of its ends that stand at the node
abbrev pub track_ends_at : ℕ → GridTrack → List TrackEnd
track_ends_at node g = (if g.from == node then low_end g ∷ [] else []) ++ (if g.to == node then high_end g ∷ [] else [])

-- the ends of tracks at the node, by track
abbrev pub ends_at : List GridTrack → ℕ → List TrackEnd
ends_at gs node = flat_map (track_ends_at node) gs

-- two ends at one node
pub record NodePair : Type 0 where
  pub node : ℕ
  pub one : TrackEnd
  pub other : TrackEnd

abbrev pub pair_with : ℕ → TrackEnd → TrackEnd → NodePair
pair_with node one other = record { node = node; one = one; other = other }

-- any two of the ends at a node, the first of them with each later one first of all
abbrev pub pairs_of : ℕ → List TrackEnd → List NodePair
pairs_of node [] = []
pairs_of node (e ∷ es) = map (pair_with node e) es ++ pairs_of node es

-- any two ends at one node, where the first of these ends are at this node, and the next at the next
abbrev pub pairs_from : ℕ → List (List TrackEnd) → List NodePair
pairs_from node [] = []
pairs_from node (ends ∷ rows) = pairs_of node ends ++ pairs_from (node + 1) rows

-- any two ends of tracks at one of so many nodes, by node
abbrev pub node_pairs : List (List TrackEnd) → List NodePair
node_pairs rows = pairs_from 0 rows

-- a passage leads between the tracks of the two ends
abbrev pub IsPassage : NetParts → NodePair → Type 0
IsPassage p pair = HasPassage p pair.node pair.one.track pair.other.track

abbrev pub join_of : NodePair → JoinSpec
join_of pair = record { one = pair.one.end; other = pair.other.end }

-- the joins of the grid: those at cuts, and then those at nodes
pub record AreJoins (p : NetParts) (gs : List GridTrack) (joins : List JoinSpec) : Type 0 where
  pub passages : List NodePair
  pub picked : Picks (IsPassage p) (node_pairs (map (ends_at gs) (range_with_len 0 (length p.nodes)))) passages
  pub are : joins ≡ cut_joins gs ++ map join_of passages

-- for each node, as many as there are, the ends of tracks there
pub record AreEndsByNode (nodes : ℕ) (gs : List GridTrack) (rows : List (List TrackEnd)) : Type 0 where
  pub count : length rows ≡ nodes
  pub each : (number : ℕ) → number < nodes → slice_index_or rows number [] ≡ ends_at gs number

-- joins of what is picked of the pairs go behind the old ones
unfoldable pub AddsJoins : NetParts → List NodePair → List JoinSpec → List JoinSpec → Type 0
AddsJoins p pairs old new = (passages : List NodePair) × Picks (IsPassage p) pairs passages × (new ≡ old ++ map join_of passages)

-- the ends are of tracks with an end at the node
abbrev pub AreAtNode : NetParts → ℕ → List TrackEnd → Type 0
AreAtNode p node ends = All (λ e. IsAtNode p node e.track) ends

-- so are those of each node
pub record AreAtNodes (p : NetParts) (rows : List (List TrackEnd)) : Type 0 where
  pub each : (number : ℕ) (ends : List TrackEnd) → slice_get rows number ≡ Some ends → AreAtNode p number ends
