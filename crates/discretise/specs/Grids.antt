-- The tracks on the grid, with what is made of them first.
use Rattle.std.specs.Prelude.{◌≡◌, ◌+◌, ◌<◌, ◌^◌, ℕ, List, length}
use Rattle.cell_net.specs.declared.limits.TheConstants.{CELLS}
use Rattle.cell_net.specs.declared.ids.NodeId.{NodeId}
use Rattle.rail_net.specs.declared.parts.NetParts.{NetParts}
use Rattle.timetable.specs.declared.parts.Timetable.{Timetable}
use Rattle.discretise.specs.Tracks.{AreGridTracks, AreInRange, AreSmall}
use Rattle.discretise.specs.Joins.{AreEndsByNode}
use Rattle.discretise.specs.Places.{AreFreeJoints, nodes_of_candidates}
use Rattle.discretise.specs.declared.tracks.GridTrack.{GridTrack}
use Rattle.discretise.specs.declared.ends.TrackEnd.{TrackEnd}

-- the tracks, their ends at each node, the joints where a border may stand, and the candidates
pub record IsGridOf (p : NetParts) (t : Timetable) (gs : List GridTrack) (ends : List (List TrackEnd)) (joints : List ℕ) (candidates : List NodeId) : Type 0 where
  pub tracks : AreGridTracks p t gs
  pub range : AreInRange (length p.nodes) gs
  pub small : AreSmall gs
  pub nodes : length p.nodes + CELLS < 2 ^ 32
  pub are_ends : AreEndsByNode (length p.nodes) gs ends
  pub are_joints : AreFreeJoints p joints
  pub are_candidates : candidates ≡ nodes_of_candidates joints gs
