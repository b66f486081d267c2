-- The candidates on walks, as what is kept tells them.
use Rattle.std.specs.Prelude.{ℕ, Bool, List, length, map, slice_index_or}
use Rattle.std.specs.List.{filter, range_with_len}
use Rattle.cell_net.specs.declared.ids.CandidateId.{CandidateId}
use Rattle.cell_net.specs.declared.ids.CellId.{CellId}
use Rattle.cell_net.specs.declared.ids.NodeId.{NodeId}
use Rattle.gap_clauses.specs.Walks.{Step}
use Rattle.gap_clauses.specs.Fans.{FanParts, has_node, walks_to}

-- the cell and the candidate of that number
abbrev pub cell_of : ℕ → CellId
cell_of n = record { 0 = n }

abbrev pub candidate_of : ℕ → CandidateId
candidate_of n = record { 0 = n }

-- whether the candidate of these nodes is at a node of the walk
unfoldable pub is_on : List NodeId → List Step → CandidateId → Bool
is_on nodes walk c = has_node (slice_index_or nodes c.0 (record { 0 = 0 })) walk

-- the candidates, of these nodes, at nodes of the walk, rising
unfoldable pub candidates_on : List NodeId → List Step → List CandidateId
candidates_on nodes walk = filter (is_on nodes walk) (map candidate_of (range_with_len 0 (length nodes)))

-- the candidates of each walk of the fan to the cell, walk by walk
unfoldable pub candidates_to : List NodeId → FanParts → CellId → List (List CandidateId)
candidates_to nodes fan f = map (candidates_on nodes) (walks_to fan.first fan.walks f)

-- the same for each cell
unfoldable pub candidates_from : List NodeId → FanParts → List (List (List CandidateId))
candidates_from nodes fan = map (candidates_to nodes fan) (map cell_of (range_with_len 0 fan.cells))
