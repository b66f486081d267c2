-- Gaps: for each two cells of a section the candidates on each walk from the one to the other.
use Rattle.std.specs.Prelude.{◌≡◌, ◌<◌, ◌↔◌, ℕ, List, [], AllPairs, Any, Some, slice_get, slice_index_or, Contains}
use Rattle.std.specs.List.{AllZip}
use Rattle.cell_net.specs.Borders.{IsInSection}
use Rattle.cell_net.specs.declared.ids.CandidateId.{CandidateId}
use Rattle.cell_net.specs.declared.ids.CellId.{CellId}
use Rattle.cell_net.specs.declared.parts.InstanceParts.{InstanceParts}
use Rattle.gap_clauses.specs.Walks.{Step, AreWalks}

-- the candidates of each walk from e to f, in lists by first cell and by last cell
abbrev pub walks_of : List (List (List (List CandidateId))) → CellId → CellId → List (List CandidateId)
walks_of gaps e f = slice_index_or (slice_index_or gaps e.0 []) f.0 []

-- two cells of one section
pub record AreOfOneSection (p : InstanceParts) (e f : CellId) : Type 0 where
  pub section : ℕ
  pub one : IsInSection p section e
  pub other : IsInSection p section f

-- the candidates at the walk's nodes, rising
pub record AreCandidatesOf (p : InstanceParts) (walk : List Step) (candidates : List CandidateId) : Type 0 where
  pub which : (c : CandidateId) → Contains candidates c ↔ Any (λ s. slice_get p.candidates c.0 ≡ Some s.node) walk
  pub rising : AllPairs (λ b c. b.0 < c.0) candidates

-- these are the candidates of the walks from e to f, walk by walk, in the order of the walks
pub record AreGapsBetween (p : InstanceParts) (e f : CellId) (candidates : List (List CandidateId)) : Type 0 where
  pub walks : List (List Step)
  pub are_walks : AreWalks p e f walks
  pub are_theirs : AllZip (AreCandidatesOf p) walks candidates

-- the lists hold them for each two cells of a section
pub record AreGaps (p : InstanceParts) (gaps : List (List (List (List CandidateId)))) : Type 0 where
  pub between : (e f : CellId) → AreOfOneSection p e f → AreGapsBetween p e f (walks_of gaps e f)
