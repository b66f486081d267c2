-- Laws of walks, which the functions of `laws.rt` hand to their callers.
use Rattle.std.specs.Prelude.{◌≡◌, ◌↔◌, List, All, Any, Contains}
use Rattle.cell_net.specs.Borders.{IsBorder, Linked}
use Rattle.cell_net.specs.declared.ids.CandidateId.{CandidateId}
use Rattle.cell_net.specs.declared.ids.CellId.{CellId}
use Rattle.cell_net.specs.declared.parts.InstanceParts.{InstanceParts}
use Rattle.gap_clauses.specs.Gaps.{AreOfOneSection, walks_of}
use Rattle.gap_clauses.specs.Walks.{Step, IsWalk, AreWalks}

-- each walk from e to f has a border among its nodes
unfoldable pub IsCut : InstanceParts → List CandidateId → CellId → CellId → Type 0
IsCut p borders e f = (w : List Step) → IsWalk p e w f → Any (λ s. IsBorder p borders s.node) w

-- two cells are separated exactly where each walk between them has a border among its nodes
abbrev pub CutSeparates : InstanceParts → List CandidateId → Type 0
CutSeparates p borders = (e f : CellId) → (¬ Linked p borders e f) ↔ IsCut p borders e f

-- the walks of a pair are one list
abbrev pub AreListedOnce : InstanceParts → CellId → CellId → Type 0
AreListedOnce p e f = (one other : List (List Step)) → AreWalks p e f one → AreWalks p e f other → one ≡ other

-- one of the candidates has a border
abbrev pub HasBorder : List CandidateId → List CandidateId → Type 0
HasBorder borders candidates = Any (Contains borders) candidates

-- two cells of a section are separated exactly where each walk between them has a border among its
-- candidates
abbrev pub CandidatesSeparate : InstanceParts → List CandidateId → List (List (List (List CandidateId))) → Type 0
CandidatesSeparate p borders gaps = (e f : CellId) → AreOfOneSection p e f →
    (¬ Linked p borders e f) ↔ All (HasBorder borders) (walks_of gaps e f)
