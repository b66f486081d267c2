-- What the search over all cells has found so far, which only this crate's code and proofs see.
use Rattle.std.specs.Prelude.{◌≡◌, ◌≢◌, ◌<◌, ◌≤◌, ℕ, Bool, false, List, Option, Some, None, length, All, AllPairs, slice_index_or}
use Rattle.cell_net.specs.Borders.{IsInSection}
use Rattle.cell_net.specs.declared.ids.CandidateId.{CandidateId}
use Rattle.cell_net.specs.declared.ids.CellId.{CellId}
use Rattle.cell_net.specs.declared.ids.NodeId.{NodeId}
use Rattle.cell_net.specs.declared.ids.SectionId.{SectionId}
use Rattle.cell_net.specs.declared.parts.InstanceParts.{InstanceParts}
use Rattle.gap_clauses.specs.Crowds.{IsCrowded, IsCrowdedFrom}
use Rattle.gap_clauses.specs.Fans.{FanParts, IsFanOf}
use Rattle.gap_clauses.specs.Views.{candidate_of, cell_of, is_on}
use Rattle.gap_clauses.specs.Walks.{Step}

-- there is a lowest section, and it is no higher than this one
abbrev pub IsNoHigher : Option SectionId → ℕ → Type 0
IsNoHigher None section = ⊥
IsNoHigher (Some lowest) section = lowest.0 ≤ section

-- of the cells below this number: the lowest section that has too many walks, if one has, and else the
-- fan of each cell
pub record AreSearchedBelow (p : InstanceParts) (below : ℕ) (lowest : Option SectionId) (fans : List FanParts) : Type 0 where
  pub for_each : lowest ≡ None → length fans ≡ below
  pub each : lowest ≡ None → (k : ℕ) (d : FanParts) → k < below → IsFanOf p (cell_of k) (slice_index_or fans k d)
  pub no_lower : (e : CellId) (section : ℕ) → e.0 < below → IsInSection p section e → IsCrowdedFrom p e → IsNoHigher lowest section
  pub has_many : (s : SectionId) → lowest ≡ Some s → IsCrowded p s.0

-- nodes of candidates: they rise, and are not too many
pub record AreCandidateNodes (nodes : List NodeId) : Type 0 where
  pub few : length nodes ≤ 512
  pub rising : AllPairs (λ m n. m.0 < n.0) nodes

-- the place is that of the node of this number, or behind all where no candidate is at it
pub record IsPlaceOfNode (nodes : List NodeId) (number : ℕ) (place : ℕ) : Type 0 where
  pub there : place < length nodes → (d : NodeId) → (slice_index_or nodes place d).0 ≡ number
  pub nowhere : length nodes ≤ place → All (λ n. n.0 ≢ number) nodes

-- the places of the nodes of these numbers, from 0 on
pub record ArePlacesOf (nodes : List NodeId) (places : List ℕ) : Type 0 where
  pub each : (number d : ℕ) → number < length places → IsPlaceOfNode nodes number (slice_index_or places number d)

-- the marks say which candidates, of these nodes, are at nodes of the walk
abbrev pub AreMarks : List NodeId → List Step → List Bool → Type 0
AreMarks nodes walk marks = (k : ℕ) → k < length nodes → slice_index_or marks k false ≡ is_on nodes walk (candidate_of k)

-- whether the candidate is marked
unfoldable pub is_marked_candidate : List Bool → CandidateId → Bool
is_marked_candidate marks c = slice_index_or marks c.0 false
