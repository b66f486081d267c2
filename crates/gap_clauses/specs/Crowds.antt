-- Sections with too many walks, and why an instance has no gaps.
use Rattle.std.specs.Prelude.{◌≢◌, ◌<◌, ℕ, List, length, All, AllPairs}
use Rattle.cell_net.specs.Borders.{IsInSection}
use Rattle.cell_net.specs.declared.ids.CellId.{CellId}
use Rattle.cell_net.specs.declared.parts.InstanceParts.{InstanceParts}
use Rattle.gap_clauses.specs.Walks.{Step, IsWalk}
use Rattle.gap_clauses.specs.declared.refusal.GapRefusal.{GapRefusal}
use Rattle.gap_clauses.specs.declared.refusal.GapRefusal.TheVariants.{TooManyWalks, Memory}

-- there are more than 64 walks from e to f
pub record HaveManyWalks (p : InstanceParts) (e f : CellId) : Type 0 where
  pub walks : List (List Step)
  pub are_walks : All (λ w. IsWalk p e w f) walks
  pub no_walk_twice : AllPairs ◌≢◌ walks
  pub many : 64 < length walks

-- there are more than 64 walks from e to some cell
abbrev pub IsCrowdedFrom : InstanceParts → CellId → Type 0
IsCrowdedFrom p e = (f : CellId) × HaveManyWalks p e f

-- the section has a pair of cells with more than 64 walks
pub record IsCrowded (p : InstanceParts) (section : ℕ) : Type 0 where
  pub one : CellId
  pub other : CellId
  pub one_in : IsInSection p section one
  pub other_in : IsInSection p section other
  pub many : HaveManyWalks p one other

-- no section before this one has such a pair
abbrev pub NoneIsCrowdedBelow : InstanceParts → ℕ → Type 0
NoneIsCrowdedBelow p section = (r : ℕ) → r < section → ¬ IsCrowded p r

-- the first section that has such a pair; want of memory has no cause
abbrev pub IsGapRefusal : InstanceParts → GapRefusal → Type 0
IsGapRefusal p (TooManyWalks s) = IsCrowded p s.0 × NoneIsCrowdedBelow p s.0
IsGapRefusal p Memory = Unit {0}
