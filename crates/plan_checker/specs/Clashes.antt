-- The first two trains of a plan that are not apart, and the first two cells by which they are not.
use Rattle.std.specs.Prelude.{◌≡◌, ◌<◌, ◌⊎◌, ℕ, List, Some, slice_get}
use Rattle.cell_net.specs.Borders.{Linked}
use Rattle.cell_net.specs.Runs.{IsSweepAt}
use Rattle.cell_net.specs.Plans.{AreSeparated}
use Rattle.cell_net.specs.declared.ids.CellId.{CellId}
use Rattle.cell_net.specs.declared.ids.CandidateId.{CandidateId}
use Rattle.cell_net.specs.declared.cells.DirCell.{DirCell}
use Rattle.cell_net.specs.declared.plans.Sweep.{Sweep}
use Rattle.cell_net.specs.declared.plans.TrainRun.{TrainRun}
use Rattle.cell_net.specs.declared.parts.InstanceParts.{InstanceParts}

-- the train of this number has the sweep at the step
pub record HasSweep (runs : List TrainRun) (train step : ℕ) (sweep : Sweep) : Type 0 where
  pub run : TrainRun
  pub is_run : slice_get runs train ≡ Some run
  pub is_there : IsSweepAt run step sweep

-- what the two trains touch at the step, if both are there, is separated
unfoldable pub AreApartAt : InstanceParts → List CandidateId → List TrainRun → ℕ → ℕ → ℕ → Type 0
AreApartAt p borders runs step a b =
    (w v : Sweep) → HasSweep runs a step w → HasSweep runs b step v → AreSeparated p borders w.cells v.cells

-- in pairs, ordered by the first, then by the second: x, y stands before a, b
abbrev pub ComesBefore : ℕ → ℕ → ℕ → ℕ → Type 0
ComesBefore x y a b = (x < a) ⊎ ((x ≡ a) × (y < b))

-- in the order of the one list, then of the other: the first two cells that are linked
pub record AreFirstLinked (p : InstanceParts) (borders : List CandidateId) (one other : List DirCell) (e f : CellId) : Type 0 where
  pub place : ℕ
  pub place_in_other : ℕ
  pub first : DirCell
  pub second : DirCell
  pub is_first : slice_get one place ≡ Some first
  pub is_second : slice_get other place_in_other ≡ Some second
  pub cell_is : first.cell ≡ e
  pub other_cell_is : second.cell ≡ f
  pub linked : Linked p borders e f
  pub none_before : (x y : ℕ) (c d : DirCell) → slice_get one x ≡ Some c → slice_get other y ≡ Some d →
      ComesBefore x y place place_in_other → ¬ Linked p borders c.cell d.cell

-- the first step at which two trains are not apart, there the first such pair of trains a < b, ordered
-- by a, then by b, and of their sweeps the first cells that are linked
pub record IsFirstClash (p : InstanceParts) (borders : List CandidateId) (runs : List TrainRun) (a b step : ℕ) (e f : CellId) : Type 0 where
  pub steps_before : (s x y : ℕ) → s < step → x < y → AreApartAt p borders runs s x y
  pub pairs_before : (x y : ℕ) → x < y → ComesBefore x y a b → AreApartAt p borders runs step x y
  pub in_order : a < b
  pub one : Sweep
  pub other : Sweep
  pub has_one : HasSweep runs a step one
  pub has_other : HasSweep runs b step other
  pub first_linked : AreFirstLinked p borders one.cells other.cells e f
