-- Plans: which are lawful under a layout, which layouts are feasible, and which are least.
use Rattle.std.specs.Prelude.{◌≤◌, ℕ, List, length, AllPairs, Contains}
use Rattle.std.specs.List.{AllZip}
use Rattle.cell_net.specs.Borders.{IsLayout, Linked}
use Rattle.cell_net.specs.Runs.{IsRun, IsSweepAt}
use Rattle.cell_net.specs.declared.ids.CandidateId.{CandidateId}
use Rattle.cell_net.specs.declared.cells.DirCell.{DirCell}
use Rattle.cell_net.specs.declared.plans.Sweep.{Sweep}
use Rattle.cell_net.specs.declared.plans.TrainRun.{TrainRun}
use Rattle.cell_net.specs.declared.plans.Plan.{Plan}
use Rattle.cell_net.specs.declared.parts.InstanceParts.{InstanceParts}

-- every cell of the one sweep and every cell of the other are separated
abbrev pub AreSeparated : InstanceParts → List CandidateId → List DirCell → List DirCell → Type 0
AreSeparated p borders one other =
    (c d : DirCell) → Contains one c → Contains other d → ¬ Linked p borders c.cell d.cell

-- at each step that both runs have, what the one train touches and what the other touches are
-- separated
abbrev pub AreApart : InstanceParts → List CandidateId → TrainRun → TrainRun → Type 0
AreApart p borders r s = (step : ℕ) (w v : Sweep) → IsSweepAt r step w → IsSweepAt s step v →
    AreSeparated p borders w.cells v.cells

-- a lawful plan under the borders: they are a layout, each train has its run, and every two trains
-- are apart
pub record IsLawful (p : InstanceParts) (borders : List CandidateId) (plan : Plan) : Type 0 where
  pub layout : IsLayout p borders
  pub runs : AllZip (IsRun p) p.trains plan.runs
  pub apart : AllPairs (AreApart p borders) plan.runs

-- a feasible layout: some plan is lawful under it
unfoldable pub IsFeasible : InstanceParts → List CandidateId → Type 0
IsFeasible p borders = (plan : Plan) × IsLawful p borders plan

-- a layout of at most so many borders is feasible
unfoldable pub IsPossibleWithin : InstanceParts → ℕ → Type 0
IsPossibleWithin p most = (borders : List CandidateId) × IsFeasible p borders × (length borders ≤ most)

-- a least layout: a feasible one, and no feasible one has fewer borders
pub record IsLeast (p : InstanceParts) (borders : List CandidateId) : Type 0 where
  pub feasible : IsFeasible p borders
  pub no_fewer : (others : List CandidateId) → IsFeasible p others → length borders ≤ length others
