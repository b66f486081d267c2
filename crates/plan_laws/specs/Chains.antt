-- Chains: items of a train's table, one for each step at which the train is there.
use Rattle.std.specs.Prelude.{◌≡◌, ◌<◌, ◌≤◌, ◌+◌, ◌-◌, ℕ, true, List, length, map, Some, slice_get, All, AllPairs, Contains}
use Rattle.std.specs.List.{AllAdjacentBelow}
use Rattle.cell_net.specs.Borders.{IsLayout}
use Rattle.cell_net.specs.Plans.{AreApart}
use Rattle.cell_net.specs.declared.ids.CandidateId.{CandidateId}
use Rattle.cell_net.specs.declared.parts.InstanceParts.{InstanceParts}
use Rattle.cell_net.specs.declared.plans.Sweep.{Sweep}
use Rattle.cell_net.specs.declared.plans.TrainRun.{TrainRun}
use Rattle.cell_net.specs.declared.plans.Plan.{Plan}
use Rattle.cell_net.specs.declared.trains.StopSpec.{StopSpec}
use Rattle.cell_net.specs.declared.trains.TrainSpec.{TrainSpec}
use Rattle.sweep_table.specs.declared.ids.SweepId.{SweepId}
use Rattle.sweep_table.specs.Tables.{Table, cells_of, next_of, is_entry, is_goal, stands_in}
use Rattle.clause_list.specs.WholeList.{table_at}

-- at the step, the items from the step x on have one that stands in the station
unfoldable pub StandsAt : Table → ℕ → List SweepId → ℕ → ℕ → Type 0
StandsAt table x items station t = (x ≤ t) × ((v : SweepId) × (slice_get items (t - x) ≡ Some v) × (stands_in table station v.0 ≡ true))

-- the items at the steps from x on meet the stop: within its window there are as many steps in a row as it asks for at which
-- they stand in its station
unfoldable pub IsStopMet : Table → ℕ → List SweepId → StopSpec → Type 0
IsStopMet table x items stop = (s : ℕ) × (stop.from ≤ s) × (s + stop.dwell ≤ stop.until) ×
    ((t : ℕ) → s ≤ t → t < s + stop.dwell → StandsAt table x items stop.station.0 t)

-- a chain of the train, at the steps from x on: its first item is an entry, at a step of the train's window; each later one may
-- come after the one before; the last is a goal, in time; and every stop is met
pub record IsChain (table : Table) (train : TrainSpec) (x : ℕ) (items : List SweepId) : Type 0 where
  pub not_early : train.start ≤ x
  pub not_late : x ≤ train.latest
  pub first : SweepId
  pub is_first : slice_get items 0 ≡ Some first
  pub enters : is_entry table first.0 ≡ true
  pub goes_on : AllAdjacentBelow (λ v w. Contains (next_of table v.0) w) items (length items)
  pub last : SweepId
  pub is_last : slice_get items (length items - 1) ≡ Some last
  pub arrives : is_goal table last.0 ≡ true
  pub in_time : x + length items ≤ train.by + 1
  pub stops : All (IsStopMet table x items) train.stops

-- what a train touches in one step, by the item that it has
abbrev pub sweep_of : Table → SweepId → Sweep
sweep_of table v = record { cells = cells_of table v.0 }

-- the run touches, step by step, what the items of a chain of the train touch
pub record IsChainRun (table : Table) (train : TrainSpec) (r : TrainRun) : Type 0 where
  pub items : List SweepId
  pub chain : IsChain table train r.start items
  pub touches : r.sweeps ≡ map (sweep_of table) items

-- the borders are a layout, and the runs are those of chains, one for each train in its table, any two of which are separated at
-- each step that both have
pub record AreChains (p : InstanceParts) (borders : List CandidateId) (tables : List Table) (plan : Plan) : Type 0 where
  pub layout : IsLayout p borders
  pub for_each : length plan.runs ≡ length p.trains
  pub each : (i : ℕ) (train : TrainSpec) (r : TrainRun) → slice_get p.trains i ≡ Some train → slice_get plan.runs i ≡ Some r → IsChainRun (table_at tables i) train r
  pub apart : AllPairs (AreApart p borders) plan.runs
