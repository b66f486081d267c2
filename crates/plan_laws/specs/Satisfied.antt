-- What the laws take: a valuation that satisfies the clauses, numbers of trains, and tables.
use Rattle.std.specs.Prelude.{◌≡◌, ◌<◌, ◌≤◌, ℕ, List, Bool, true, length, All, Contains}
use Rattle.sat_core.specs.Clauses.{SatisfiesAll}
use Rattle.cell_net.specs.declared.parts.InstanceParts.{InstanceParts}
use Rattle.cell_net.specs.declared.trains.TrainSpec.{TrainSpec}
use Rattle.sweep_table.specs.Tables.{Table, IsTable, is_goal}
use Rattle.clause_list.specs.Numbers.{CodedTrain, cone}
use Rattle.clause_list.specs.RunClauses.{enter_clauses, go_on_clauses, stay_ended_clauses, gone_clauses, touch_clauses}
use Rattle.clause_list.specs.StopClauses.{stop_met_clauses, stop_in_run_clauses, stand_clauses, stop_after_entry_clauses}

-- the valuation satisfies each family of clauses of the train
pub record IsSatisfied (values : List Bool) (table : Table) (a : CodedTrain) : Type 0 where
  pub enter : SatisfiesAll values (enter_clauses table a)
  pub go_on : SatisfiesAll values (go_on_clauses table a)
  pub stay_ended : SatisfiesAll values (stay_ended_clauses a)
  pub gone : SatisfiesAll values (gone_clauses a)
  pub touch : SatisfiesAll values (touch_clauses table a)
  pub stop_met : SatisfiesAll values (stop_met_clauses a)
  pub stop_in_run : SatisfiesAll values (stop_in_run_clauses a)
  pub stand : SatisfiesAll values (stand_clauses table a)
  pub stop_after_entry : SatisfiesAll values (stop_after_entry_clauses a)

-- the numbers are those of the train, whose steps are in order, and the last cone holds goals alone
pub record IsCoded (table : Table) (train : TrainSpec) (a : CodedTrain) : Type 0 where
  pub start : a.start ≡ train.start
  pub latest : a.latest ≡ train.latest
  pub by : a.by ≡ train.by
  pub stops : a.stops ≡ train.stops
  pub window : a.start ≤ a.latest
  pub in_order : a.latest ≤ a.by
  pub last : (w : ℕ) → Contains (cone a a.by) w → is_goal table w ≡ true
  pub dwell : All (λ stop. 0 < stop.dwell) a.stops

-- a table for each train of the instance, each of which keeps the rules of tables
pub record AreTables (p : InstanceParts) (tables : List Table) : Type 0 where
  pub for_each : length tables ≡ length p.trains
  pub each : All (IsTable p) tables
