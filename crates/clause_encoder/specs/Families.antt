-- The families of one train, as the encoder writes them for all trains.
use Rattle.std.specs.Prelude.{◌≡◌, ◌<◌, ◌≤◌, ◌^◌, ℕ, List, length, slice_index_or}
use Rattle.sat_core.specs.declared.literal.Lit.{Lit}
use Rattle.cell_net.specs.declared.parts.InstanceParts.{InstanceParts}
use Rattle.sweep_table.specs.Tables.{Table}
use Rattle.clause_list.specs.Numbers.{CodedTrain}
use Rattle.clause_list.specs.RunClauses.{enter_clauses, go_on_clauses, stay_ended_clauses, gone_clauses, touch_clauses}
use Rattle.clause_list.specs.StopClauses.{stop_met_clauses, stop_in_run_clauses, stand_clauses, stop_after_entry_clauses}
use Rattle.clause_list.specs.WholeList.{train_at}
use Rattle.clause_encoder.specs.declared.family.TrainFamily.{TrainFamily}
use Rattle.clause_encoder.specs.declared.family.TrainFamily.TheVariants.{Enter, GoOn, StayEnded, Gone, Touch, StopMet, StopInRun, Stand, StopAfterEntry}
use Rattle.clause_encoder.specs.Fitting.{Fits, HasStations}

-- a family that is told by the numbers alone
abbrev pub by_numbers : (CodedTrain → List (List Lit)) → Table → CodedTrain → List (List Lit)
by_numbers family table a = family a

-- the clauses of the family of a train, by its table and its numbers
abbrev pub family_of : TrainFamily → Table → CodedTrain → List (List Lit)
family_of Enter = enter_clauses
family_of GoOn = go_on_clauses
family_of StayEnded = by_numbers stay_ended_clauses
family_of Gone = by_numbers gone_clauses
family_of Touch = touch_clauses
family_of StopMet = by_numbers stop_met_clauses
family_of StopInRun = by_numbers stop_in_run_clauses
family_of Stand = stand_clauses
family_of StopAfterEntry = by_numbers stop_after_entry_clauses

-- a table of so many items, and the numbers of its train over the stations of the instance
pub record FitsWhole (count : ℕ) (p : InstanceParts) (table : Table) (a : CodedTrain) : Type 0 where
  pub fits : Fits count table a
  pub stations : HasStations (length p.stations) a
  pub few_stops : length a.stops < 2 ^ 32

-- there is a table for each train, which fits its numbers
pub record AllFit {X : Type 0} (items : X → ℕ) (table : X → InstanceParts → Table) (p : InstanceParts) (tables : List X) (trains : List CodedTrain) : Type 0 where
  pub few : length trains ≤ 32
  pub for_each : length tables ≡ length trains
  pub each : (i : ℕ) (d : X) → i < length tables → FitsWhole (items (slice_index_or tables i d)) p (table (slice_index_or tables i d) p) (train_at trains i)
