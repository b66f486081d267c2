-- The table of a train's sweeps: each sweep once, in order, and which goes on from which.
use Rattle.std.specs.Prelude.{◌≡◌, ◌≢◌, ◌<◌, ◌-◌, ◌↔◌, true, List, length, All, AllPairs, Some, slice_get, Contains}
use Rattle.cell_net.specs.Runs.{IsSweep, IsCellOf, Continues}
use Rattle.cell_net.specs.declared.ids.StationId.{StationId}
use Rattle.cell_net.specs.declared.cells.DirCell.{DirCell}
use Rattle.cell_net.specs.declared.trains.TrainSpec.{TrainSpec}
use Rattle.cell_net.specs.declared.parts.InstanceParts.{InstanceParts}
use Rattle.sweep_table.specs.Order.{IsSweepBefore}
use Rattle.sweep_table.specs.Tables.{Table, cells_of, next_of, is_entry, is_goal, stands_in}
use Rattle.sweep_table.specs.declared.ids.SweepId.{SweepId}
use Rattle.sweep_table.specs.declared.refusal.TableRefusal.{TableRefusal}
use Rattle.sweep_table.specs.declared.refusal.TableRefusal.TheVariants.{TooManySweeps, Memory}

-- the sweep stands, wholly in the station
pub record IsStanding (p : InstanceParts) (t : TrainSpec) (station : StationId) (cells : List DirCell) : Type 0 where
  pub stands : length cells ≡ t.length
  pub inside : All (λ d. IsCellOf p station d.cell) cells

-- each sweep of the train once, and nothing else, in order
pub record AreSweepsOf (p : InstanceParts) (t : TrainSpec) (sweeps : List (List DirCell)) : Type 0 where
  pub each : (w : List DirCell) → Contains sweeps w ↔ IsSweep p t w
  pub in_order : AllPairs IsSweepBefore sweeps

-- the table holds each sweep of the train once, and nothing else, in order; an entry begins with the
-- train's entry cell, a goal ends with its goal cell; and after a sweep come exactly those that go on
-- from it
pub record IsTableOf (p : InstanceParts) (t : TrainSpec) (table : Table) : Type 0 where
  pub sweeps : AreSweepsOf p t table.cells
  pub entries : (v : SweepId) → v.0 < length table.cells →
      (is_entry table v.0 ≡ true) ↔ (slice_get (cells_of table v.0) 0 ≡ Some t.entry)
  pub goals : (v : SweepId) → v.0 < length table.cells →
      (is_goal table v.0 ≡ true) ↔ (slice_get (cells_of table v.0) (length (cells_of table v.0) - 1) ≡ Some t.goal)
  pub stands : (station : StationId) (v : SweepId) → v.0 < length table.cells →
      (stands_in table station.0 v.0 ≡ true) ↔ IsStanding p t station (cells_of table v.0)
  pub goes_on : (v w : SweepId) → v.0 < length table.cells → w.0 < length table.cells →
      Contains (next_of table v.0) w ↔ Continues t (cells_of table v.0) (cells_of table w.0)

-- the train has more than 50,000 sweeps: so many different ones
pub record HasTooManySweeps (p : InstanceParts) (t : TrainSpec) : Type 0 where
  pub some : List (List DirCell)
  pub are_sweeps : All (IsSweep p t) some
  pub differ : AllPairs ◌≢◌ some
  pub many : 50000 < length some

-- why there is no table; want of memory has no cause
abbrev pub IsTableRefusal : InstanceParts → TrainSpec → TableRefusal → Type 0
IsTableRefusal p t TooManySweeps = HasTooManySweeps p t
IsTableRefusal p t Memory = Unit {0}
