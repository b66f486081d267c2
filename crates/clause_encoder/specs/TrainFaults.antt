-- Why a train has no numbers, and what is asked of it.
use Rattle.std.specs.Prelude.{◌<◌, ◌≤◌, ◌+◌, ℕ, List, length}
use Rattle.cell_net.specs.declared.parts.InstanceParts.{InstanceParts}
use Rattle.cell_net.specs.declared.trains.TrainSpec.{TrainSpec}
use Rattle.clause_list.specs.Numbers.{CodedTrain}
use Rattle.clause_encoder.specs.declared.build.NumberFault.{NumberFault}
use Rattle.clause_encoder.specs.declared.build.NumberFault.TheVariants.{TooMany, Memory}
use Rattle.clause_encoder.specs.declared.limits.TheConstants.{VARIABLES}

-- the train enters before it has to be there, within the steps of an instance
pub record IsInWindow (t : TrainSpec) : Type 0 where
  pub window : t.start ≤ t.latest
  pub in_order : t.latest ≤ t.by
  pub in_time : t.by < 400

-- a train's numbers, over these cones
abbrev pub coded_over : InstanceParts → ℕ → List (List ℕ) → TrainSpec → CodedTrain
coded_over p first cones train = record { start = train.start; latest = train.latest; by = train.by; stops = train.stops; cones = cones; cells = length p.cells; first = first }

-- the number behind is above that of the last variable that there may be; want of memory has no cause
abbrev pub IsNumberFault : ℕ → NumberFault → Type 0
IsNumberFault behind TooMany = VARIABLES + 1 < behind
IsNumberFault behind Memory = Unit {0}
