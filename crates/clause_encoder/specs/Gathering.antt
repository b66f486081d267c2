-- How cones are gathered, step by step.
use Rattle.std.specs.Prelude.{◌≡◌, ◌<◌, ◌≤◌, ℕ, List, Bool, length, map, sum_by}
use Rattle.sweep_table.specs.Tables.{Table}
use Rattle.clause_list.specs.Ranges.{from_below}
use Rattle.clause_list.specs.Cones.{ahead, cone_at, cones_of}
use Rattle.clause_encoder.specs.declared.gather.GatherFault.{GatherFault}
use Rattle.clause_encoder.specs.declared.gather.GatherFault.TheVariants.{TooMany, Memory}

-- so many steps are gathered: their cones, the number of items in them, and the marks of the next step
pub record IsGathered (table : Table) (window last step : ℕ) (marks : List Bool) (cones : List (List ℕ)) (count : ℕ) : Type 0 where
  pub marks_are : marks ≡ ahead table window step
  pub cones_are : cones ≡ map (cone_at table window last) (from_below 0 step)
  pub counted : count ≡ sum_by length cones
  pub few : count ≤ 2000000

-- there are too many items in all cones; want of memory has no cause
abbrev pub IsGatherFault : Table → ℕ → ℕ → GatherFault → Type 0
IsGatherFault table window last TooMany = 2000000 < sum_by length (cones_of table window last)
IsGatherFault table window last Memory = Unit {0}
