-- The steps so far are renumbered, behind those of the units.
use Rattle.std.proofs.Common.{◌≡◌, ◌+◌, ◌++◌, map, take}
use Rattle.derivation_log.specs.Steps.{derived_steps}
use Rattle.log_rebase.specs.Rebasing.{derive_marks, with_numbers, renumbered}
use Rattle.log_rebase.proofs.rebasing.rebase.Given as goal

abbrev pub invariant-loop-step : goal.invariant-loop-step
invariant-loop-step l = derived_steps l.steps.items ≡ derive_marks (l.clauses + 2) l.units ++ map (with_numbers (renumbered l.clauses l.units)) (derived_steps (take l.step-index l.step-items))
