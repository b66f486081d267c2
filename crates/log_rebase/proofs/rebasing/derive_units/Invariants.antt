-- The units so far have their steps.
use Rattle.std.proofs.Common.{◌≡◌, ◌+◌, ◌-◌, ◌++◌, take}
use Rattle.derivation_log.specs.Steps.{derived_steps}
use Rattle.log_rebase.specs.Rebasing.{derive_marks}
use Rattle.log_rebase.proofs.rebasing.derive_units.Given as goal

abbrev pub invariant-loop-place : goal.invariant-loop-place
invariant-loop-place l = derived_steps l.steps.items ≡ derived_steps l.fn.steps.items ++ take (l.place - 1) (derive_marks (l.clauses + 2) l.units)
