-- What the loop of `first_fault` keeps from turn to turn.
use Rattle.std.specs.Prelude.{◌≡◌, drop}
use Rattle.sat_core.specs.Hints.{hints_fault}
use Rattle.log_checker.proofs.hints.first_fault.Given as goal

-- the hints that are left have the fault of all
abbrev pub invariant-loop-count : goal.invariant-loop-count
invariant-loop-count l = (l.assignment.vars ≡ l.initial.assignment.vars) × (hints_fault l.store.live l.assignment.lits (drop l.count l.hints) ≡ hints_fault l.store.live l.initial.assignment.lits l.hints)
