-- What the loop of `check_log` keeps from turn to turn.
use Rattle.std.specs.Prelude.{◌≡◌, take}
use Rattle.sat_core.specs.Derivation.{database_of, after_all, AreAccepted}
use Rattle.derivation_log.specs.Steps.{derived_steps}
use Rattle.log_checker.proofs.verdict.check_log.Given as goal

-- the steps up to here are accepted and taken
abbrev pub invariant-loop-index : goal.invariant-loop-index
invariant-loop-index l =
    (l.checker ≡ after_all (database_of l.fn.formula.vars l.fn.formula.clauses) (take l.index (derived_steps l.steps)))
    × AreAccepted (database_of l.fn.formula.vars l.fn.formula.clauses) (take l.index (derived_steps l.steps))
