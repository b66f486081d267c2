-- What the loop of `assume_negations` keeps from turn to turn.
use Rattle.std.specs.Prelude.{◌≡◌, take, map}
use Rattle.sat_core.specs.Clauses.{negated, HasNoVariableTwice}
use Rattle.log_checker.proofs.judge.assume_negations.Given as goal

-- the negations of the literals up to here are known, and no variable stands twice among them
abbrev pub invariant-loop-lit : goal.invariant-loop-lit
invariant-loop-lit l = (l.assignment.vars ≡ l.initial.assignment.vars) × (l.assignment.lits ≡ map negated (take l.lit-index l.lits)) × HasNoVariableTwice (take l.lit-index l.lits)
