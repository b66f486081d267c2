-- What the loop of `is_clause` keeps from turn to turn.
use Rattle.std.specs.Prelude.{take}
use Rattle.sat_core.specs.Clauses.{IsClause}
use Rattle.sat_core.proofs.clause.is_clause.Given as goal

-- the literals up to here are a clause
abbrev pub invariant-loop-place : goal.invariant-loop-place
invariant-loop-place l = IsClause l.vars (take l.place l.lits)
