-- What the loop of `pass` keeps from turn to turn.
use Rattle.plain_solver.proofs.PassLemmas.{IsPassing}
use Rattle.plain_solver.proofs.passes.pass.Given as goal

abbrev pub invariant-clauses : goal.invariant-clauses
invariant-clauses l = IsPassing l.formula.clauses l.initial.trail l.trail l.place
