-- Why `write_enter` does what its contract says.
use Rattle.clause_list.specs.RunClauses.{enter_clauses}
use Rattle.clause_encoder.proofs.enter.write_enter.Goals as goal

pub write_range-requires-clause-clauses : goal.write_range-requires-clause-clauses
unfolding enter_clauses
write_range-requires-clause-clauses g c = rw (c.start.ensures.value, c.latest.ensures.value) c.requires.clauses
