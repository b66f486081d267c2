-- Why `write_touches` does what its contract says.
use Rattle.clause_list.specs.RunClauses.{touch_clauses}
use Rattle.clause_encoder.proofs.touch.write_touches.Goals as goal

pub write_range-requires-clause-clauses : goal.write_range-requires-clause-clauses
unfolding touch_clauses
write_range-requires-clause-clauses g c = rw (c.start.ensures.value, c.by.ensures.value) c.requires.clauses
