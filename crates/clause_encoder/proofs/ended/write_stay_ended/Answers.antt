-- Why `write_stay_ended` does what its contract says.
use Rattle.clause_list.specs.RunClauses.{stay_ended_clauses}
use Rattle.clause_encoder.proofs.ended.write_stay_ended.Goals as goal

pub write_range-requires-clause-clauses : goal.write_range-requires-clause-clauses
unfolding stay_ended_clauses
write_range-requires-clause-clauses c = rw (c.start.ensures.value, c.by.ensures.value) c.requires.clauses
