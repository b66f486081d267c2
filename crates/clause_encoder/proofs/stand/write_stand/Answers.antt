-- Why `write_stand` does what its contract says.
use Rattle.clause_list.specs.StopClauses.{stand_clauses}
use Rattle.clause_encoder.proofs.stand.write_stand.Goals as goal

pub write_range-requires-clause-clauses : goal.write_range-requires-clause-clauses
unfolding stand_clauses
write_range-requires-clause-clauses g c = rw c.stop_count.ensures c.requires.clauses
