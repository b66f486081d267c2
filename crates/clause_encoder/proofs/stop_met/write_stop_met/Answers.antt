-- Why `write_stop_met` does what its contract says.
use Rattle.clause_list.specs.StopClauses.{stop_met_clauses}
use Rattle.clause_encoder.proofs.stop_met.write_stop_met.Goals as goal

pub write_range-requires-clause-clauses : goal.write_range-requires-clause-clauses
unfolding stop_met_clauses
write_range-requires-clause-clauses c = rw c.stop_count.ensures c.requires.clauses
