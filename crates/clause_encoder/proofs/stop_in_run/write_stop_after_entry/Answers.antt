-- Why `write_stop_after_entry` does what its contract says.
use Rattle.clause_list.specs.StopClauses.{stop_after_entry_clauses}
use Rattle.clause_encoder.proofs.stop_in_run.write_stop_after_entry.Goals as goal

pub write_range-requires-clause-clauses : goal.write_range-requires-clause-clauses
unfolding stop_after_entry_clauses
write_range-requires-clause-clauses c = rw c.stop_count.ensures c.requires.clauses
