-- Why `write_gaps` does what its contract says.
use Rattle.clause_list.specs.BorderClauses.{gap_clauses}
use Rattle.clause_encoder.proofs.gaps.write_gaps.Goals as goal

pub write_range-requires-clause-clauses : goal.write_range-requires-clause-clauses
unfolding gap_clauses
write_range-requires-clause-clauses c = rw c.cell_count.ensures.value c.requires.clauses
