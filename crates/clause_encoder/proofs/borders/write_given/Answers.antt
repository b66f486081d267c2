-- Why `write_given` does what its contract says.
use Rattle.clause_list.specs.BorderClauses.{given_clauses}
use Rattle.clause_encoder.proofs.borders.write_given.Goals as goal

pub write_range-requires-clause-clauses : goal.write_range-requires-clause-clauses
unfolding given_clauses
write_range-requires-clause-clauses c = rw c.candidate_count.ensures.value c.requires
