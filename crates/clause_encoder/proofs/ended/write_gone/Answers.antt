-- Why `write_gone` does what its contract says.
use Rattle.clause_list.specs.RunClauses.{gone_clauses}
use Rattle.clause_encoder.proofs.ended.write_gone.Goals as goal

pub write_range-requires-clause-clauses : goal.write_range-requires-clause-clauses
unfolding gone_clauses
write_range-requires-clause-clauses c = rw (c.start.ensures.value, c.by.ensures.value) c.requires.clauses
