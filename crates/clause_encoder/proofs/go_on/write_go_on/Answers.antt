-- Why `write_go_on` does what its contract says.
use Rattle.clause_list.specs.RunClauses.{go_on_clauses}
use Rattle.clause_encoder.proofs.go_on.write_go_on.Goals as goal

pub write_range-requires-clause-clauses : goal.write_range-requires-clause-clauses
unfolding go_on_clauses
write_range-requires-clause-clauses g c = rw (c.start.ensures.value, c.by.ensures.value) c.requires.clauses
