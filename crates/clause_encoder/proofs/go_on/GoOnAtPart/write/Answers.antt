-- Why `write` of `GoOnAt` does what its contract says.
use Rattle.clause_list.specs.RunClauses.{goes_on_at}
use Rattle.clause_encoder.proofs.go_on.GoOnAtPart.write.Goals as goal

pub write_each-requires-clause-clauses : goal.write_each-requires-clause-clauses
unfolding goes_on_at
write_each-requires-clause-clauses g c = rw c.cone.ensures.value c.requires.clauses
