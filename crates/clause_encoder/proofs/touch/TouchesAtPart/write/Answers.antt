-- Why `write` of `TouchesAt` does what its contract says.
use Rattle.clause_list.specs.RunClauses.{touches_at}
use Rattle.clause_encoder.proofs.touch.TouchesAtPart.write.Goals as goal

pub write_each-requires-clause-clauses : goal.write_each-requires-clause-clauses
unfolding touches_at
write_each-requires-clause-clauses g c = rw c.cone.ensures.value c.requires.clauses
