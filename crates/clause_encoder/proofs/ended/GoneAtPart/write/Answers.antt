-- Why `write` of `GoneAt` does what its contract says.
use Rattle.clause_list.specs.RunClauses.{gone_at}
use Rattle.clause_encoder.proofs.ended.GoneAtPart.write.Goals as goal

pub write_each-requires-clause-clauses : goal.write_each-requires-clause-clauses
unfolding gone_at
write_each-requires-clause-clauses c = rw c.cone.ensures.value c.requires.clauses
