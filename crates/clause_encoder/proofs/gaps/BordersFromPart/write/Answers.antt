-- Why `BordersFromPart::write` does what its contract says.
use Rattle.clause_list.specs.BorderClauses.{borders_from}
use Rattle.clause_encoder.proofs.gaps.BordersFromPart.write.Goals as goal

pub write_each-requires-clause-clauses : goal.write_each-requires-clause-clauses
unfolding borders_from
write_each-requires-clause-clauses c = rw c.above.ensures.value c.requires.clauses
