-- Why `write` of `StandFrom` does what its contract says.
use Rattle.clause_list.specs.StopClauses.{stands_from}
use Rattle.clause_encoder.proofs.stand.StandFromPart.write.Goals as goal

pub write_range-requires-clause-clauses : goal.write_range-requires-clause-clauses
unfolding stands_from
write_range-requires-clause-clauses g c = rw c.stop.ensures c.requires.clauses
