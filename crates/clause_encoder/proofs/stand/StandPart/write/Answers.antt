-- Why `write` of `Stand` does what its contract says.
use Rattle.clause_list.specs.StopClauses.{stands_while}
use Rattle.clause_encoder.proofs.stand.StandPart.write.Goals as goal

pub write_range-requires-clause-clauses : goal.write_range-requires-clause-clauses
unfolding stands_while
write_range-requires-clause-clauses g c = rw (c.first_beginning_of.ensures, c.end_of_beginnings_of.ensures) c.requires.clauses
