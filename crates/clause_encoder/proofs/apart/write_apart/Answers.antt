-- Why `write_apart` does what its contract says.
use Rattle.clause_list.specs.PairClauses.{apart_clauses}
use Rattle.clause_encoder.proofs.apart.write_apart.Goals as goal

pub write_range-requires-clause-clauses : goal.write_range-requires-clause-clauses
unfolding apart_clauses
write_range-requires-clause-clauses c = rw (c.later.ensures, c.earlier.ensures, c.start.ensures.value, c.start-2.ensures.value, c.by.ensures.value, c.by-2.ensures.value) c.requires.clauses
