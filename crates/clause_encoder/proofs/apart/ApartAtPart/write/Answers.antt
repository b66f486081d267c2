-- Why `ApartAtPart::write` does what its contract says.
use Rattle.clause_list.specs.PairClauses.{apart_at}
use Rattle.clause_encoder.proofs.apart.ApartAtPart.write.Goals as goal

pub write_range-requires-clause-clauses : goal.write_range-requires-clause-clauses
unfolding apart_at
write_range-requires-clause-clauses c = rw c.cell_count.ensures.value c.requires.clauses

pub returns-clause-ok : goal.returns-clause-ok
unfolding apart_at
returns-clause-ok c = rw (← c.cell_count.ensures.value) c.write_range.ensures.ok

pub returns-clause-err : goal.returns-clause-err
unfolding apart_at
returns-clause-err c = rw (← c.cell_count.ensures.value) c.write_range.ensures.err
