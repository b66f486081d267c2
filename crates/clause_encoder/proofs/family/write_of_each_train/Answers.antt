-- Why `write_of_each_train` does what its contract says.
use Rattle.clause_list.specs.WholeList.{of_each_train}
use Rattle.clause_encoder.proofs.family.write_of_each_train.Goals as goal

pub write_range-requires-clause-clauses : goal.write_range-requires-clause-clauses
unfolding of_each_train
write_range-requires-clause-clauses g c = c.requires.clauses
