-- The ledgers on which `both_solvers_find_the_fewest_borders` counts.
use Rattle.task_tests.proofs.tests.pairs.both_solvers_find_the_fewest_borders.Given as goal

abbrev pub ghosts-ends_as : goal.ghosts-ends_as
ghosts-ends_as g a = record { name = a.blank.name; parts = a.blank.parts }

abbrev pub ghosts-ends_as-2 : goal.ghosts-ends_as-2
ghosts-ends_as-2 g a = record { name = a.blank.name; parts = a.blank.parts }
