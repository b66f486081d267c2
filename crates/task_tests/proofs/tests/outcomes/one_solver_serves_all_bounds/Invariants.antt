-- The ledger on which `one_solver_serves_all_bounds` counts.
use Rattle.task_tests.proofs.tests.outcomes.one_solver_serves_all_bounds.Given as goal

abbrev pub ghosts-ends_as : goal.ghosts-ends_as
ghosts-ends_as g a = record { name = a.blank.name; parts = a.blank.parts }
