-- The ledgers on which `tasks_end_as_wanted` counts.
use Rattle.task_tests.proofs.tests.outcomes.tasks_end_as_wanted.Given as goal

abbrev pub ghosts-ends_as : goal.ghosts-ends_as
ghosts-ends_as g a = record { name = a.blank.name; parts = a.blank.parts }

abbrev pub ghosts-ends_as-2 : goal.ghosts-ends_as-2
ghosts-ends_as-2 g a = record { name = a.blank.name; parts = a.blank.parts }
