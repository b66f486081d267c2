-- The ledger on which `want_of_memory_is_told` counts.
use Rattle.task_tests.proofs.tests.outcomes.want_of_memory_is_told.Given as goal

abbrev pub ghosts-is_starved : goal.ghosts-is_starved
ghosts-is_starved g a = record { name = a.blank.name; parts = a.blank.parts }
