-- The ledger on which `a_false_clause_is_found_behind_moved_watches` counts.
use Rattle.store_tests.proofs.tests.forcing.a_false_clause_is_found_behind_moved_watches.Given as goal

abbrev pub ghosts-finds_a_false_clause : goal.ghosts-finds_a_false_clause
ghosts-finds_a_false_clause g a = record { name = a.blank.name; parts = a.blank.parts }
