-- The ledger on which `a_number_that_was_discarded_is_used_again` counts.
use Rattle.store_tests.proofs.tests.numbers.a_number_that_was_discarded_is_used_again.Given as goal

abbrev pub ghosts-uses_a_number_again : goal.ghosts-uses_a_number_again
ghosts-uses_a_number_again g a = record { name = a.blank.name; parts = a.blank.parts }
