-- The ledger on which `a_row_of_implications_is_propagated_in_one_call` counts.
use Rattle.store_tests.proofs.tests.forcing.a_row_of_implications_is_propagated_in_one_call.Given as goal

abbrev pub ghosts-propagates_a_row : goal.ghosts-propagates_a_row
ghosts-propagates_a_row g a = record { name = a.blank.name; parts = a.blank.parts }
