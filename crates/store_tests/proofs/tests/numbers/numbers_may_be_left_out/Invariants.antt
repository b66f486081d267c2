-- The ledger on which `numbers_may_be_left_out` counts.
use Rattle.store_tests.proofs.tests.numbers.numbers_may_be_left_out.Given as goal

abbrev pub ghosts-leaves_numbers_out : goal.ghosts-leaves_numbers_out
ghosts-leaves_numbers_out g a = record { name = a.blank.name; parts = a.blank.parts }
