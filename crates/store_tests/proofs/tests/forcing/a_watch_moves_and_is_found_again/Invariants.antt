-- The ledger on which `a_watch_moves_and_is_found_again` counts.
use Rattle.store_tests.proofs.tests.forcing.a_watch_moves_and_is_found_again.Given as goal

abbrev pub ghosts-moves_a_watch : goal.ghosts-moves_a_watch
ghosts-moves_a_watch g a = record { name = a.blank.name; parts = a.blank.parts }
