-- What the loop of `open_variables_are_decided_false` keeps from turn to turn.
use Rattle.search_tests.proofs.tests.watch.open_variables_are_decided_false.Given as goal

abbrev pub ghosts-values : goal.ghosts-values
ghosts-values g a = record { name = a.blank.name; parts = a.blank.parts }
