-- What the loop of `agrees_with_the_truth_table` keeps from turn to turn.
use Rattle.search_tests.proofs.tests.watch.agrees_with_the_truth_table.Given as goal

abbrev pub ghosts-decides : goal.ghosts-decides
ghosts-decides g a = record { name = a.blank.name; parts = a.blank.parts }
