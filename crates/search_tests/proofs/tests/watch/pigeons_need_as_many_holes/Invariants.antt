-- What the loop of `pigeons_need_as_many_holes` keeps from turn to turn.
use Rattle.search_tests.proofs.tests.watch.pigeons_need_as_many_holes.Given as goal

abbrev pub ghosts-decides : goal.ghosts-decides
ghosts-decides g a = record { name = a.blank.name; parts = a.blank.parts }
