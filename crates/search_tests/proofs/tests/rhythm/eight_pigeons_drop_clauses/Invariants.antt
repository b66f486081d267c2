-- What the loop of `eight_pigeons_drop_clauses` keeps from turn to turn.
use Rattle.search_tests.proofs.tests.rhythm.eight_pigeons_drop_clauses.Given as goal

abbrev pub ghosts-searches : goal.ghosts-searches
ghosts-searches g a = record { name = a.blank.name; parts = a.blank.parts }
