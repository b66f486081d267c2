-- What the loop of `seven_pigeons_restart_the_search` keeps from turn to turn.
use Rattle.search_tests.proofs.tests.rhythm.seven_pigeons_restart_the_search.Given as goal

abbrev pub ghosts-searches : goal.ghosts-searches
ghosts-searches g a = record { name = a.blank.name; parts = a.blank.parts }
