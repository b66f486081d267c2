-- What the loop of `an_empty_clause_is_refuted_at_once` keeps from turn to turn.
use Rattle.search_tests.proofs.tests.watch.an_empty_clause_is_refuted_at_once.Given as goal

abbrev pub ghosts-calls : goal.ghosts-calls
ghosts-calls g a = record { name = a.blank.name; parts = a.blank.parts }
