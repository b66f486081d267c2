-- What the loop of `a_square_is_refuted_by_two_conflicts` keeps from turn to turn.
use Rattle.search_tests.proofs.tests.watch.a_square_is_refuted_by_two_conflicts.Given as goal

abbrev pub ghosts-first_clause : goal.ghosts-first_clause
ghosts-first_clause g a = record { name = a.blank.name; parts = a.blank.parts }

abbrev pub ghosts-calls : goal.ghosts-calls
ghosts-calls g a = record { name = a.blank.name; parts = a.blank.parts }
