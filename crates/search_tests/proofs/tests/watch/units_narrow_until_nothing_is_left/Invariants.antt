-- What the loop of `units_narrow_until_nothing_is_left` keeps from turn to turn.
use Rattle.search_tests.proofs.tests.watch.units_narrow_until_nothing_is_left.Given as goal

abbrev pub ghosts-units : goal.ghosts-units
ghosts-units g a = record { name = a.blank.name; parts = a.blank.parts }
