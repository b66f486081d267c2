-- The ledger on which `compact_leaves_the_same_clauses` counts.
use Rattle.store_tests.proofs.tests.compacting.compact_leaves_the_same_clauses.Given as goal

abbrev pub ghosts-keeps_the_clauses : goal.ghosts-keeps_the_clauses
ghosts-keeps_the_clauses g a = record { name = a.blank.name; parts = a.blank.parts }
