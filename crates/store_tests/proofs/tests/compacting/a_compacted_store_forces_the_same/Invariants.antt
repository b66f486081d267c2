-- The ledger on which `a_compacted_store_forces_the_same` counts.
use Rattle.store_tests.proofs.tests.compacting.a_compacted_store_forces_the_same.Given as goal

abbrev pub ghosts-trace_of : goal.ghosts-trace_of
ghosts-trace_of g a = record { name = a.blank.name; parts = a.blank.parts }
