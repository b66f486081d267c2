-- The ledger on which `a_log_refutes_its_own_bound_alone` counts.
use Rattle.task_tests.proofs.tests.verdicts.a_log_refutes_its_own_bound_alone.Given as goal

abbrev pub ghosts-refutes_so : goal.ghosts-refutes_so
ghosts-refutes_so g a = record { name = a.blank.name; parts = a.blank.parts }
