-- Which ledger the steps of `answer_to` are counted in.
use Rattle.decode_tests.proofs.tests.plans.answer_to.Given as goal

abbrev pub ghosts-found : goal.ghosts-found
ghosts-found g a = record { name = a.blank.name; parts = a.blank.parts }
