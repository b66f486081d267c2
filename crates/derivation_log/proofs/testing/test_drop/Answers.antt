-- Why `test_drop` does what its contract says.
use Rattle.derivation_log.proofs.StepLemmas.{no_drop, no_ids, found_drop}
use Rattle.derivation_log.proofs.testing.test_drop.Goals as goal

pub returns-in-Err-clause-missed : goal.returns-in-Err-clause-missed
returns-in-Err-clause-missed c = no_drop c.args.text.now c.in-Err.miss c.requires c.in-Err.ensures.missed

pub returns-in-Ok-test_list-clause-found : goal.returns-in-Ok-test_list-clause-found
returns-in-Ok-test_list-clause-found c = found_drop c.args.text.now c.in-Ok.behind.now c.in-Ok-test_list.rest.now c.in-Ok-test_list.ids c.in-Ok.ensures.found c.in-Ok-test_list.ensures.list c.in-Ok-test_list.ensures.found

pub returns-in-Err-test_list-clause-missed : goal.returns-in-Err-test_list-clause-missed
returns-in-Err-test_list-clause-missed c = no_ids c.args.text.now c.in-Ok.behind.now c.in-Err-test_list.miss c.requires c.in-Ok.ensures.found c.in-Err-test_list.ensures.missed
