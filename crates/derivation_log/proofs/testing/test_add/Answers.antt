-- Why `test_add` does what its contract says.
use Rattle.derivation_log.proofs.StepLemmas.{no_letter, no_number, no_lits, no_blank, no_hints, found_add}
use Rattle.derivation_log.proofs.testing.test_add.Goals as goal

pub returns-in-Err-clause-missed : goal.returns-in-Err-clause-missed
returns-in-Err-clause-missed c = no_letter c.args.text.now c.in-Err.miss c.requires c.in-Err.ensures.missed

pub returns-in-Err-number-clause-missed : goal.returns-in-Err-number-clause-missed
returns-in-Err-number-clause-missed c = no_number c.args.text.now c.in-Ok.behind.now c.in-Err-number.miss c.requires c.in-Ok.ensures.found c.in-Err-number.ensures.missed

pub returns-in-Err-test_list-clause-missed : goal.returns-in-Err-test_list-clause-missed
returns-in-Err-test_list-clause-missed c =
    no_lits c.args.text.now c.in-Ok.behind.now c.in-Ok-number.found.1.now c.in-Ok-number.found.0 c.in-Err-test_list.miss c.requires c.in-Ok.ensures.found
    c.in-Ok-number.ensures.in_range c.in-Ok-number.ensures.found c.in-Err-test_list.ensures.missed

pub returns-in-Err-after-clause-missed : goal.returns-in-Err-after-clause-missed
returns-in-Err-after-clause-missed c =
    no_blank c.args.text.now c.in-Ok.behind.now c.in-Ok-number.found.1.now c.in-Ok-test_list.found.1.now c.in-Ok-number.found.0 c.in-Ok-test_list.found.0 c.in-Err-after.miss c.requires c.in-Ok.ensures.found
    c.in-Ok-number.ensures.in_range c.in-Ok-number.ensures.found c.in-Ok-test_list.ensures.list c.in-Ok-test_list.ensures.found c.in-Err-after.ensures.missed

pub returns-in-Err-test_list-2-clause-missed : goal.returns-in-Err-test_list-2-clause-missed
returns-in-Err-test_list-2-clause-missed c =
    no_hints c.args.text.now c.in-Ok.behind.now c.in-Ok-number.found.1.now c.in-Ok-test_list.found.1.now c.in-Ok-after.behind.now c.in-Ok-number.found.0 c.in-Ok-test_list.found.0 c.in-Err-test_list-2.miss c.requires c.in-Ok.ensures.found
    c.in-Ok-number.ensures.in_range c.in-Ok-number.ensures.found c.in-Ok-test_list.ensures.list c.in-Ok-test_list.ensures.found c.in-Ok-after.ensures.found c.in-Err-test_list-2.ensures.missed

pub returns-in-Ok-test_list-2-clause-found : goal.returns-in-Ok-test_list-2-clause-found
returns-in-Ok-test_list-2-clause-found c =
    found_add c.args.text.now c.in-Ok.behind.now c.in-Ok-number.found.1.now c.in-Ok-test_list.found.1.now c.in-Ok-after.behind.now c.in-Ok-test_list-2.rest.now (record { 0 = c.in-Ok-number.found.0 }) c.in-Ok-test_list.found.0 c.in-Ok-test_list-2.hints c.in-Ok.ensures.found
    c.in-Ok-number.ensures.in_range c.in-Ok-number.ensures.found c.in-Ok-test_list.ensures.list c.in-Ok-test_list.ensures.found c.in-Ok-after.ensures.found c.in-Ok-test_list-2.ensures.list c.in-Ok-test_list-2.ensures.found
