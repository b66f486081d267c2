-- Why `test_list` does what its contract says.
use Rattle.derivation_log.proofs.ListLemmas.{IsSoFar-more, IsSoFar-ends, list_misses}
use Rattle.derivation_log.proofs.NumberLemmas.{some_left, none_left}
use Rattle.derivation_log.proofs.list.test_list.Goals as goal

pub returns-in-Err-clause-missed : goal.returns-in-Err-clause-missed
returns-in-Err-clause-missed g c =
    list_misses g.W.Word.spelled g.W.Word.in_range g.met.W.Word.no_zero g.met.W.Word.one_reading c.args.text.now c.loop-rest.count c.loop-rest.rest.now c.in-Err.miss c.loop-rest.invariant (some_left c.loop-rest.rest.now c.is_empty.result c.is_empty.ensures c.loop-rest-test.true) c.if-rest-eq48.false c.in-Err.ensures.missed

pub loop-rest-preserved-in-Ok : goal.loop-rest-preserved-in-Ok
loop-rest-preserved-in-Ok g c =
    IsSoFar-more g.W.Word.spelled g.W.Word.in_range c.args.text.now c.loop-rest.count c.loop-rest.rest.now c.in-Ok.field-0-0 c.in-Ok.after.now c.loop-rest.invariant c.in-Ok.ensures.in_range c.in-Ok.ensures.found

pub returns-clause-missed : goal.returns-clause-missed
returns-clause-missed g c = IsSoFar-ends g.W.Word.spelled g.W.Word.in_range c.args.text.now c.loop-rest.count c.loop-rest.rest.now c.loop-rest.invariant (none_left c.loop-rest.rest.now c.is_empty.result c.is_empty.ensures c.loop-rest-test.false)
