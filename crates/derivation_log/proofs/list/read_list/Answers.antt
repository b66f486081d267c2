-- Why `read_list` does what its contract says.
use Rattle.std.proofs.Common.{arith}
use Rattle.derivation_log.proofs.ListLemmas.{IsPartlyRead-none, IsPartlyRead-more, IsPartlyRead-found, IsPartlyRead-all}
use Rattle.derivation_log.proofs.list.read_list.Goals as goal

pub loop-init : goal.loop-init
loop-init g c = rw c.in_ok-words.ensures.items (IsPartlyRead-none g.W.Word.spelled g.W.Word.in_range g.met.W.Word.no_zero g.met.W.Word.one_reading c.args.list.now c.requires)

pub unreachable-requires : goal.unreachable-requires
unreachable-requires g c =
    IsPartlyRead-found g.W.Word.spelled g.W.Word.in_range g.met.W.Word.no_zero g.met.W.Word.one_reading c.args.list.now c.loop.words.items c.loop.rest.now c.loop.counter c.in-Err.field-0 c.loop.invariant c.loop-test.true c.in-Err.ensures.missed

pub loop-preserved : goal.loop-preserved
loop-preserved g c =
    rw c.in_ok-push-in-Ok.ensures.items
    (IsPartlyRead-more g.W.Word.spelled g.W.Word.in_range g.met.W.Word.no_zero g.met.W.Word.one_reading c.args.list.now c.loop.words.items c.loop.rest.now c.loop.counter c.in-Ok.word c.in-Ok.after.now c.loop.invariant c.loop-test.true c.in-Ok.ensures.in_range c.in-Ok.ensures.found)

pub returns : goal.returns
returns g c = rw c.from_vec.ensures (c.loop.invariant.in_range, IsPartlyRead-all g.W.Word.spelled g.W.Word.in_range g.met.W.Word.no_zero g.met.W.Word.one_reading c.args.list.now c.loop.words.items c.loop.rest.now c.loop.counter c.loop.invariant (omega arith))
