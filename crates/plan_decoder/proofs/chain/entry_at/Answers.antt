-- The steps of the search for the first entry.
use Rattle.plan_decoder.proofs.ChainLemmas.{entry_found, entry_passed}
use Rattle.plan_decoder.proofs.chain.entry_at.Goals as goal

pub returns-then-is_entry_there : goal.returns-then-is_entry_there
returns-then-is_entry_there g c = entry_found c.args.values.now (g.M.Moves.table c.args.table.now c.args.inst.now) c.args.train.now c.args.step c.loop-place.place c.sweep_at.result c.is_entry_there.result c.cone-cone.result.now c.cone-cone.ensures.value c.loop-place.invariant c.loop-place-test.true c.sweep_at.ensures c.is_entry_there.ensures c.if-is_entry_there.true

pub loop-place-preserved : goal.loop-place-preserved
loop-place-preserved g c = entry_passed c.args.values.now (g.M.Moves.table c.args.table.now c.args.inst.now) c.args.train.now c.args.step c.loop-place.place c.sweep_at.result c.is_entry_there.result c.cone-cone.result.now c.cone-cone.ensures.value c.loop-place.invariant c.loop-place-test.true c.sweep_at.ensures c.is_entry_there.ensures c.if-is_entry_there.false
