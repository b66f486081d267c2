-- The steps of following a chain.
use Rattle.std.proofs.Common.{◌≡◌, ◌+◌, ◌∙◌, sym, ap, true, false, arith}
use Rattle.sweep_table.specs.Tables.{next_of}
use Rattle.clause_list.specs.Numbers.{run_ended}
use Rattle.clause_list.specs.Values.{value}
use Rattle.plan_laws.specs.Telling.{first_told}
use Rattle.plan_decoder.proofs.ChainLemmas.{ends_here, goes_on_here, next_inside}
use Rattle.plan_decoder.proofs.chain.chain_from.Goals as goal

pub returns-then-value_of-clause-chain : goal.returns-then-value_of-clause-chain
returns-then-value_of-clause-chain g c =
    let over : value c.args.values.now (run_ended c.args.train.now (c.loop-now.now + 1)) ≡ true = sym (c.value_of.ensures ∙ ap (value c.args.values.now) c.ended.ensures) ∙ c.if-value_of.true in
    sym (ends_here _ _ _ _ _ _ _ _ c.loop-now.invariant (omega arith) over)

pub loop-now-preserved : goal.loop-now-preserved
loop-now-preserved g c =
    let on : value c.args.values.now (run_ended c.args.train.now (c.loop-now.now + 1)) ≡ false = sym (c.value_of.ensures ∙ ap (value c.args.values.now) c.ended.ensures) ∙ c.if-value_of.false in
    let next : c.first_told-last.result ≡ first_told c.args.values.now c.args.train.now (c.loop-now.now + 1) (next_of (g.M.Moves.table c.args.table.now c.args.inst.now) c.loop-now.last.0) = c.first_told-last.ensures ∙ ap (first_told c.args.values.now c.args.train.now (c.loop-now.now + 1)) (c.next_of.ensures c.args.inst.now) in
    goes_on_here _ _ _ _ _ _ _ _ _ _ c.loop-now.invariant (omega arith) on next
    (next_inside _ _ _ _ (c.len-count.ensures.rules c.args.inst.now c.requires.made_for) (c.len-count.ensures.items c.args.inst.now) c.loop-now.invariant.item) c.in_ok-push-2.ensures.items
