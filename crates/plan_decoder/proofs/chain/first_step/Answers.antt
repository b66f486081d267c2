-- The step of the search for the first step.
use Rattle.std.proofs.Common.{◌≡◌, ◌∙◌, sym, ap, true, arith, rules}
use Rattle.clause_list.specs.Numbers.{waits}
use Rattle.clause_list.specs.Values.{value}
use Rattle.plan_decoder.proofs.ChainLemmas.{waits_on}
use Rattle.plan_decoder.proofs.chain.first_step.Goals as goal

pub loop-step-preserved : goal.loop-step-preserved
loop-step-preserved c =
    let waiting : value c.args.values.now (waits c.args.train.now c.loop-step.step) ≡ true = sym (c.value_of.ensures ∙ ap (value c.args.values.now) c.waits.ensures) ∙ search rules in
    c.loop-step.invariant ∙ waits_on c.args.values.now c.args.train.now c.loop-step.step (omega arith) waiting
