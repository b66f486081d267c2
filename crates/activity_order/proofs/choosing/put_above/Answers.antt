-- Why `put_above` does what its contract says.
use Rattle.std.proofs.Common.{◌≡◌, ◌+◌, ◌-◌, ◌<◌, length, ap, subst, ◌∙◌, arith}
use Rattle.sat_core.specs.declared.literal.Lit.{Lit}
use Rattle.sat_core.specs.Clauses.{IsOver}
use Rattle.activity_order.specs.Choices.{OrderParts}
use Rattle.activity_order.proofs.WaitLemmas.{WaitFrom, wait_more, wait_put, waits_above, entry_over, entry_any}
use Rattle.activity_order.proofs.choosing.put_above.Goals as goal

pub level-requires-clause-in_range : goal.level-requires-clause-in_range
level-requires-clause-in_range c = entry_over c.args.trail.now (c.leaving.place - 1) c.at-lit.result c.len-place.ensures.laws (omega (arith, c.leaving.invariant.0, c.leaving-test.true)) c.at-lit.ensures.value

pub level-requires-clause-assigned : goal.level-requires-clause-assigned
level-requires-clause-assigned c = entry_any c.args.trail.now (c.leaving.place - 1) c.at-lit.result (omega (arith, c.leaving.invariant.0, c.leaving-test.true)) c.at-lit.ensures.value

pub returns-then-level-clause-back : goal.returns-then-level-clause-back
returns-then-level-clause-back c =
    let within : c.leaving.place - 1 < length c.args.trail.now.entries = omega (arith, c.leaving.invariant.0, c.leaving-test.true) in
    let here : c.leaving.place ≡ c.leaving.place - 1 + 1 = omega (arith, c.leaving-test.true) in
    waits_above c.leaving.order.waits c.args.trail.now (c.leaving.place - 1) c.args.level c.level.result c.len-place.ensures.laws within
    (λ d. c.level.ensures.value (c.leaving.place - 1) d within (ap (λ (l : Lit). l.var.0) (c.at-lit.ensures.value d)))
    c.if-level.true (subst (WaitFrom c.leaving.order.waits c.args.trail.now.entries) here c.leaving.invariant.4)

pub put_back-requires : goal.put_back-requires
put_back-requires c =
    let over : IsOver c.args.trail.now.vars c.at-lit.result = entry_over c.args.trail.now (c.leaving.place - 1) c.at-lit.result c.len-place.ensures.laws (omega (arith, c.leaving.invariant.0, c.leaving-test.true)) c.at-lit.ensures.value in
    record { within = (over.0, omega (arith, over.1, c.leaving.invariant.1.same_vars)) }

pub leaving-preserved : goal.leaving-preserved
leaving-preserved c =
    let here : c.leaving.place ≡ c.leaving.place - 1 + 1 = omega (arith, c.leaving-test.true) in (
      omega (arith, c.leaving.invariant.0),
      wait_put c.leaving.order c.put_back.new.self c.args.trail.now (c.at-lit.result.var.0 - 1) c.put_back.ensures.waits c.leaving.invariant.1,
      ap (λ (o : OrderParts). o.scores) c.put_back.ensures.waits ∙ c.leaving.invariant.2,
      ap (λ (o : OrderParts). o.step) c.put_back.ensures.waits ∙ c.leaving.invariant.3,
      wait_more c.leaving.order.waits c.put_back.new.self.waits c.args.trail.now.entries (c.leaving.place - 1) c.at-lit.result c.at-lit.ensures.value (ap (λ (o : OrderParts). o.waits) c.put_back.ensures.waits) c.put_back.ensures.back (subst (WaitFrom c.leaving.order.waits c.args.trail.now.entries) here c.leaving.invariant.4),
    )
