-- Why `ActivityOrder::put_back` does what its contract says.
use Rattle.std.proofs.Common.{◌≡◌, ◌-◌, ◌<◌, ◌≤◌, true, get_or, set, ap, sym, subst, arith}
use Rattle.activity_order.specs.Choices.{OrderParts}
use Rattle.activity_order.proofs.PlaceLemmas.{waits-already}
use Rattle.activity_order.proofs.order.ActivityOrder.put_back.Goals as goal

pub returns-then-as_slice-place-clause-waits : goal.returns-then-as_slice-place-clause-waits
returns-then-as_slice-place-clause-waits c =
    let over = subst (λ (o : OrderParts). (1 ≤ c.args.var.0) × (c.args.var.0 ≤ o.vars)) (sym c.self.view_is) c.requires.within in
    let low : get_or c.self.inside.places.items (c.args.var.0 - 1) 0 < c.self.inside.waiting = subst (λ l. get_or l (c.args.var.0 - 1) 0 < c.self.inside.waiting) c.as_slice.ensures.value c.if-as_slice-place.true in
    subst (λ (o : OrderParts). o ≡ record o { waits = set o.waits (c.args.var.0 - 1) true }) c.self.view_is
    (ap (λ w. record { vars = c.self.inside.vars; scores = c.self.inside.scores.items; waits = w; step = c.self.inside.step })
    (waits-already c.self.inside.places.items c.self.inside.waiting (c.args.var.0 - 1) (omega (arith, over.0, over.1, c.self.invariant.1)) low))
