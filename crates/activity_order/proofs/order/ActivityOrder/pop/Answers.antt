-- Why `ActivityOrder::pop` does what its contract says.
use Rattle.std.proofs.Common.{◌≡◌, false, subst, sym}
use Rattle.std.specs.Prelude.{All}
use Rattle.activity_order.specs.Heaps.{waits_of}
use Rattle.activity_order.specs.Choices.{OrderParts}
use Rattle.activity_order.proofs.HeapLemmas.{none_waits}
use Rattle.activity_order.proofs.order.ActivityOrder.pop.Goals as goal

pub returns-then-self-eq0-clause-value : goal.returns-then-self-eq0-clause-value
returns-then-self-eq0-clause-value c = subst (λ (o : OrderParts). All (λ waits. waits ≡ false) o.waits) c.self.view_is (subst (λ n. All (λ waits. waits ≡ false) (waits_of c.self.inside.places.items n)) (sym c.if-self-eq0.true) (none_waits c.self.inside.places.items))
