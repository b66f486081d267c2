-- What the loop of `decide_next` keeps from turn to turn.
use Rattle.std.specs.Prelude.{◌≡◌}
use Rattle.activity_order.specs.Choices.{OpenOnesWait}
use Rattle.activity_order.proofs.WaitLemmas.{waiting_count}
use Rattle.activity_order.proofs.choosing.decide_next.Given as goal

abbrev pub invariant-waiting : goal.invariant-waiting
invariant-waiting l = OpenOnesWait l.order l.trail × (l.trail ≡ l.initial.trail) × (l.order.scores ≡ l.initial.order.scores) × (l.order.step ≡ l.initial.order.step)

abbrev pub decreases-waiting : goal.decreases-waiting
decreases-waiting l = waiting_count l.order.waits
