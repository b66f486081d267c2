-- What the loop of `put_above` keeps from turn to turn.
use Rattle.std.specs.Prelude.{◌≡◌, ◌≤◌, length}
use Rattle.activity_order.specs.Choices.{OpenOnesWait}
use Rattle.activity_order.proofs.WaitLemmas.{WaitFrom}
use Rattle.activity_order.proofs.choosing.put_above.Given as goal

abbrev pub invariant-leaving : goal.invariant-leaving
invariant-leaving l = (l.place ≤ length l.trail.entries) × OpenOnesWait l.order l.trail × (l.order.scores ≡ l.initial.order.scores) × (l.order.step ≡ l.initial.order.step) × WaitFrom l.order.waits l.trail.entries l.place

abbrev pub decreases-leaving : goal.decreases-leaving
decreases-leaving l = l.place
