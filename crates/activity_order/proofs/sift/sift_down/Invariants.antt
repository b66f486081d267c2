-- What the loop of `sift_down` keeps from turn to turn.
use Rattle.std.specs.Prelude.{◌≡◌, ◌-◌, length}
use Rattle.activity_order.specs.Heaps.{IsPlaced, IsOrderedBelow, rank_at, waits_of}
use Rattle.activity_order.proofs.sift.sift_down.Given as goal

abbrev pub invariant-sinking : goal.invariant-sinking
invariant-sinking l = (length l.heap ≡ length l.initial.heap) × (length l.places ≡ length l.initial.places) × IsPlaced l.heap l.places × IsOrderedBelow (rank_at l.scores l.heap) l.size l.place × (waits_of l.places l.size ≡ waits_of l.initial.places l.size)

abbrev pub decreases-sinking : goal.decreases-sinking
decreases-sinking l = l.size - l.place
