-- What the loop of `sift_up` keeps from turn to turn.
use Rattle.std.specs.Prelude.{◌≡◌, ◌<◌, length}
use Rattle.activity_order.specs.Heaps.{IsPlaced, IsOrderedBut, rank_at, waits_of}
use Rattle.activity_order.proofs.sift.sift_up.Given as goal

abbrev pub invariant-climbing : goal.invariant-climbing
invariant-climbing l = (l.place < l.size) × (length l.heap ≡ length l.initial.heap) × (length l.places ≡ length l.initial.places) × IsPlaced l.heap l.places × IsOrderedBut (rank_at l.scores l.heap) l.size l.place × (waits_of l.places l.size ≡ waits_of l.initial.places l.size)

abbrev pub decreases-climbing : goal.decreases-climbing
decreases-climbing l = l.place
