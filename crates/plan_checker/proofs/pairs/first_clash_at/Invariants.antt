-- What the loop of `first_clash_at` keeps from turn to turn.
use Rattle.std.proofs.Common.{ℕ, ◌<◌}
use Rattle.plan_checker.specs.ClashSearch.{IsApartFromLater}
use Rattle.plan_checker.proofs.pairs.first_clash_at.Given as goal

abbrev pub invariant-loop-a : goal.invariant-loop-a
invariant-loop-a l = (x : ℕ) → x < l.a → IsApartFromLater l.traffic l.step x
