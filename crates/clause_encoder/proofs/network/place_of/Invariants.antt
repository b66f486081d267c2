-- What the loop of `place_of` keeps from turn to turn.
use Rattle.std.specs.Prelude.{◌≢◌, ◌<◌, ℕ, slice_index}
use Rattle.clause_encoder.proofs.network.place_of.Given as goal

abbrev pub invariant-loop-place : goal.invariant-loop-place
invariant-loop-place l = (k : ℕ) → k < l.place → slice_index l.items k ≢ l.item
