-- What the loop of `leads` keeps from turn to turn.
use Rattle.std.proofs.Common.{◌≡◌, ℕ, ◌<◌, ◌≤◌, slice_index, slice_index_or}
use Rattle.cell_net.specs.declared.passages.Passage.{Passage}
use Rattle.cell_net.proofs.passages.leads.Given as goal

abbrev pub invariant-loop-place : goal.invariant-loop-place
invariant-loop-place l = (k : ℕ) (d : Passage) → slice_index l.starts l.end ≤ k → k < l.place → ¬ ((slice_index_or l.passages k d).to ≡ l.other)
