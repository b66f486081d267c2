-- Why `settle_lower` does what its contract says.
use Rattle.std.proofs.Common.{ℕ, arith}
use Rattle.std.proofs.lemmas.List.Sorted.{IsNonDecreasingBy-from_sort}
use Rattle.conflict_learn.proofs.LowerLemmas.{listed_sorted, marked_touched}
use Rattle.conflict_learn.proofs.lower.settle_lower.Goals as goal

pub collect-requires-clause-in_range : goal.collect-requires-clause-in_range
collect-requires-clause-in_range g c = λ k d within. let one = c.touched.ensures.in_range k d within in (one.0, omega (arith, one.1, c.requires.working.long))

pub settle_all-requires-clause-rising : goal.settle_all-requires-clause-rising
settle_all-requires-clause-rising g c = rw c.as_slice.ensures.value (IsNonDecreasingBy-from_sort (λ (x : ℕ). x) _ c.sort_unstable.ensures.sorted)

pub settle_all-requires-clause-listed : goal.settle_all-requires-clause-listed
settle_all-requires-clause-listed g c = λ k below marked. rw c.as_slice.ensures.value (listed_sorted _ _ k c.sort_unstable.ensures.permutation (c.in_ok-collect.ensures.all k below (omega (arith, c.requires.within)) (marked_touched c.args.trail.now c.args.marks.now c.touched.result.now k c.requires.laws c.touched.ensures.in_range c.touched.ensures.among (omega (arith, c.requires.within)) marked)))
