-- Why `first_linked_at` does what its contract says.
use Rattle.plan_checker.proofs.PairLemmas.{apart_without_first, apart_without_second, clash_or_apart, has_no_sweep, has_sweep}
use Rattle.plan_checker.proofs.pairs.first_linked_at.Goals as goal

pub returns-in_err-one : goal.returns-in_err-one
returns-in_err-one c = rw c.from_residual.ensures (apart_without_first c.args.traffic.now _ _ _ (has_no_sweep _ _ _ _ c.in_err-one.ensures))

pub returns-in_err-other : goal.returns-in_err-other
returns-in_err-other c = rw c.from_residual-in_err-other.ensures (apart_without_second c.args.traffic.now _ _ _ (has_no_sweep _ _ _ _ c.in_err-other.ensures))

pub first_linked-requires-clause-one : goal.first_linked-requires-clause-one
first_linked-requires-clause-one c =
    rw c.as_slice.ensures (c.requires.sound.on_cells _ _ _ (has_sweep _ _ _ _ _ c.requires.one c.in_ok-one.ensures))

pub first_linked-requires-clause-other : goal.first_linked-requires-clause-other
first_linked-requires-clause-other c =
    rw c.as_slice-2.ensures (c.requires.sound.on_cells _ _ _ (has_sweep _ _ _ _ _ c.requires.other c.in_ok-other.ensures))

pub returns : goal.returns
returns c =
    clash_or_apart c.args.traffic.now _ _ _ _ _ c.first_linked.result
    (has_sweep _ _ _ _ _ c.requires.one c.in_ok-one.ensures)
    (has_sweep _ _ _ _ _ c.requires.other c.in_ok-other.ensures)
    (rw (c.as_slice.ensures, c.as_slice-2.ensures) at c.first_linked.ensures)
