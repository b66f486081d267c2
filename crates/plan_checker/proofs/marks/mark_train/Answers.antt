-- Why `mark_train` does what its contract says.
use Rattle.std.proofs.Common.{Bool, true, false}
use Rattle.std.specs.Bool.{OnFalse}
use Rattle.plan_checker.proofs.PairLemmas.{has_no_sweep, has_sweep}
use Rattle.plan_checker.proofs.MarkLemmas.{not_all_apart, train_marked, trains_with, trains_without}
use Rattle.plan_checker.proofs.marks.mark_train.Goals as goal

-- what follows from a fact on false holds on false
on_false_along : {P Q : Type 0} (b : Bool) → (P → Q) → OnFalse b P → OnFalse b Q
on_false_along true along holds = tt
on_false_along false along holds = along holds

pub mark_sweep-requires-clause-cells : goal.mark_sweep-requires-clause-cells
mark_sweep-requires-clause-cells c =
    let cells = c.requires.sound.on_cells _ _ _ (has_sweep _ _ _ _ _ c.requires.train c.in-Some.ensures) in
    rw (c.as_slice.ensures, c.requires.sound.alike.for_each_cell) cells

pub returns-in-None-clause-marked : goal.returns-in-None-clause-marked
returns-in-None-clause-marked c _ = record { each = λ w has. absurd (has_no_sweep _ _ _ _ c.in-None.ensures w has) }

pub returns-in-Some-clause-marked : goal.returns-in-Some-clause-marked
returns-in-Some-clause-marked c all =
    train_marked _ _ _ _ _ (has_sweep _ _ _ _ _ c.requires.train c.in-Some.ensures) (rw c.as_slice.ensures at (c.mark_sweep.ensures.marked all))

pub returns-in-None-clause-trains : goal.returns-in-None-clause-trains
returns-in-None-clause-trains c = trains_without _ _ _ _ c.requires.trains

pub returns-in-Some-clause-trains : goal.returns-in-Some-clause-trains
returns-in-Some-clause-trains c =
    trains_with _ _ _ _ _ _ (has_sweep _ _ _ _ _ c.requires.train c.in-Some.ensures) c.requires.trains (rw c.as_slice.ensures at c.mark_sweep.ensures.only)

pub returns-in-Some-clause-clash : goal.returns-in-Some-clause-clash
returns-in-Some-clause-clash c =
    on_false_along c.mark_sweep.result
    (not_all_apart c.args.traffic.now c.args.marks.now c.mark_sweep.new.marks c.args.step c.args.train c.in-Some.sweep.now c.requires.sound
    (has_sweep _ _ _ _ _ c.requires.train c.in-Some.ensures) c.requires.trains (rw c.as_slice.ensures at c.mark_sweep.ensures.only))
    (rw c.as_slice.ensures at c.mark_sweep.ensures.taken)
