-- Why `successors_of` does what its contract says.
use Rattle.std.proofs.Common.{sym, subst}
use Rattle.std.proofs.lemmas.Result.{IfOk-weaker}
use Rattle.sweep_table.specs.Growing.{AreAfter}
use Rattle.sweep_table.proofs.SuccessionLemmas.{are_after, befores_within}
use Rattle.sweep_table.proofs.successors.successors_of.Goals as goal

pub gathered-requires-clause-rising : goal.gathered-requires-clause-rising
gathered-requires-clause-rising c = rw c.deref.ensures.value c.in_ok-successions.ensures.rising

pub gathered-requires-clause-in_range : goal.gathered-requires-clause-in_range
gathered-requires-clause-in_range c =
    let are = rw (c.as_slice.ensures, c.parts.ensures.parts) at c.in_ok-successions.ensures.are in
    rw (c.deref.ensures.value, c.cell_count.ensures.value) (befores_within c.args.inst.now _ c.parts.ensures.rules are)

pub returns : goal.returns
returns c =
    let are = rw (c.as_slice.ensures, c.parts.ensures.parts) at c.in_ok-successions.ensures.are in
    let gathered = rw (c.deref.ensures.value, c.cell_count.ensures.value) at c.in_ok-lists.ensures in
    let after = are_after c.args.inst.now _ _ c.parts.ensures.rules are gathered in
    IfOk-weaker c.rows_of.result _ (AreAfter c.args.inst.now) (λ rows is. subst (AreAfter c.args.inst.now) (sym (rw c.deref-2.ensures.value at is)) after) c.rows_of.ensures
