-- Why `mark_sweep` does what its contract says.
use Rattle.std.proofs.Common.{◌<◌, length, arith}
use Rattle.std.proofs.lemmas.Option.{slice_get_within}
use Rattle.plan_checker.proofs.MarkLemmas.{KeepsMarks-refl, KeepsMarks-trans, marked_more, one_taken, only_more, only_none}
use Rattle.plan_checker.proofs.marks.mark_sweep.Goals as goal

pub loop-directed-init : goal.loop-directed-init
loop-directed-init c = record {
  marked = λ k item low is. absurd (omega arith);
  kept = KeepsMarks-refl _ _;
  only = only_none _ _ _ _ _;
  earlier = c.requires.earlier;
}

pub loop-directed-preserved : goal.loop-directed-preserved
loop-directed-preserved c =
    let before = c.loop-directed.invariant in
    let marked = c.mark_class.ensures in
    record {
      marked = marked_more _ _ _ _ _ _ _ _ marked.kept before.marked (rw c.class.ensures at (marked.marked c.if-not-mark_class.false));
      kept = KeepsMarks-trans _ _ _ _ before.kept marked.kept;
      only = only_more _ _ _ _ _ _ _ _ _ c.loop-directed-test.true before.only (rw c.class.ensures at marked.only);
      earlier = marked.earlier;
    }

pub returns-clause-marked : goal.returns-clause-marked
returns-clause-marked c _ = record {
  at_each = λ k item is.
      let within : k < length c.args.cells.now = slice_get_within c.args.cells.now k item is in
      c.loop-directed.invariant.marked k item (omega arith) is;
}

pub returns-then-not-mark_class-clause-only : goal.returns-then-not-mark_class-clause-only
returns-then-not-mark_class-clause-only c =
    only_more _ _ _ _ _ _ _ _ _ c.loop-directed-test.true c.loop-directed.invariant.only (rw c.class.ensures at c.mark_class.ensures.only)

pub returns-then-not-mark_class-clause-taken : goal.returns-then-not-mark_class-clause-taken
returns-then-not-mark_class-clause-taken c =
    one_taken _ _ _ _ _ _ _ c.loop-directed-test.true (rw c.class.ensures at c.if-not-mark_class.ensures.taken)
