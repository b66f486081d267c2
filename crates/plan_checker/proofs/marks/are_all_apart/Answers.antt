-- Why `are_all_apart` does what its contract says.
use Rattle.std.proofs.Common.{arith, rules}
use Rattle.plan_checker.proofs.MarkLemmas.{apart_by_marks, earlier_later, no_trains_yet, trains_more}
use Rattle.plan_checker.proofs.marks.are_all_apart.Goals as goal

pub loop-train-init : goal.loop-train-init
loop-train-init c = record {
  marked = λ x low. absurd (omega arith);
  trains = no_trains_yet _ _ _ c.requires.earlier;
  earlier = earlier_later _ _ c.requires.earlier;
}

pub loop-train-preserved : goal.loop-train-preserved
loop-train-preserved c =
    let marked = c.mark_train.ensures in
    record {
      marked = trains_more _ _ _ _ _ marked.kept c.loop-train.invariant.marked (marked.marked c.if-not-mark_train.false);
      trains = marked.trains;
      earlier = marked.earlier;
    }

pub returns-clause-apart : goal.returns-clause-apart
returns-clause-apart c = (
  λ _. apart_by_marks _ _ _ c.loop-train.train c.requires.sound (omega (arith, c.requires.sound.for_each_train)) c.loop-train.invariant.marked,
  λ _. search rules,
)
