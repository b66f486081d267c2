-- Why `push_marked` does what its contract says.
use Rattle.std.proofs.Common.{◌≤◌, ◌+◌, ◌++◌, ◌∙◌, ap, arith, refl, sym}
use Rattle.std.proofs.lemmas.List.{append-nil}
use Rattle.gap_clauses.proofs.MarkLemmas.{marked_less, marked_more}
use Rattle.gap_clauses.proofs.SpanLemmas.{none_before, none_behind}
use Rattle.gap_clauses.proofs.marks.push_marked.Goals as goal
use Rattle.gap_clauses.proofs.marks.push_marked.Goals.{then-marks-number+in_ok-push, else-marks-number}

pub loop-number-init : goal.loop-number-init
loop-number-init c = (c.requires.span.low, sym (append-nil c.args.into.now.items) ∙ ap (λ cs. c.args.into.now.items ++ cs) (sym (none_before c.args.count c.args.marks.now c.args.span c.requires.span)))

pub loop-number-preserved : goal.loop-number-preserved
loop-number-preserved c =
    let low : c.loop-number.number + 1 ≤ c.args.count = omega (arith, c.loop-number-test.true, c.requires.span.end) in
    elim c.if-marks-number.branch [
      | then-marks-number+in_ok-push w ↦ (low, marked_more c.args.marks.now c.args.into.now.items c.loop-number.into.items _ c.loop-number.number (record { 0 = c.loop-number.number }) c.loop-number.invariant.1 w.if-marks-number.true refl (ap (λ v. v.items) w.into-is ∙ w.in_ok-push.ensures.items))
      | else-marks-number w ↦ (low, marked_less c.args.marks.now c.args.into.now.items c.loop-number.into.items _ c.loop-number.number c.loop-number.invariant.1 w.if-marks-number.false (ap (λ v. v.items) w.into-is))
    ]

pub returns-clause-ok : goal.returns-clause-ok
returns-clause-ok c = c.loop-number.invariant.1 ∙ ap (λ cs. c.args.into.now.items ++ cs) (sym (none_behind c.args.count c.loop-number.number c.args.marks.now c.args.span c.requires.span (omega (arith, c.loop-number-test.false)) c.loop-number.invariant.0))
