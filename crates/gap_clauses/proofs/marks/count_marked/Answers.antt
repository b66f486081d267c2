-- Why `count_marked` does what its contract says.
use Rattle.std.proofs.Common.{◌≤◌, ◌+◌, ◌∙◌, length, ap, arith, sym}
use Rattle.gap_clauses.proofs.SpanLemmas.{count_less, count_more, none_before, none_behind}
use Rattle.gap_clauses.proofs.marks.count_marked.Goals as goal
use Rattle.gap_clauses.proofs.marks.count_marked.Goals.{then-marks-number, else-marks-number}

pub loop-number-init : goal.loop-number-init
loop-number-init c = (c.requires.span.low, omega arith, sym (ap length (none_before c.args.count c.args.marks.now c.args.span c.requires.span)))

pub loop-number-preserved : goal.loop-number-preserved
loop-number-preserved c =
    let low : c.loop-number.number + 1 ≤ c.args.count = omega (arith, c.loop-number-test.true, c.requires.span.end) in
    elim c.if-marks-number.branch [
      | then-marks-number w ↦ (low, omega (arith, c.loop-number.invariant.1, w.marked-is), omega (arith, c.loop-number.invariant.2, w.marked-is, count_more c.args.marks.now c.loop-number.number w.if-marks-number.true))
      | else-marks-number w ↦ (low, omega (arith, c.loop-number.invariant.1, w.marked-is), omega (arith, c.loop-number.invariant.2, w.marked-is, count_less c.args.marks.now c.loop-number.number w.if-marks-number.false))
    ]

pub returns : goal.returns
returns c = c.loop-number.invariant.2 ∙ ap length (sym (none_behind c.args.count c.loop-number.number c.args.marks.now c.args.span c.requires.span (omega (arith, c.loop-number-test.false)) c.loop-number.invariant.0))
