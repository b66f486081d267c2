-- Why `mark` does what its contract says.
use Rattle.std.proofs.Common.{◌≡◌, ◌∙◌, refl, take, arith}
use Rattle.std.proofs.lemmas.List.{take_more, take_all, length-set}
use Rattle.plan_checker.proofs.StopLemmas.{mark_more, marks_nothing}
use Rattle.plan_checker.proofs.stops.mark.Goals as goal

pub loop-cell-init : goal.loop-cell-init
loop-cell-init c = (marks_nothing c.args.inside.now c.requires.none, refl)

pub loop-cell-preserved : goal.loop-cell-preserved
loop-cell-preserved c =
    let more = take_more c.args.cells.now c.loop-cell.cell-index (record { 0 = 0 }) (omega arith) in
    let within = c.requires.within c.loop-cell.cell-index (record { 0 = 0 }) (omega arith) in (
      rw more (mark_more _ _ c.loop-cell.inside c.loop-cell.invariant.0 (rw c.loop-cell.invariant.1 within)),
      length-set c.loop-cell.inside _ _ ∙ c.loop-cell.invariant.1,
    )

pub returns : goal.returns
returns c =
    let all : take c.loop-cell.cell-index c.args.cells.now ≡ c.args.cells.now = take_all c.loop-cell.cell-index c.args.cells.now (omega arith) in
    rw all at c.loop-cell.invariant.0
