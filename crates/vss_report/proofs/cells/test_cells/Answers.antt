-- Why `test_cells` does what its contract says.
use Rattle.std.proofs.Common.{◌≡◌, inl, inr, true, false, drop, refl, arith}
use Rattle.std.proofs.lemmas.List.{take_rest}
use Rattle.vss_report.proofs.CellLemmas.{IsCellsFront-more, cells_end, no_cell, no_end}
use Rattle.vss_report.proofs.CountLemmas.{begins, none_left, some_left}
use Rattle.vss_report.proofs.cells.test_cells.Goals as goal
use Rattle.vss_report.proofs.cells.test_cells.Goals.{then-rest-ne10-via-then-rest-ne10, then-rest-ne10-via-else-rest-ne10+then-rest-text}

pub loop-rest-preserved : goal.loop-rest-preserved
loop-rest-preserved c =
    IsCellsFront-more c.args.text.now c.loop-rest.rest.now (drop 1 c.loop-rest.rest.now) c.in-Ok.after.now _ c.loop-rest.invariant
    (begins 32 c.loop-rest.rest.now (omega arith) (c.loop-rest-test.ensures.0 refl)) c.in-Ok.ensures.fits (rw take_rest at c.in-Ok.ensures.found)

pub returns-in-Err-clause-missed : goal.returns-in-Err-clause-missed
returns-in-Err-clause-missed c =
    no_cell c.args.text.now c.loop-rest.rest.now (drop 1 c.loop-rest.rest.now) c.in-Err.miss c.loop-rest.invariant
    (begins 32 c.loop-rest.rest.now (omega arith) (c.loop-rest-test.ensures.0 refl)) (rw take_rest at c.in-Err.ensures.missed)

pub returns-then-is_empty-clause-missed : goal.returns-then-is_empty-clause-missed
returns-then-is_empty-clause-missed c = cells_end c.args.text.now c.loop-rest.rest.now c.loop-rest.invariant (none_left c.loop-rest.rest.now c.is_empty.result c.is_empty.ensures c.if-is_empty.true)

pub returns-then-rest-ne10-clause-missed : goal.returns-then-rest-ne10-clause-missed
returns-then-rest-ne10-clause-missed c =
    no_end c.args.text.now c.loop-rest.rest.now c.loop-rest.invariant (some_left c.loop-rest.rest.now c.is_empty.result c.is_empty.ensures c.if-is_empty.false)
    (λ blank. let never : false ≡ true = c.loop-rest-test.ensures.1 blank in cc)
    (elim c.then-rest-ne10.branch [
      | then-rest-ne10-via-then-rest-ne10 w ↦ inl w.if-rest-ne10.true
      | then-rest-ne10-via-else-rest-ne10+then-rest-text w ↦ inr w.if-rest-text.true
    ])
