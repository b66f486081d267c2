-- Why `add_pieces` does what its contract says.
use Rattle.std.proofs.Common.{arith}
use Rattle.vss_io.proofs.CallLaws.{HasPrinted-nothing, HasPrinted-more, HasPrinted-stopped}
use Rattle.vss_report.proofs.ReportTexts.{next_piece, no_piece, all_kept}
use Rattle.vss_report.proofs.design_writer.add_pieces.Goals as goal

pub loop-piece-init : goal.loop-piece-init
loop-piece-init g c = HasPrinted-nothing _ _

pub returns-in_err-add : goal.returns-in_err-add
returns-in_err-add g c =
    HasPrinted-stopped _ _ _ _ _ _ _ _ _ _ _ c.loop-piece.invariant c.in_err-add.ensures.printed (next_piece _ c.args.pieces.now c.loop-piece.piece-index _ (omega arith)) c.from_residual.ensures.0

pub loop-piece-preserved : goal.loop-piece-preserved
loop-piece-preserved g c =
    HasPrinted-more _ _ _ _ _ _ _ _ _ c.loop-piece.invariant c.in_ok-add.ensures.printed (next_piece _ c.args.pieces.now c.loop-piece.piece-index _ (omega arith))

pub returns : goal.returns
returns g c = all_kept _ _ _ _ _ _ c.loop-piece.invariant (no_piece c.loop-piece.text c.args.pieces.now c.loop-piece.piece-index (omega arith))
