-- Each whole piece is put, and the rest is kept.
use Rattle.std.proofs.Common.{refl, arith}
use Rattle.std.proofs.lemmas.Grind.{common_steps}
use Rattle.vss_io.proofs.CallLaws.{HasPrinted-nothing, HasPrinted-put, HasPrinted-cut}
use Rattle.vss_io.proofs.PrintingLaws.{PutsFront-so_far}
use Rattle.vss_io.proofs.line_buf.LineBuf.add.Goals as goal

pub loop-rest-init : goal.loop-rest-init
loop-rest-init g c = record { printed = HasPrinted-nothing _ _; kept = refl }

pub loop-rest-preserved : goal.loop-rest-preserved
loop-rest-preserved g c =
    record {
      printed = rw c.in_ok-put_with.ensures.kept (HasPrinted-put _ _ _ _ _ _ _ _ c.loop-rest.invariant.printed c.in_ok-put_with.ensures.printed (grind (arith, common_steps)));
      kept = grind (arith, common_steps);
    }

pub returns-in_err-put_with-clause-printed : goal.returns-in_err-put_with-clause-printed
returns-in_err-put_with-clause-printed g c =
    HasPrinted-cut _ _ _ _ _ _ _ c.split_at.result.1.now _ _ c.loop-rest.invariant.printed c.in_err-put_with.ensures.printed (grind (arith, common_steps)) c.from_residual.ensures.0

pub returns-clause-printed : goal.returns-clause-printed
returns-clause-printed g c = record {
  front = PutsFront-so_far _ _ _ _ c.loop-rest.invariant.printed.all_but;
  added = rw c.keep.ensures c.loop-rest.invariant.printed.all_but;
  never_falls = c.loop-rest.invariant.printed.never_falls;
  cause = tt;
}
