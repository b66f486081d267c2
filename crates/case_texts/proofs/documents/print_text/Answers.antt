-- Each piece is the front of what is left.
use Rattle.std.proofs.Common.{arith}
use Rattle.std.proofs.lemmas.Grind.{common_steps}
use Rattle.vss_io.proofs.CallLaws.{HasPrinted-nothing, HasPrinted-put, HasPrinted-ended, Prints-stopped}
use Rattle.case_texts.proofs.documents.print_text.Goals as goal

pub loop-rest-init : goal.loop-rest-init
loop-rest-init g c = HasPrinted-nothing _ _

pub loop-rest-preserved : goal.loop-rest-preserved
loop-rest-preserved g c = HasPrinted-put _ _ _ _ _ _ _ _ c.loop-rest.invariant c.in_ok-put.ensures (grind (arith, common_steps))

pub returns-in_err-put : goal.returns-in_err-put
returns-in_err-put g c = HasPrinted-ended _ _ _ c.loop-rest.rest.now _ _ c.loop-rest.invariant
    (Prints-stopped _ _ c.split_at.result.0.now c.split_at.result.1.now _ _ _ c.in_err-put.ensures (grind (arith, common_steps)) c.from_residual.ensures.0)

pub returns : goal.returns
returns g c = HasPrinted-ended _ _ _ _ _ _ c.loop-rest.invariant c.put-2.ensures
