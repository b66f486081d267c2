-- Why `write_step` does what its contract says.
use Rattle.std.proofs.Common.{◌∷◌, [], refl}
use Rattle.vss_io.proofs.CallLaws.{PrintsAllBut-broken, PrintsAllBut-ended}
use Rattle.derivation_log.proofs.write.write_step.Goals as goal

pub returns-in_err-add_step : goal.returns-in_err-add_step
returns-in_err-add_step g c = PrintsAllBut-broken _ _ _ _ (10 ∷ []) _ _ _ (rw c.new-text.ensures at c.in_err-add_step.ensures) refl c.from_residual.ensures.0

pub returns : goal.returns
returns g c = PrintsAllBut-ended _ _ _ c.add_step.new.text _ (10 ∷ []) _ _ _ (rw c.new-text.ensures at c.in_ok-add_step.ensures) c.finish.ensures.printed refl
