-- Why `add_drop` does what its contract says.
use Rattle.std.proofs.Common.{◌∷◌, [], refl}
use Rattle.derivation_log.specs.Text.{number_text, list_text}
use Rattle.vss_io.proofs.CallLaws.{PrintsAllBut-stopped, PrintsAllBut-then}
use Rattle.derivation_log.proofs.WriteLemmas.{behind_kept}
use Rattle.derivation_log.proofs.write.add_drop.Goals as goal

pub returns-in_err-add : goal.returns-in_err-add
returns-in_err-add g c = PrintsAllBut-stopped _ _ _ _ _ (list_text number_text c.args.ids.now) _ _ _ c.in_err-add.ensures.printed (behind_kept c.args.text.now (100 ∷ 32 ∷ []) (list_text number_text c.args.ids.now) _ refl) c.from_residual.ensures.0

pub returns : goal.returns
returns g c = PrintsAllBut-then _ _ _ _ _ _ (list_text number_text c.args.ids.now) _ _ _ c.in_ok-add.ensures.printed c.add_list.ensures (behind_kept c.args.text.now (100 ∷ 32 ∷ []) (list_text number_text c.args.ids.now) _ refl)
