-- Why `add_number` does what its contract says.
use Rattle.std.proofs.Common.{◌≡◌, ◌∷◌, ◌++◌, [], ap, ◌∙◌}
use Rattle.std.specs.Prelude.{decimal}
use Rattle.vss_io.proofs.CallLaws.{PrintsAllBut-stopped, PrintsAllBut-then}
use Rattle.derivation_log.proofs.WriteLemmas.{behind_kept}
use Rattle.derivation_log.proofs.number.add_number.Goals as goal

pub returns-in_err-add : goal.returns-in_err-add
returns-in_err-add g c =
    let digits : c.as_bytes.result.now ≡ decimal c.args.number = c.as_bytes.ensures.value ∙ c.format.ensures.text in
    PrintsAllBut-stopped _ _ _ _ _ (32 ∷ []) _ _ _ c.in_err-add.ensures.printed (behind_kept c.args.text.now c.as_bytes.result.now (32 ∷ []) _ (ap (λ front. front ++ 32 ∷ []) digits)) c.from_residual.ensures.0

pub returns : goal.returns
returns g c =
    let digits : c.as_bytes.result.now ≡ decimal c.args.number = c.as_bytes.ensures.value ∙ c.format.ensures.text in
    PrintsAllBut-then _ _ _ _ _ _ (32 ∷ []) _ _ _ c.in_ok-add.ensures.printed c.add-2.ensures.printed (behind_kept c.args.text.now c.as_bytes.result.now (32 ∷ []) _ (ap (λ front. front ++ 32 ∷ []) digits))
