-- Why `LitWord::add` does what its contract says.
use Rattle.std.proofs.Common.{◌≡◌, ◌∷◌, ◌++◌, [], ℕ, List, cond, ap, sym}
use Rattle.std.specs.Prelude.{decimal}
use Rattle.derivation_log.specs.Text.{literal_text}
use Rattle.vss_io.proofs.CallLaws.{PrintsAllBut-stopped, PrintsAllBut-then}
use Rattle.derivation_log.proofs.WriteLemmas.{behind_kept}
use Rattle.derivation_log.proofs.word.LitWord.add.Goals as goal

pub returns-in_err-add : goal.returns-in_err-add
returns-in_err-add g c =
    let digits : List ℕ = decimal c.args.self.now.var.0 in
    let parts : 45 ∷ (digits ++ 32 ∷ []) ≡ literal_text c.args.self.now ++ 32 ∷ [] = ap (λ b. (cond b [] (45 ∷ []) ++ digits) ++ 32 ∷ []) (sym c.if-self.false) in
    PrintsAllBut-stopped _ _ _ _ _ (digits ++ 32 ∷ []) _ _ _ c.in_err-add.ensures.printed (behind_kept c.args.text.now (45 ∷ []) (digits ++ 32 ∷ []) _ parts) c.from_residual.ensures.0

pub returns : goal.returns
returns g c =
    let digits : List ℕ = decimal c.args.self.now.var.0 in
    let parts : 45 ∷ (digits ++ 32 ∷ []) ≡ literal_text c.args.self.now ++ 32 ∷ [] = ap (λ b. (cond b [] (45 ∷ []) ++ digits) ++ 32 ∷ []) (sym c.if-self.false) in
    PrintsAllBut-then _ _ _ _ _ _ (digits ++ 32 ∷ []) _ _ _ c.in_ok-add.ensures.printed c.add_number-2.ensures (behind_kept c.args.text.now (45 ∷ []) (digits ++ 32 ∷ []) _ parts)
