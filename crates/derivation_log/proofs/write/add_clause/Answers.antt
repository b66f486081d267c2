-- Why `add_clause` does what its contract says.
use Rattle.std.proofs.Common.{◌∷◌, ◌++◌, [], List, ℕ, refl, append_assoc}
use Rattle.std.specs.Prelude.{decimal}
use Rattle.derivation_log.specs.Text.{number_text, literal_text, list_text}
use Rattle.vss_io.proofs.CallLaws.{PrintsAllBut-stopped, PrintsAllBut-then}
use Rattle.derivation_log.proofs.WriteLemmas.{behind_kept}
use Rattle.derivation_log.proofs.write.add_clause.Goals as goal

pub returns-in_err-add : goal.returns-in_err-add
returns-in_err-add g c =
    let lits : List ℕ = list_text literal_text c.args.lits.now in
    let hints : List ℕ = list_text number_text c.args.hints.now in
    PrintsAllBut-stopped _ _ _ _ _ (decimal c.args.id.0 ++ (32 ∷ (lits ++ (32 ∷ hints)))) _ _ _ c.in_err-add.ensures.printed (behind_kept c.args.text.now (97 ∷ 32 ∷ []) (decimal c.args.id.0 ++ (32 ∷ (lits ++ (32 ∷ hints)))) _ refl) c.from_residual.ensures.0

pub returns-in_err-add_number : goal.returns-in_err-add_number
returns-in_err-add_number g c =
    let lits : List ℕ = list_text literal_text c.args.lits.now in
    let hints : List ℕ = list_text number_text c.args.hints.now in
    let number : List ℕ = decimal c.args.id.0 ++ 32 ∷ [] in
    let so_far = PrintsAllBut-then _ _ _ _ _ _ number (c.args.text.now ++ (97 ∷ 32 ∷ number)) _ _ c.in_ok-add.ensures.printed c.in_err-add_number.ensures (behind_kept c.args.text.now (97 ∷ 32 ∷ []) number _ refl) in
    PrintsAllBut-stopped _ _ _ _ _ (lits ++ (32 ∷ hints)) _ _ _ so_far (behind_kept c.args.text.now (97 ∷ 32 ∷ number) (lits ++ (32 ∷ hints)) _ (simp append_assoc)) c.from_residual-in_err-add_number.ensures.0

pub returns-in_err-add_list : goal.returns-in_err-add_list
returns-in_err-add_list g c =
    let lits : List ℕ = list_text literal_text c.args.lits.now in
    let hints : List ℕ = list_text number_text c.args.hints.now in
    let number : List ℕ = decimal c.args.id.0 ++ 32 ∷ [] in
    let numbered = PrintsAllBut-then _ _ _ _ _ _ number (c.args.text.now ++ (97 ∷ 32 ∷ number)) _ _ c.in_ok-add.ensures.printed c.in_ok-add_number.ensures (behind_kept c.args.text.now (97 ∷ 32 ∷ []) number _ refl) in
    let listed = PrintsAllBut-then _ _ _ _ _ _ lits (c.args.text.now ++ ((97 ∷ 32 ∷ number) ++ lits)) _ _ numbered c.in_err-add_list.ensures (behind_kept c.args.text.now (97 ∷ 32 ∷ number) lits _ refl) in
    PrintsAllBut-stopped _ _ _ _ _ (32 ∷ hints) _ _ _ listed (behind_kept c.args.text.now ((97 ∷ 32 ∷ number) ++ lits) (32 ∷ hints) _ (simp append_assoc)) c.from_residual-in_err-add_list.ensures.0

pub returns-in_err-add-2 : goal.returns-in_err-add-2
returns-in_err-add-2 g c =
    let lits : List ℕ = list_text literal_text c.args.lits.now in
    let hints : List ℕ = list_text number_text c.args.hints.now in
    let number : List ℕ = decimal c.args.id.0 ++ 32 ∷ [] in
    let numbered = PrintsAllBut-then _ _ _ _ _ _ number (c.args.text.now ++ (97 ∷ 32 ∷ number)) _ _ c.in_ok-add.ensures.printed c.in_ok-add_number.ensures (behind_kept c.args.text.now (97 ∷ 32 ∷ []) number _ refl) in
    let listed = PrintsAllBut-then _ _ _ _ _ _ lits (c.args.text.now ++ ((97 ∷ 32 ∷ number) ++ lits)) _ _ numbered c.in_ok-add_list.ensures (behind_kept c.args.text.now (97 ∷ 32 ∷ number) lits _ refl) in
    let parted = PrintsAllBut-then _ _ _ _ _ _ (32 ∷ []) (c.args.text.now ++ (((97 ∷ 32 ∷ number) ++ lits) ++ 32 ∷ [])) _ _ listed c.in_err-add-2.ensures.printed (behind_kept c.args.text.now ((97 ∷ 32 ∷ number) ++ lits) (32 ∷ []) _ refl) in
    PrintsAllBut-stopped _ _ _ _ _ hints _ _ _ parted (behind_kept c.args.text.now (((97 ∷ 32 ∷ number) ++ lits) ++ 32 ∷ []) hints _ (simp append_assoc)) c.from_residual-in_err-add-2.ensures.0

pub returns : goal.returns
returns g c =
    let lits : List ℕ = list_text literal_text c.args.lits.now in
    let hints : List ℕ = list_text number_text c.args.hints.now in
    let number : List ℕ = decimal c.args.id.0 ++ 32 ∷ [] in
    let numbered = PrintsAllBut-then _ _ _ _ _ _ number (c.args.text.now ++ (97 ∷ 32 ∷ number)) _ _ c.in_ok-add.ensures.printed c.in_ok-add_number.ensures (behind_kept c.args.text.now (97 ∷ 32 ∷ []) number _ refl) in
    let listed = PrintsAllBut-then _ _ _ _ _ _ lits (c.args.text.now ++ ((97 ∷ 32 ∷ number) ++ lits)) _ _ numbered c.in_ok-add_list.ensures (behind_kept c.args.text.now (97 ∷ 32 ∷ number) lits _ refl) in
    let parted = PrintsAllBut-then _ _ _ _ _ _ (32 ∷ []) (c.args.text.now ++ (((97 ∷ 32 ∷ number) ++ lits) ++ 32 ∷ [])) _ _ listed c.in_ok-add-2.ensures.printed (behind_kept c.args.text.now ((97 ∷ 32 ∷ number) ++ lits) (32 ∷ []) _ refl) in
    PrintsAllBut-then _ _ _ _ _ _ hints _ _ _ parted c.add_list-2.ensures (behind_kept c.args.text.now (((97 ∷ 32 ∷ number) ++ lits) ++ 32 ∷ []) hints _ (simp append_assoc))
