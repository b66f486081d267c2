-- The steps of the units at the front of a rebased log, one after another.
use Rattle.std.proofs.Common.{◌≡◌, ℕ, zero, suc, ◌+◌, ◌-◌, ◌<◌, List, [], ◌∷◌, ◌++◌, length, take, get_or, refl, ap, ◌∙◌, arith}
use Rattle.sat_core.specs.Derivation.{adds}
use Rattle.log_rebase.specs.declared.mark.UnitMark.{UnitMark}
use Rattle.log_rebase.specs.Rebasing.{derive_marks}

pub length-derive_marks : (number : ℕ) (marks : List UnitMark) → length (derive_marks number marks) ≡ length marks - 1
length-derive_marks number [] = refl
length-derive_marks number (mark ∷ []) = refl
length-derive_marks number (mark ∷ next ∷ marks) = let rest = length-derive_marks (number + 1) (next ∷ marks) in omega (arith, rest)

pub derive_next : (number : ℕ) (marks : List UnitMark) (k : ℕ) (d : UnitMark) → k + 1 < length marks →
    take (suc k) (derive_marks number marks) ≡ take k (derive_marks number marks) ++ adds (record { 0 = number + k }) ((get_or marks k d).lit ∷ []) (get_or marks k d).hints ∷ []
derive_next number [] k d within = absurd (omega (arith, within))
derive_next number (mark ∷ []) k d within = absurd (omega (arith, within))
derive_next number (mark ∷ next ∷ marks) zero d within = ap (λ n. adds (record { 0 = n }) (mark.lit ∷ []) mark.hints ∷ []) (omega arith)
derive_next number (mark ∷ next ∷ marks) (suc k) d within =
    let rest = derive_next (number + 1) (next ∷ marks) k d (omega (arith, within)) in
    ap (λ steps. adds (record { 0 = number }) (mark.lit ∷ []) mark.hints ∷ steps)
    (rest ∙ ap (λ n. take k (derive_marks (number + 1) (next ∷ marks)) ++ adds (record { 0 = n }) ((get_or (next ∷ marks) k d).lit ∷ []) (get_or (next ∷ marks) k d).hints ∷ []) (omega arith))
