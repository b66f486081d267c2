-- The clause with a number, where the numbers run from 1.
use Rattle.std.proofs.Common.{◌≡◌, ℕ, zero, suc, ◌+◌, ◌-◌, ◌<◌, ◌≤◌, ◌⊎◌, inl, inr, List, [], ◌∷◌, length, get_or, refl, ap, sym, ◌∙◌, arith}
use Rattle.std.specs.Prelude.{Some, None, slice_get}
use Rattle.sat_core.specs.declared.literal.Lit.{Lit}
use Rattle.sat_core.specs.declared.literal.ClauseId.{ClauseId}
use Rattle.sat_core.specs.Hints.{clause_of}
use Rattle.sat_core.specs.Derivation.{numbered_from}
use Rattle.search_trail.proofs.ReasonLaws.{apart-eqb, clause_of-numbered}

pub clause_of-outside : (clauses : List (List Lit)) (first : ℕ) (id : ClauseId) → (id.0 < first) ⊎ (first + length clauses ≤ id.0) → clause_of (numbered_from first clauses) id ≡ None
clause_of-outside [] first id outside = refl
clause_of-outside (clause ∷ clauses) first id outside =
    let apart : first ≡ id.0 → ⊥ = λ same. elim outside [ inl below ↦ omega arith | inr above ↦ omega arith ] in
    rw (apart-eqb first id.0 apart) (clause_of-outside clauses (first + 1) id (elim outside [ inl below ↦ inl (omega arith) | inr above ↦ inr (omega arith) ]))

lits_at : (clauses : List (List Lit)) (place : ℕ) (lits d : List Lit) → slice_get clauses place ≡ Some lits → get_or clauses place d ≡ lits
lits_at [] place lits d found = absurd (cc)
lits_at (clause ∷ clauses) zero lits d found = cc
lits_at (clause ∷ clauses) (suc place) lits d found = lits_at clauses place lits d found

pub clause_of-inside : (clauses : List (List Lit)) (id : ClauseId) (lits : List Lit) → 1 ≤ id.0 → id.0 ≤ length clauses → slice_get clauses (id.0 - 1) ≡ Some lits → clause_of (numbered_from 1 clauses) id ≡ Some lits
clause_of-inside clauses id lits low high found =
    let number : record { 0 = 1 + (id.0 - 1) } ≡ id = ap (λ n. record { 0 = n }) (omega arith) in
    ap (clause_of (numbered_from 1 clauses)) (sym number) ∙ (clause_of-numbered clauses 1 (id.0 - 1) lits (omega arith) ∙ ap (λ ls. Some ls) (lits_at clauses (id.0 - 1) lits lits found))
