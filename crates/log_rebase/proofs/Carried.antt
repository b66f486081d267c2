-- Steps under other numbers: accepted where the clauses that they name are carried over.
use Rattle.std.proofs.Common.{◌≡◌, ℕ, ◌<◌, ◌≤◌, Bool, true, false, cond, not, ◌||◌, ◌⊎◌, inl, inr, List, [], ◌∷◌, ◌++◌, map, refl, sym, ap, ◌∙◌, arith}
use Rattle.std.specs.Prelude.{nat_eq, All, Option, Some, None, find, filter, option_map}
use Rattle.std.specs.List.{list_any}
use Rattle.std.proofs.lemmas.Bool.{cases_eq, eq-eqb, ne_eqb, eqb-true}
use Rattle.std.proofs.lemmas.List.Elements.{All-head, All-tail}
use Rattle.sat_core.specs.declared.literal.Lit.{Lit}
use Rattle.sat_core.specs.declared.literal.ClauseId.{ClauseId}
use Rattle.sat_core.specs.declared.step_fault.StepFault.{StepFault}
use Rattle.sat_core.specs.Hints.{NumberedClause, clause_of, HintOutcome, conflict, unit as unit_is, fault, outcome_of, outcome_by, not_false, fault_after, hints_fault}

-- the clause of each number is carried over to its new number
abbrev pub Carries : (ℕ → ℕ) → List NumberedClause → List NumberedClause → Type 0
Carries f old new = (id : ClauseId) (lits : List Lit) → clause_of old id ≡ Some lits → clause_of new (record { 0 = f id.0 }) ≡ Some lits

abbrev pub renamed : (ℕ → ℕ) → ClauseId → ClauseId
renamed f id = record { 0 = f id.0 }

-- an outcome without a fault leaves none under other hints, where the later ones have none
outcome_carried : (f : ℕ → ℕ) (o : HintOutcome) (hints : List ClauseId) (others others' : Lit → Option StepFault) → ((lit : Lit) → others lit ≡ None → others' lit ≡ None)
    → fault_after o hints others ≡ None → fault_after o (map (renamed f) hints) others' ≡ None
outcome_carried f conflict [] others others' later fine = refl
outcome_carried f conflict (hint ∷ hints) others others' later fine = absurd (cc)
outcome_carried f (unit_is lit) hints others others' later fine = later lit fine
outcome_carried f (fault why) hints others others' later fine = fine

-- hints that lead to a conflict do so where their clauses are carried over
pub hints_carried : (f : ℕ → ℕ) (old new : List NumberedClause) (known : List Lit) (hints : List ClauseId) → Carries f old new → hints_fault old known hints ≡ None
    → hints_fault new known (map (renamed f) hints) ≡ None
hints_carried f old new known [] carries none = absurd (cc)
hints_carried f old new known (hint ∷ hints) carries none =
    elim (clause_of old hint) as (λ found. clause_of old hint ≡ found → fault_after (outcome_of known found) hints (λ lit. hints_fault old (known ++ lit ∷ []) hints) ≡ None
    → fault_after (outcome_of known (clause_of new (renamed f hint))) (map (renamed f) hints) (λ lit. hints_fault new (known ++ lit ∷ []) (map (renamed f) hints)) ≡ None) [
      | None ↦ λ is never. absurd (cc)
      | Some lits ↦ λ is fine. rw (carries hint lits is) (outcome_carried f (outcome_by known (not_false known lits)) hints (λ lit. hints_fault old (known ++ lit ∷ []) hints) (λ lit. hints_fault new (known ++ lit ∷ []) (map (renamed f) hints))
          (λ lit. hints_carried f old new (known ++ lit ∷ []) hints carries) fine)
    ] refl none

-- whether the number is one of these
abbrev pub named : List ClauseId → ℕ → Bool
named ids number = list_any (λ id. nat_eq number id.0) ids

abbrev pub without : List ClauseId → List NumberedClause → List NumberedClause
without ids live = filter (λ clause. not (named ids clause.id.0)) live

-- a number that isn't dropped keeps its clause
pub kept_clause : (ids : List ClauseId) (live : List NumberedClause) (id : ClauseId) → named ids id.0 ≡ false → clause_of (without ids live) id ≡ clause_of live id
kept_clause ids [] id none = refl
kept_clause ids (clause ∷ live) id none =
    elim (named ids clause.id.0) as (λ t. named ids clause.id.0 ≡ t → clause_of (cond (not t) (clause ∷ without ids live) (without ids live)) id ≡ clause_of (clause ∷ live) id) [
      | true ↦ λ gone. elim (nat_eq clause.id.0 id.0) as (λ b. nat_eq clause.id.0 id.0 ≡ b → clause_of (without ids live) id ≡ option_map (λ c. c.lits) (cond b (Some clause) (find (λ c. nat_eq c.id.0 id.0) live))) [
        | true ↦ λ same. absurd (true_is_not_false (sym gone ∙ (ap (named ids) (eqb-true clause.id.0 id.0 same) ∙ none)))
        | false ↦ λ other. kept_clause ids live id none
      ] refl
      | false ↦ λ stays. elim (nat_eq clause.id.0 id.0) as (λ b. option_map (λ c. c.lits) (cond b (Some clause) (find (λ c. nat_eq c.id.0 id.0) (without ids live))) ≡ option_map (λ c. c.lits) (cond b (Some clause) (find (λ c. nat_eq c.id.0 id.0) live))) [
        | true ↦ refl
        | false ↦ kept_clause ids live id none
      ]
    ] refl
  where
    true_is_not_false : true ≡ false → ⊥
    true_is_not_false same = cc

-- a dropped number has no clause
pub gone_clause : (ids : List ClauseId) (live : List NumberedClause) (id : ClauseId) → named ids id.0 ≡ true → clause_of (without ids live) id ≡ None
gone_clause ids [] id is = refl
gone_clause ids (clause ∷ live) id is =
    elim (named ids clause.id.0) as (λ t. named ids clause.id.0 ≡ t → clause_of (cond (not t) (clause ∷ without ids live) (without ids live)) id ≡ None) [
      | true ↦ λ gone. gone_clause ids live id is
      | false ↦ λ stays. elim (nat_eq clause.id.0 id.0) as (λ b. nat_eq clause.id.0 id.0 ≡ b → option_map (λ c. c.lits) (cond b (Some clause) (find (λ c. nat_eq c.id.0 id.0) (without ids live))) ≡ None) [
        | true ↦ λ same. absurd (true_is_not_false (sym is ∙ (ap (named ids) (sym (eqb-true clause.id.0 id.0 same)) ∙ stays)))
        | false ↦ λ other. gone_clause ids live id is
      ] refl
    ] refl
  where
    true_is_not_false : true ≡ false → ⊥
    true_is_not_false same = cc

-- different numbers have different new numbers
abbrev pub IsOneToOne : (ℕ → ℕ) → Type 0
IsOneToOne f = (a b : ℕ) → f a ≡ f b → a ≡ b

same_test : (f : ℕ → ℕ) (a b : ℕ) → IsOneToOne f → nat_eq (f a) (f b) ≡ nat_eq a b
same_test f a b one = elim (cases_eq a b) [
  | inl same ↦ eq-eqb (f a) (f b) (ap f same) ∙ sym (eq-eqb a b same)
  | inr differs ↦ ne_eqb (f a) (f b) (λ same. differs (one a b same)) ∙ sym (ne_eqb a b differs)
]

pub named_carried : (f : ℕ → ℕ) (ids : List ClauseId) (number : ℕ) → IsOneToOne f → named (map (renamed f) ids) (f number) ≡ named ids number
named_carried f [] number one = refl
named_carried f (id ∷ ids) number one = ap (λ b. b || named (map (renamed f) ids) (f number)) (same_test f number id.0 one) ∙ ap (λ b. nat_eq number id.0 || b) (named_carried f ids number one)

-- clauses that are carried over are so when both sides drop the same
pub dropped_carried : (f : ℕ → ℕ) (ids : List ClauseId) (old new : List NumberedClause) → IsOneToOne f → Carries f old new → Carries f (without ids old) (without (map (renamed f) ids) new)
dropped_carried f ids old new one carries = λ id lits is.
    elim (named ids id.0) as (λ b. named ids id.0 ≡ b → clause_of (without (map (renamed f) ids) new) (renamed f id) ≡ Some lits) [
      | true ↦ λ gone. absurd (none_is_no_some lits (sym (gone_clause ids old id gone) ∙ is))
      | false ↦ λ stays. kept_clause (map (renamed f) ids) new (renamed f id) (named_carried f ids id.0 one ∙ stays) ∙ carries id lits (sym (kept_clause ids old id stays) ∙ is)
    ] refl
  where
    none_is_no_some : (l : List Lit) → None ≡ Some l → ⊥
    none_is_no_some l same = cc

-- one more clause at the end: what was found is found
pub found_still : (live : List NumberedClause) (clause : NumberedClause) (id : ClauseId) (lits : List Lit) → clause_of live id ≡ Some lits → clause_of (live ++ clause ∷ []) id ≡ Some lits
found_still [] clause id lits is = absurd (cc)
found_still (first ∷ live) clause id lits is =
    elim (nat_eq first.id.0 id.0) as (λ b. option_map (λ c. c.lits) (cond b (Some first) (find (λ c. nat_eq c.id.0 id.0) live)) ≡ Some lits
    → option_map (λ c. c.lits) (cond b (Some first) (find (λ c. nat_eq c.id.0 id.0) (live ++ clause ∷ []))) ≡ Some lits) [
      | true ↦ λ here. here
      | false ↦ λ later. found_still live clause id lits later
    ] is

-- all numbers are at most that
abbrev pub AreUpTo : ℕ → List NumberedClause → Type 0
AreUpTo last live = All (λ clause. clause.id.0 ≤ last) live

-- a new clause is found by its number
pub found_new : (last : ℕ) (live : List NumberedClause) (clause : NumberedClause) → AreUpTo last live → last < clause.id.0 → clause_of (live ++ clause ∷ []) clause.id ≡ Some clause.lits
found_new last [] clause up above = rw (eq-eqb clause.id.0 clause.id.0 refl) refl
found_new last (first ∷ live) clause up above =
    let below : first.id.0 ≤ last = All-head (λ c. c.id.0 ≤ last) first live up in
    rw (ne_eqb first.id.0 clause.id.0 (λ same. omega arith)) (found_new last live clause (All-tail (λ c. c.id.0 ≤ last) first live up) above)

-- with one more clause, what is found was found before, or is that clause
pub found_cases : (live : List NumberedClause) (clause : NumberedClause) (id : ClauseId) (lits : List Lit) → clause_of (live ++ clause ∷ []) id ≡ Some lits
    → (clause_of live id ≡ Some lits) ⊎ ((clause.id.0 ≡ id.0) × (clause.lits ≡ lits))
found_cases [] clause id lits is =
    elim (nat_eq clause.id.0 id.0) as (λ b. nat_eq clause.id.0 id.0 ≡ b → option_map (λ c. c.lits) (cond b (Some clause) None) ≡ Some lits → (None ≡ Some lits) ⊎ ((clause.id.0 ≡ id.0) × (clause.lits ≡ lits))) [
      | true ↦ λ same here. inr (eqb-true clause.id.0 id.0 same, cc)
      | false ↦ λ other never. absurd (cc)
    ] refl is
found_cases (first ∷ live) clause id lits is =
    elim (nat_eq first.id.0 id.0) as (λ b. option_map (λ c. c.lits) (cond b (Some first) (find (λ c. nat_eq c.id.0 id.0) (live ++ clause ∷ []))) ≡ Some lits
    → (option_map (λ c. c.lits) (cond b (Some first) (find (λ c. nat_eq c.id.0 id.0) live)) ≡ Some lits) ⊎ ((clause.id.0 ≡ id.0) × (clause.lits ≡ lits))) [
      | true ↦ λ here. inl here
      | false ↦ λ later. found_cases live clause id lits later
    ] is
