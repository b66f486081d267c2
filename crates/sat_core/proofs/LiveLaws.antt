-- Laws of live clauses: which is found by a number when clauses are added, dropped or numbered anew.
use Rattle.std.proofs.Common.{◌≡◌, ℕ, suc, ◌+◌, ◌-◌, ◌<◌, ◌≤◌, Bool, true, false, cond, not, ◌||◌, ◌⊎◌, inl, inr, List, [], ◌∷◌, ◌++◌, length, map, refl, sym, ap, ◌∙◌, arith}
use Rattle.std.specs.Prelude.{nat_eq, All, Some, None, find, filter, option_map, slice_get}
use Rattle.std.specs.List.{list_any}
use Rattle.std.proofs.lemmas.Bool.{cases_eq, eq-eqb, ne_eqb, eqb-true}
use Rattle.std.proofs.lemmas.List.Elements.{All-nil, All-cons, All-head, All-tail}
use Rattle.sat_core.specs.declared.literal.Lit.{Lit}
use Rattle.sat_core.specs.declared.literal.ClauseId.{ClauseId}
use Rattle.sat_core.specs.Hints.{NumberedClause, clause_of}
use Rattle.sat_core.specs.Derivation.{numbered_from}

true_is_not_false : true ≡ false → ⊥
true_is_not_false same = cc

-- the numbers of a formula's clauses run without gaps
pub clause_of-numbered : (first : ℕ) (clauses : List (List Lit)) (id : ClauseId) → first ≤ id.0 → clause_of (numbered_from first clauses) id ≡ slice_get clauses (id.0 - first)
clause_of-numbered first [] id from = refl
clause_of-numbered first (clause ∷ clauses) id from = elim (cases_eq first id.0) [
  | inl same ↦ let place : id.0 - first ≡ 0 = omega arith in rw (eq-eqb first id.0 same, place) refl
  | inr differs ↦
      let place : id.0 - first ≡ suc (id.0 - (first + 1)) = omega arith in
      rw (ne_eqb first id.0 differs, place) (clause_of-numbered (first + 1) clauses id (omega arith))
]

-- no clause has a number below the first
pub clause_of-below : (first : ℕ) (clauses : List (List Lit)) (id : ClauseId) → id.0 < first → clause_of (numbered_from first clauses) id ≡ None
clause_of-below first [] id below = refl
clause_of-below first (clause ∷ clauses) id below = rw (ne_eqb first id.0 (λ same. omega arith)) (clause_of-below (first + 1) clauses id (omega arith))

pub numbered_from-push : (first : ℕ) (clauses : List (List Lit)) (clause : List Lit) → numbered_from first (clauses ++ clause ∷ []) ≡ numbered_from first clauses ++ record { id = record { 0 = first + length clauses }; lits = clause } ∷ []
numbered_from-push first [] clause = ap (λ (n : ℕ). record { id = record { 0 = n }; lits = clause } ∷ []) (omega arith)
numbered_from-push first (c ∷ clauses) clause =
    ap (λ (l : List NumberedClause). record { id = record { 0 = first }; lits = c } ∷ l)
    (numbered_from-push (first + 1) clauses clause ∙ ap (λ (n : ℕ). numbered_from (first + 1) clauses ++ record { id = record { 0 = n }; lits = clause } ∷ []) (omega arith))

-- with one more clause at the end, what was found is found
pub clause_of-more : (live : List NumberedClause) (clause : NumberedClause) (id : ClauseId) (lits : List Lit) → clause_of live id ≡ Some lits → clause_of (live ++ clause ∷ []) id ≡ Some lits
clause_of-more [] clause id lits is = absurd (cc)
clause_of-more (first ∷ live) clause id lits is =
    elim (nat_eq first.id.0 id.0) as (λ b. option_map (λ c. c.lits) (cond b (Some first) (find (λ c. nat_eq c.id.0 id.0) live)) ≡ Some lits
    → option_map (λ c. c.lits) (cond b (Some first) (find (λ c. nat_eq c.id.0 id.0) (live ++ clause ∷ []))) ≡ Some lits) [
      | true ↦ λ here. here
      | false ↦ λ later. clause_of-more live clause id lits later
    ] is

-- with one more clause, what is found was found before, or is that clause
pub clause_of-cases : (live : List NumberedClause) (clause : NumberedClause) (id : ClauseId) (lits : List Lit) → clause_of (live ++ clause ∷ []) id ≡ Some lits
    → (clause_of live id ≡ Some lits) ⊎ ((clause.id.0 ≡ id.0) × (clause.lits ≡ lits))
clause_of-cases [] clause id lits is =
    elim (nat_eq clause.id.0 id.0) as (λ b. nat_eq clause.id.0 id.0 ≡ b → option_map (λ c. c.lits) (cond b (Some clause) None) ≡ Some lits → (None ≡ Some lits) ⊎ ((clause.id.0 ≡ id.0) × (clause.lits ≡ lits))) [
      | true ↦ λ same here. inr (eqb-true clause.id.0 id.0 same, cc)
      | false ↦ λ other never. absurd (cc)
    ] refl is
clause_of-cases (first ∷ live) clause id lits is =
    elim (nat_eq first.id.0 id.0) as (λ b. option_map (λ c. c.lits) (cond b (Some first) (find (λ c. nat_eq c.id.0 id.0) (live ++ clause ∷ []))) ≡ Some lits
    → (option_map (λ c. c.lits) (cond b (Some first) (find (λ c. nat_eq c.id.0 id.0) live)) ≡ Some lits) ⊎ ((clause.id.0 ≡ id.0) × (clause.lits ≡ lits))) [
      | true ↦ λ here. inl here
      | false ↦ λ later. clause_of-cases live clause id lits later
    ] is

-- all numbers are at most that
abbrev pub AreUpTo : ℕ → List NumberedClause → Type 0
AreUpTo last live = All (λ clause. clause.id.0 ≤ last) live

pub AreUpTo-numbered : (first last : ℕ) (clauses : List (List Lit)) → first + length clauses ≤ last + 1 → AreUpTo last (numbered_from first clauses)
AreUpTo-numbered first last [] within = All-nil (λ c. c.id.0 ≤ last)
AreUpTo-numbered first last (clause ∷ clauses) within =
    All-cons (λ c. c.id.0 ≤ last) (record { id = record { 0 = first }; lits = clause }) (numbered_from (first + 1) clauses) (omega arith) (AreUpTo-numbered (first + 1) last clauses (omega arith))

-- a clause with a number above all others is found by it
pub clause_of-new : (last : ℕ) (live : List NumberedClause) (clause : NumberedClause) → AreUpTo last live → last < clause.id.0 → clause_of (live ++ clause ∷ []) clause.id ≡ Some clause.lits
clause_of-new last [] clause up above = rw (eq-eqb clause.id.0 clause.id.0 refl) refl
clause_of-new last (first ∷ live) clause up above =
    let below : first.id.0 ≤ last = All-head (λ c. c.id.0 ≤ last) first live up in
    rw (ne_eqb first.id.0 clause.id.0 (λ same. omega arith)) (clause_of-new last live clause (All-tail (λ c. c.id.0 ≤ last) first live up) above)

-- the number of a clause that is found is at most the last
pub clause_of-up_to : (last : ℕ) (live : List NumberedClause) (id : ClauseId) (lits : List Lit) → AreUpTo last live → clause_of live id ≡ Some lits → id.0 ≤ last
clause_of-up_to last [] id lits up is = absurd (cc)
clause_of-up_to last (first ∷ live) id lits up is = elim (cases_eq first.id.0 id.0) [
  | inl same ↦ let low : first.id.0 ≤ last = All-head (λ c. c.id.0 ≤ last) first live up in omega arith
  | inr differs ↦ clause_of-up_to last live id lits (All-tail (λ c. c.id.0 ≤ last) first live up) (rw (ne_eqb first.id.0 id.0 differs) at is)
]

-- whether the number is one of these
abbrev pub is_one_of : List ClauseId → ℕ → Bool
is_one_of ids number = list_any (λ id. nat_eq number id.0) ids

-- the clauses that are left when those with these numbers are dropped
abbrev pub without : List ClauseId → List NumberedClause → List NumberedClause
without ids live = filter (λ clause. not (is_one_of ids clause.id.0)) live

-- a number that isn't dropped keeps its clause
pub clause_of-kept : (ids : List ClauseId) (live : List NumberedClause) (id : ClauseId) → is_one_of ids id.0 ≡ false → clause_of (without ids live) id ≡ clause_of live id
clause_of-kept ids [] id none = refl
clause_of-kept ids (clause ∷ live) id none =
    elim (is_one_of ids clause.id.0) as (λ t. is_one_of ids clause.id.0 ≡ t → clause_of (cond (not t) (clause ∷ without ids live) (without ids live)) id ≡ clause_of (clause ∷ live) id) [
      | true ↦ λ gone. elim (nat_eq clause.id.0 id.0) as (λ b. nat_eq clause.id.0 id.0 ≡ b → clause_of (without ids live) id ≡ option_map (λ c. c.lits) (cond b (Some clause) (find (λ c. nat_eq c.id.0 id.0) live))) [
        | true ↦ λ same. absurd (true_is_not_false (sym gone ∙ (ap (is_one_of ids) (eqb-true clause.id.0 id.0 same) ∙ none)))
        | false ↦ λ other. clause_of-kept ids live id none
      ] refl
      | false ↦ λ stays. elim (nat_eq clause.id.0 id.0) as (λ b. option_map (λ c. c.lits) (cond b (Some clause) (find (λ c. nat_eq c.id.0 id.0) (without ids live))) ≡ option_map (λ c. c.lits) (cond b (Some clause) (find (λ c. nat_eq c.id.0 id.0) live))) [
        | true ↦ refl
        | false ↦ clause_of-kept ids live id none
      ]
    ] refl

-- a dropped number has no clause
pub clause_of-dropped : (ids : List ClauseId) (live : List NumberedClause) (id : ClauseId) → is_one_of ids id.0 ≡ true → clause_of (without ids live) id ≡ None
clause_of-dropped ids [] id is = refl
clause_of-dropped ids (clause ∷ live) id is =
    elim (is_one_of ids clause.id.0) as (λ t. is_one_of ids clause.id.0 ≡ t → clause_of (cond (not t) (clause ∷ without ids live) (without ids live)) id ≡ None) [
      | true ↦ λ gone. clause_of-dropped ids live id is
      | false ↦ λ stays. elim (nat_eq clause.id.0 id.0) as (λ b. nat_eq clause.id.0 id.0 ≡ b → option_map (λ c. c.lits) (cond b (Some clause) (find (λ c. nat_eq c.id.0 id.0) (without ids live))) ≡ None) [
        | true ↦ λ same. absurd (true_is_not_false (sym is ∙ (ap (is_one_of ids) (sym (eqb-true clause.id.0 id.0 same)) ∙ stays)))
        | false ↦ λ other. clause_of-dropped ids live id is
      ] refl
    ] refl

-- the clause of each number is found under its new number
abbrev pub Carries : (ℕ → ℕ) → List NumberedClause → List NumberedClause → Type 0
Carries f old new = (id : ClauseId) (lits : List Lit) → clause_of old id ≡ Some lits → clause_of new (record { 0 = f id.0 }) ≡ Some lits

abbrev pub renamed : (ℕ → ℕ) → ClauseId → ClauseId
renamed f id = record { 0 = f id.0 }

-- different numbers have different new numbers
abbrev pub IsOneToOne : (ℕ → ℕ) → Type 0
IsOneToOne f = (a b : ℕ) → f a ≡ f b → a ≡ b

same_test : (f : ℕ → ℕ) (a b : ℕ) → IsOneToOne f → nat_eq (f a) (f b) ≡ nat_eq a b
same_test f a b one = elim (cases_eq a b) [
  | inl same ↦ eq-eqb (f a) (f b) (ap f same) ∙ sym (eq-eqb a b same)
  | inr differs ↦ ne_eqb (f a) (f b) (λ same. differs (one a b same)) ∙ sym (ne_eqb a b differs)
]

pub is_one_of-renamed : (f : ℕ → ℕ) (ids : List ClauseId) (number : ℕ) → IsOneToOne f → is_one_of (map (renamed f) ids) (f number) ≡ is_one_of ids number
is_one_of-renamed f [] number one = refl
is_one_of-renamed f (id ∷ ids) number one = ap (λ b. b || is_one_of (map (renamed f) ids) (f number)) (same_test f number id.0 one) ∙ ap (λ b. nat_eq number id.0 || b) (is_one_of-renamed f ids number one)

-- clauses that are carried over are so when both sides drop the same
pub Carries-without : (f : ℕ → ℕ) (ids : List ClauseId) (old new : List NumberedClause) → IsOneToOne f → Carries f old new → Carries f (without ids old) (without (map (renamed f) ids) new)
Carries-without f ids old new one carries = λ id lits is.
    elim (is_one_of ids id.0) as (λ b. is_one_of ids id.0 ≡ b → clause_of (without (map (renamed f) ids) new) (renamed f id) ≡ Some lits) [
      | true ↦ λ gone. absurd (none_is_no_some lits (sym (clause_of-dropped ids old id gone) ∙ is))
      | false ↦ λ stays. clause_of-kept (map (renamed f) ids) new (renamed f id) (is_one_of-renamed f ids id.0 one ∙ stays) ∙ carries id lits (sym (clause_of-kept ids old id stays) ∙ is)
    ] refl
  where
    none_is_no_some : (l : List Lit) → None ≡ Some l → ⊥
    none_is_no_some l same = cc
