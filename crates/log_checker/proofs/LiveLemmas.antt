-- Laws of `live_of`: the look-up by a number, one clause more, and clauses that are dropped.
use Rattle.std.proofs.Common.{◌≡◌, ◌≢◌, ℕ, zero, suc, ◌+◌, ◌<◌, Bool, true, false, cond, not, ◌||◌, List, [], ◌∷◌, ◌++◌, length, get_or, refl, ap, ◌∙◌, arith}
use Rattle.std.specs.Prelude.{Some, None, filter}
use Rattle.std.proofs.lemmas.Bool.{eq-eqb, ne_eqb}
use Rattle.sat_core.specs.declared.literal.Lit.{Lit}
use Rattle.sat_core.specs.declared.literal.ClauseId.{ClauseId}
use Rattle.sat_core.specs.Hints.{NumberedClause, clause_of}
use Rattle.sat_core.specs.Derivation.{numbered_from}
use Rattle.log_checker.specs.Stored.{live_of}

-- a live clause with that number, where none before it has the number
pub clause_of-live : (number : ℕ → ℕ) (dropped : ℕ → Bool) (clauses : List (List Lit)) (id : ClauseId) (place : ℕ) (d : List Lit) → place < length clauses → number place ≡ id.0 → dropped place ≡ false → ((k : ℕ) → k < place → number k ≢ id.0) → clause_of (live_of number dropped clauses) id ≡ Some (get_or clauses place d)
clause_of-live number dropped [] id place d within is stands first = absurd (omega arith)
clause_of-live number dropped (clause ∷ clauses) id zero d within is stands first = rw (stands, eq-eqb (number 0) id.0 is) refl
clause_of-live number dropped (clause ∷ clauses) id (suc place) d within is stands first =
    let others = live_of (λ k. number (suc k)) (λ k. dropped (suc k)) clauses in
    let rest : clause_of others id ≡ Some (get_or clauses place d) = clause_of-live (λ k. number (suc k)) (λ k. dropped (suc k)) clauses id place d (omega arith) is stands (λ k under. first (suc k) (omega arith)) in
    elim (dropped 0) as (λ b. clause_of (cond b others (record { id = record { 0 = number 0 }; lits = clause } ∷ others)) id ≡ Some (get_or clauses place d)) [
      | true ↦ rest
      | false ↦ rw (ne_eqb (number 0) id.0 (first 0 (omega arith))) rest
    ]

-- no live clause has the number
pub clause_of-missing : (number : ℕ → ℕ) (dropped : ℕ → Bool) (clauses : List (List Lit)) (id : ClauseId) → ((k : ℕ) → k < length clauses → dropped k ≡ false → number k ≢ id.0) → clause_of (live_of number dropped clauses) id ≡ None
clause_of-missing number dropped [] id none = refl
clause_of-missing number dropped (clause ∷ clauses) id none =
    let others = live_of (λ k. number (suc k)) (λ k. dropped (suc k)) clauses in
    let rest : clause_of others id ≡ None = clause_of-missing (λ k. number (suc k)) (λ k. dropped (suc k)) clauses id (λ k under. none (suc k) (omega arith)) in
    elim (dropped 0) as (λ b. dropped 0 ≡ b → clause_of (cond b others (record { id = record { 0 = number 0 }; lits = clause } ∷ others)) id ≡ None) [
      | true ↦ λ _. rest
      | false ↦ λ stands. rw (ne_eqb (number 0) id.0 (none 0 (omega arith) stands)) rest
    ] refl

-- numbers and drops that agree at each place
pub live_of-same : (number number' : ℕ → ℕ) (dropped dropped' : ℕ → Bool) (clauses : List (List Lit)) → ((k : ℕ) → k < length clauses → number' k ≡ number k) → ((k : ℕ) → k < length clauses → dropped' k ≡ dropped k) → live_of number' dropped' clauses ≡ live_of number dropped clauses
live_of-same number number' dropped dropped' [] numbers drops = refl
live_of-same number number' dropped dropped' (clause ∷ clauses) numbers drops =
    let rest = live_of-same (λ k. number (suc k)) (λ k. number' (suc k)) (λ k. dropped (suc k)) (λ k. dropped' (suc k)) clauses (λ k under. numbers (suc k) (omega arith)) (λ k under. drops (suc k) (omega arith)) in
    rw (drops 0 (omega arith), numbers 0 (omega arith), rest) refl

-- one clause more, which isn't dropped
pub live_of-push : (number : ℕ → ℕ) (dropped : ℕ → Bool) (clauses : List (List Lit)) (added : List Lit) → dropped (length clauses) ≡ false → live_of number dropped (clauses ++ added ∷ []) ≡ live_of number dropped clauses ++ record { id = record { 0 = number (length clauses) }; lits = added } ∷ []
live_of-push number dropped [] added stands = rw stands refl
live_of-push number dropped (clause ∷ clauses) added stands =
    let rest = live_of-push (λ k. number (suc k)) (λ k. dropped (suc k)) clauses added stands in
    elim (dropped 0) as (λ b. cond b (live_of (λ k. number (suc k)) (λ k. dropped (suc k)) (clauses ++ added ∷ [])) (record { id = record { 0 = number 0 }; lits = clause } ∷ live_of (λ k. number (suc k)) (λ k. dropped (suc k)) (clauses ++ added ∷ [])) ≡ cond b (live_of (λ k. number (suc k)) (λ k. dropped (suc k)) clauses) (record { id = record { 0 = number 0 }; lits = clause } ∷ live_of (λ k. number (suc k)) (λ k. dropped (suc k)) clauses) ++ record { id = record { 0 = number (suc (length clauses)) }; lits = added } ∷ []) [
      | true ↦ rest
      | false ↦ ap (λ others. record { id = record { 0 = number 0 }; lits = clause } ∷ others) rest
    ]

-- the clauses whose numbers pass a test are dropped too
pub live_of-filter : (number : ℕ → ℕ) (dropped dropped' : ℕ → Bool) (test : ℕ → Bool) (clauses : List (List Lit)) → ((k : ℕ) → k < length clauses → dropped' k ≡ (dropped k || test (number k))) → live_of number dropped' clauses ≡ filter (λ clause. not (test clause.id.0)) (live_of number dropped clauses)
live_of-filter number dropped dropped' test [] drops = refl
live_of-filter number dropped dropped' test (clause ∷ clauses) drops =
    let before = live_of (λ k. number (suc k)) (λ k. dropped (suc k)) clauses in
    let rest : live_of (λ k. number (suc k)) (λ k. dropped' (suc k)) clauses ≡ filter (λ c. not (test c.id.0)) before = live_of-filter (λ k. number (suc k)) (λ k. dropped (suc k)) (λ k. dropped' (suc k)) test clauses (λ k under. drops (suc k) (omega arith)) in
    let here : NumberedClause = record { id = record { 0 = number 0 }; lits = clause } in
    rw (rest, drops 0 (omega arith))
    (elim (dropped 0) as (λ b. cond (b || test (number 0)) (filter (λ c. not (test c.id.0)) before) (here ∷ filter (λ c. not (test c.id.0)) before) ≡ filter (λ c. not (test c.id.0)) (cond b before (here ∷ before))) [
      | true ↦ refl
      | false ↦ elim (test (number 0)) as (λ t. cond t (filter (λ c. not (test c.id.0)) before) (here ∷ filter (λ c. not (test c.id.0)) before) ≡ cond (not t) (here ∷ filter (λ c. not (test c.id.0)) before) (filter (λ c. not (test c.id.0)) before)) [ true ↦ refl | false ↦ refl ]
    ])

-- at first no clause is dropped, and the numbers run without gaps
pub live_of-first : (first : ℕ) (number : ℕ → ℕ) (dropped : ℕ → Bool) (clauses : List (List Lit)) → ((k : ℕ) → k < length clauses → number k ≡ first + k) → ((k : ℕ) → dropped k ≡ false) → live_of number dropped clauses ≡ numbered_from first clauses
live_of-first first number dropped [] numbers none = refl
live_of-first first number dropped (clause ∷ clauses) numbers none =
    let rest = live_of-first (first + 1) (λ k. number (suc k)) (λ k. dropped (suc k)) clauses (λ k under. numbers (suc k) (omega arith) ∙ omega arith) (λ k. none (suc k)) in
    let same : number 0 ≡ first = numbers 0 (omega arith) ∙ omega arith in
    rw (none 0, same, rest) refl
