-- What the stored clauses tell about the live ones.
use Rattle.std.proofs.Common.{◌≡◌, ◌≢◌, ℕ, ◌+◌, ◌-◌, ◌^◌, ◌<◌, ◌≤◌, true, false, inl, inr, List, [], ◌∷◌, ◌++◌, length, get_or, refl, ap, sym, subst, ◌∙◌, arith}
use Rattle.std.specs.Prelude.{None, slice_get}
use Rattle.std.proofs.lemmas.Bool.{cases_eq, cases_lt}
use Rattle.std.proofs.lemmas.Option.{slice_get-get_or}
use Rattle.std.proofs.lemmas.List.{length_push, get_or_append_left, get_or_push}
use Rattle.sat_core.specs.declared.literal.Lit.{Lit}
use Rattle.sat_core.specs.declared.literal.ClauseId.{ClauseId}
use Rattle.sat_core.specs.Hints.{clause_of}
use Rattle.sat_core.specs.Derivation.{ClauseDatabase, numbered_from, database_of}
use Rattle.log_checker.specs.declared.dropped.Dropped.{Dropped}
use Rattle.log_checker.specs.Stored.{number_at, is_dropped, live_of, AscendsTo, AreNumbered}
use Rattle.log_checker.proofs.NumberLemmas.{number_at-own, number_at-log, AscendsTo-above, AscendsTo-pairs, AscendsTo-last, AscendsTo-push}
use Rattle.log_checker.proofs.LiveLemmas.{clause_of-live, clause_of-missing, live_of-same, live_of-push, live_of-first}

-- what a store holds, as the definitions of derivations see it
abbrev pub database_in : ℕ → List ClauseId → ℕ → Dropped → List (List Lit) → ClauseDatabase
database_in vars numbers last dropped clauses = record { vars = vars; last = last; live = live_of (number_at dropped.own numbers) (is_dropped dropped) clauses }

pub database_of-first : (vars last : ℕ) (numbers : List ClauseId) (dropped : Dropped) (clauses : List (List Lit)) → numbers ≡ [] → last ≡ length clauses → dropped.own ≡ length clauses → ((place : ℕ) → is_dropped dropped place ≡ false) → database_in vars numbers last dropped clauses ≡ database_of vars clauses
database_of-first vars last numbers dropped clauses empty total own none =
    let live : live_of (number_at dropped.own numbers) (is_dropped dropped) clauses ≡ numbered_from 1 clauses = live_of-first 1 (number_at dropped.own numbers) (is_dropped dropped) clauses (λ k under. number_at-own dropped.own numbers k (omega arith) ∙ omega arith) none in
    rw (total, live) refl

pub AreNumbered-first : (last : ℕ) (numbers : List ClauseId) (dropped : Dropped) (clauses : List (List Lit)) → numbers ≡ [] → last ≡ length clauses → dropped.own ≡ length clauses → length dropped.flags.items ≡ length clauses → last < 2 ^ 32 → AreNumbered dropped numbers last clauses
AreNumbered-first last numbers dropped clauses empty total own size fits = rw empty (record {
  all_clauses = omega arith;
  all_flags = size;
  ascending = own ∙ sym total;
  fits = fits;
})

-- a later place has a greater number
pub number_at-below : (own : ℕ) (numbers : List ClauseId) (last k place : ℕ) → AscendsTo own numbers last → k < place → place < own + length numbers → number_at own numbers k < number_at own numbers place
number_at-below own numbers last k place ascends before within = elim (cases_lt place own) [
  | inl formula ↦ omega (arith, number_at-own own numbers place formula, number_at-own own numbers k (omega arith))
  | inr log ↦
      let d : ClauseId = record { 0 = 0 } in
      let high : own + (place - own) < (get_or numbers (place - own) d).0 = AscendsTo-above own numbers last (place - own) d ascends (omega arith) in
      elim (cases_lt k own) [
        | inl formula ↦ omega (arith, high, number_at-own own numbers k formula, number_at-log own numbers place log)
        | inr log' ↦ omega (arith, AscendsTo-pairs own numbers last ascends (k - own) (place - own) d (omega arith) (omega arith), number_at-log own numbers k log', number_at-log own numbers place log)
      ]
]

pub number_at-same : (own : ℕ) (numbers : List ClauseId) (last k place : ℕ) → AscendsTo own numbers last → k < own + length numbers → place < own + length numbers → number_at own numbers k ≡ number_at own numbers place → k ≡ place
number_at-same own numbers last k place ascends within within' same = elim (cases_eq k place) [
  | inl is ↦ is
  | inr differs ↦ elim (cases_lt k place) [
    | inl before ↦ absurd (omega (arith, number_at-below own numbers last k place ascends before within'))
    | inr behind ↦ absurd (omega (arith, number_at-below own numbers last place k ascends (omega arith) within))
  ]
]

-- the look-up of a place that isn't dropped, of one that is, and of a number that no place has
pub lookup_live : (numbers : List ClauseId) (last : ℕ) (dropped : Dropped) (clauses : List (List Lit)) (id : ClauseId) (place : ℕ) → AreNumbered dropped numbers last clauses → place < dropped.own + length numbers → number_at dropped.own numbers place ≡ id.0 → is_dropped dropped place ≡ false → clause_of (live_of (number_at dropped.own numbers) (is_dropped dropped) clauses) id ≡ slice_get clauses place
lookup_live numbers last dropped clauses id place numbered within is stands =
    clause_of-live (number_at dropped.own numbers) (is_dropped dropped) clauses id place [] (omega (arith, numbered.all_clauses)) is stands
    (λ k before same. omega (arith, number_at-below dropped.own numbers last k place numbered.ascending before within))
    ∙ sym (slice_get-get_or clauses place [] (omega (arith, numbered.all_clauses)))

pub lookup_dropped : (numbers : List ClauseId) (last : ℕ) (dropped : Dropped) (clauses : List (List Lit)) (id : ClauseId) (place : ℕ) → AreNumbered dropped numbers last clauses → place < dropped.own + length numbers → number_at dropped.own numbers place ≡ id.0 → is_dropped dropped place ≡ true → clause_of (live_of (number_at dropped.own numbers) (is_dropped dropped) clauses) id ≡ None
lookup_dropped numbers last dropped clauses id place numbered within is gone =
    clause_of-missing (number_at dropped.own numbers) (is_dropped dropped) clauses id (λ k under stands same.
    let here : k ≡ place = number_at-same dropped.own numbers last k place numbered.ascending (omega (arith, numbered.all_clauses)) within (same ∙ sym is) in
    true_is_not_false (sym gone ∙ (ap (is_dropped dropped) (sym here) ∙ stands)))
  where
    true_is_not_false : true ≡ false → ⊥
    true_is_not_false same = cc

pub lookup_missing : (numbers : List ClauseId) (last : ℕ) (dropped : Dropped) (clauses : List (List Lit)) (id : ClauseId) → AreNumbered dropped numbers last clauses → ((place : ℕ) → place < dropped.own + length numbers → number_at dropped.own numbers place ≢ id.0) → clause_of (live_of (number_at dropped.own numbers) (is_dropped dropped) clauses) id ≡ None
lookup_missing numbers last dropped clauses id numbered none =
    clause_of-missing (number_at dropped.own numbers) (is_dropped dropped) clauses id (λ k under _. none k (omega (arith, numbered.all_clauses)))

-- one clause more
number_at-push : (own : ℕ) (numbers : List ClauseId) (id : ClauseId) (place : ℕ) → place < own + length numbers → number_at own (numbers ++ id ∷ []) place ≡ number_at own numbers place
number_at-push own numbers id place within = elim (cases_lt place own) [
  | inl formula ↦ number_at-own own (numbers ++ id ∷ []) place formula ∙ sym (number_at-own own numbers place formula)
  | inr log ↦
      let d : ClauseId = record { 0 = 0 } in
      number_at-log own (numbers ++ id ∷ []) place log ∙ (ap (λ (number : ClauseId). number.0) (get_or_append_left numbers (id ∷ []) d (place - own) (omega arith)) ∙ sym (number_at-log own numbers place log))
]

number_at-last : (own : ℕ) (numbers : List ClauseId) (id : ClauseId) (place : ℕ) → place ≡ own + length numbers → number_at own (numbers ++ id ∷ []) place ≡ id.0
number_at-last own numbers id place is =
    number_at-log own (numbers ++ id ∷ []) place (omega arith) ∙ ap (λ (number : ClauseId). number.0) (get_or_push numbers id (record { 0 = 0 }) (place - own) (omega arith))

-- the flags are those of before, and one more that isn't set
pub record OneFlagMore (old new : Dropped) : Type 0 where
  pub same_own : new.own ≡ old.own
  pub flags : new.flags.items ≡ old.flags.items ++ false ∷ []

pub AreNumbered-push : (numbers : List ClauseId) (last : ℕ) (old new : Dropped) (clauses : List (List Lit)) (id : ClauseId) (lits : List Lit) → OneFlagMore old new → AreNumbered old numbers last clauses → last < id.0 → id.0 < 2 ^ 32 → AreNumbered new (numbers ++ id ∷ []) id.0 (clauses ++ lits ∷ [])
AreNumbered-push numbers last old new clauses id lits more numbered above fits = record {
  all_clauses = omega (arith, length_push numbers id, length_push clauses lits, numbered.all_clauses, more.same_own);
  all_flags = ap length more.flags ∙ omega (arith, length_push old.flags.items false, length_push clauses lits, numbered.all_flags);
  ascending = subst (λ own. AscendsTo own (numbers ++ id ∷ []) id.0) (sym more.same_own) (AscendsTo-push old.own numbers last id numbered.ascending above);
  fits = fits;
}

pub live_after-push : (numbers : List ClauseId) (last : ℕ) (old new : Dropped) (clauses : List (List Lit)) (id : ClauseId) (lits : List Lit) → OneFlagMore old new → AreNumbered old numbers last clauses → live_of (number_at new.own (numbers ++ id ∷ [])) (is_dropped new) (clauses ++ lits ∷ []) ≡ live_of (number_at old.own numbers) (is_dropped old) clauses ++ record { id = id; lits = lits } ∷ []
live_after-push numbers last old new clauses id lits more numbered =
    let number : ℕ → ℕ = number_at new.own (numbers ++ id ∷ []) in
    let added : number (length clauses) ≡ id.0 = number_at-last new.own numbers id (length clauses) (omega (arith, numbered.all_clauses, more.same_own)) in
    let stands : is_dropped new (length clauses) ≡ false = ap (λ flags. get_or flags (length clauses) false) more.flags ∙ get_or_push old.flags.items false false (length clauses) numbered.all_flags in
    let before : live_of number (is_dropped new) clauses ≡ live_of (number_at old.own numbers) (is_dropped old) clauses = live_of-same (number_at old.own numbers) number (is_dropped old) (is_dropped new) clauses
    (λ k under. number_at-push new.own numbers id k (omega (arith, numbered.all_clauses, more.same_own)) ∙ ap (λ own. number_at own numbers k) more.same_own)
    (λ k under. ap (λ flags. get_or flags k false) more.flags ∙ get_or_append_left old.flags.items (false ∷ []) false k (omega (arith, numbered.all_flags))) in
    live_of-push number (is_dropped new) clauses lits stands ∙ rw (added, before) refl

-- how many clauses there are
pub clauses_within : (numbers : List ClauseId) (last : ℕ) (dropped : Dropped) (clauses : List (List Lit)) → AreNumbered dropped numbers last clauses → length clauses ≤ last
clauses_within numbers last dropped clauses numbered = omega (arith, numbered.all_clauses, AscendsTo-last dropped.own numbers last numbered.ascending)
