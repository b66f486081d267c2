-- Drops of clauses, as the definitions of derivations see them.
use Rattle.std.proofs.Common.{◌≡◌, ℕ, suc, ◌<◌, Bool, true, false, cond, List, [], ◌∷◌, length, refl, ap, ◌∙◌, arith}
use Rattle.std.specs.Prelude.{Result, Ok, Err, OnOk, OnErr, nat_eq, Some, IsSome, is_some, find, option_map, slice_get}
use Rattle.std.proofs.lemmas.Bool.{eqb-true}
use Rattle.std.proofs.lemmas.List.Elements.{All-weaker}
use Rattle.std.proofs.lemmas.Option.{slice_get-get_or}
use Rattle.sat_core.specs.declared.literal.Lit.{Lit}
use Rattle.sat_core.specs.declared.literal.ClauseId.{ClauseId}
use Rattle.sat_core.specs.Hints.{NumberedClause, clause_of}
use Rattle.sat_core.specs.Derivation.{after, drops, IsAcceptedDrop}
use Rattle.log_checker.specs.declared.dropped.Dropped.{Dropped}
use Rattle.log_checker.specs.Stored.{number_at, is_dropped, live_of, AreNumbered}
use Rattle.log_checker.specs.Drops.{is_named, IsLiveNumber, CanDrop, DropsAlso, SameDrops}
use Rattle.log_checker.proofs.LiveLemmas.{live_of-same, live_of-filter}
use Rattle.log_checker.proofs.StoreLemmas.{database_in, lookup_live}

is_live_place : (number : ℕ → ℕ) (dropped : ℕ → Bool) (clauses : List (List Lit)) (id : ClauseId) → IsSome (clause_of (live_of number dropped clauses) id) → (place : ℕ) × (place < length clauses) × (number place ≡ id.0) × (dropped place ≡ false)
is_live_place number dropped [] id some = absurd (cc)
is_live_place number dropped (clause ∷ clauses) id some =
    let others : List NumberedClause = live_of (λ place. number (suc place)) (λ place. dropped (suc place)) clauses in
    let later : IsSome (clause_of others id) → (place : ℕ) × (place < length (clause ∷ clauses)) × (number place ≡ id.0) × (dropped place ≡ false) = λ rest.
    let at = is_live_place (λ place. number (suc place)) (λ place. dropped (suc place)) clauses id rest in
    (suc at.0, omega (arith, at.1), at.2, at.3) in
    let here : NumberedClause = record { id = record { 0 = number 0 }; lits = clause } in
    elim (dropped 0) as (λ b. dropped 0 ≡ b → IsSome (clause_of (cond b others (here ∷ others)) id) → (place : ℕ) × (place < length (clause ∷ clauses)) × (number place ≡ id.0) × (dropped place ≡ false)) [
      | true ↦ λ _ rest. later rest
      | false ↦ λ stands. elim (nat_eq (number 0) id.0) as (λ b. nat_eq (number 0) id.0 ≡ b → IsSome (option_map (λ c. c.lits) (cond b (Some here) (find (λ c. nat_eq c.id.0 id.0) others))) → (place : ℕ) × (place < length (clause ∷ clauses)) × (number place ≡ id.0) × (dropped place ≡ false)) [
        | true ↦ λ is _. (0, omega arith, eqb-true (number 0) id.0 is, stands)
        | false ↦ λ _ rest. later rest
      ] refl
    ] refl some

some_in : {X : Type 0} (xs : List X) (place : ℕ) (d : X) → place < length xs → IsSome (slice_get xs place)
some_in xs place d within = ap is_some (slice_get-get_or xs place d within)

pub accepted_drop : (vars : ℕ) (numbers : List ClauseId) (last : ℕ) (dropped : Dropped) (clauses : List (List Lit)) (ids : List ClauseId) → AreNumbered dropped numbers last clauses → CanDrop numbers dropped ids → IsAcceptedDrop (database_in vars numbers last dropped clauses) ids
unfolding IsLiveNumber
accepted_drop vars numbers last dropped clauses ids numbered can = record {
  all_live = All-weaker (IsLiveNumber numbers dropped) (λ id. IsSome (clause_of (live_of (number_at dropped.own numbers) (is_dropped dropped) clauses) id)) (λ id live. rw (lookup_live numbers last dropped clauses id live.0 numbered live.1 live.2 live.3) (some_in clauses live.0 [] (omega (arith, live.1, numbered.all_clauses)))) ids can.all_live;
  none_twice = can.none_twice;
}

pub only_accepted_drop : (vars : ℕ) (numbers : List ClauseId) (last : ℕ) (dropped : Dropped) (clauses : List (List Lit)) (ids : List ClauseId) → AreNumbered dropped numbers last clauses → IsAcceptedDrop (database_in vars numbers last dropped clauses) ids → CanDrop numbers dropped ids
unfolding IsLiveNumber
only_accepted_drop vars numbers last dropped clauses ids numbered accepted = record {
  all_live = All-weaker (λ id. IsSome (clause_of (live_of (number_at dropped.own numbers) (is_dropped dropped) clauses) id)) (IsLiveNumber numbers dropped) (λ id some.
      let at = is_live_place (number_at dropped.own numbers) (is_dropped dropped) clauses id some in
      (at.0, omega (arith, at.1, numbered.all_clauses), at.2, at.3)) ids accepted.all_live;
  none_twice = accepted.none_twice;
}

-- what is live when clauses were dropped, and when none was
pub database_dropped : (vars : ℕ) (numbers : List ClauseId) (last : ℕ) (old new : Dropped) (clauses : List (List Lit)) (ids : List ClauseId) → AreNumbered old numbers last clauses → DropsAlso numbers old new ids → database_in vars numbers last new clauses ≡ after (database_in vars numbers last old clauses) (drops ids)
database_dropped vars numbers last old new clauses ids numbered also =
    let live : live_of (number_at old.own numbers) (is_dropped new) clauses ≡ (after (database_in vars numbers last old clauses) (drops ids)).live = live_of-filter (number_at old.own numbers) (is_dropped old) (is_dropped new) (is_named ids) clauses (λ k under. also.here k (omega (arith, numbered.all_clauses))) in
    ap (λ (live : List NumberedClause). record { vars = vars; last = last; live = live }) (ap (λ own. live_of (number_at own numbers) (is_dropped new) clauses) also.same_own ∙ live)

pub database_same : (vars : ℕ) (numbers : List ClauseId) (last : ℕ) (old new : Dropped) (clauses : List (List Lit)) → SameDrops old new → database_in vars numbers last new clauses ≡ database_in vars numbers last old clauses
database_same vars numbers last old new clauses same =
    let live : live_of (number_at old.own numbers) (is_dropped new) clauses ≡ live_of (number_at old.own numbers) (is_dropped old) clauses = live_of-same (number_at old.own numbers) (number_at old.own numbers) (is_dropped old) (is_dropped new) clauses (λ k under. refl) (λ k under. same.same k) in
    ap (λ (live : List NumberedClause). record { vars = vars; last = last; live = live }) (ap (λ own. live_of (number_at own numbers) (is_dropped new) clauses) same.same_own ∙ live)

pub AreNumbered-dropped : (numbers : List ClauseId) (last : ℕ) (old new : Dropped) (clauses : List (List Lit)) (ids : List ClauseId) → AreNumbered old numbers last clauses → DropsAlso numbers old new ids → AreNumbered new numbers last clauses
AreNumbered-dropped numbers last old new clauses ids numbered also = record {
  all_clauses = rw also.same_own numbered.all_clauses;
  ascending = rw also.same_own numbered.ascending;
  all_flags = also.same_size ∙ numbered.all_flags;
  fits = numbered.fits;
}

pub AreNumbered-same : (numbers : List ClauseId) (last : ℕ) (old new : Dropped) (clauses : List (List Lit)) → AreNumbered old numbers last clauses → SameDrops old new → AreNumbered new numbers last clauses
AreNumbered-same numbers last old new clauses numbered same = record {
  all_clauses = rw same.same_own numbered.all_clauses;
  ascending = rw same.same_own numbered.ascending;
  all_flags = same.same_size ∙ numbered.all_flags;
  fits = numbered.fits;
}

pub on_ok : {T E : Type 0} (r : Result T E) (P Q : Type 0) → (P → Q) → OnOk r P → OnOk r Q
on_ok (Ok x) P Q f holds = f holds
on_ok (Err e) P Q f holds = holds

pub on_err : {T E : Type 0} (r : Result T E) (P Q : Type 0) → (P → Q) → OnErr r P → OnErr r Q
on_err (Ok x) P Q f holds = holds
on_err (Err e) P Q f holds = f holds
