-- The steps of a search, under other numbers, are accepted over clauses that hold the units from the beginning.
use Rattle.std.proofs.Common.{◌≡◌, ◌≢◌, ℕ, zero, suc, ◌+◌, ◌<◌, ◌≤◌, false, not, inl, inr, List, [], ◌∷◌, ◌++◌, map, get_or, refl, sym, ap, subst, ◌∙◌, arith}
use Rattle.std.specs.Prelude.{All, AllPairs, Some, None, IsSome}
use Rattle.std.proofs.lemmas.Bool.{cases_eq, ne_eqb}
use Rattle.std.proofs.lemmas.List.Elements.{All-head, All-tail, All-push, All-map, All-filter}
use Rattle.std.proofs.lemmas.List.Kept.{AllPairs-cons}
use Rattle.sat_core.specs.declared.literal.Lit.{Lit}
use Rattle.sat_core.specs.declared.literal.ClauseId.{ClauseId}
use Rattle.sat_core.specs.Clauses.{negated, IsClause}
use Rattle.sat_core.specs.Hints.{NumberedClause, clause_of}
use Rattle.sat_core.specs.Derivation.{adds, drops, ClauseDatabase, after, AreAccepted}
use Rattle.sat_core.specs.Search.{Event, gives, derives, Search, after_event, AreNext, log_of}
use Rattle.log_rebase.specs.Rebasing.{with_numbers}
use Rattle.log_rebase.proofs.Carried.{Carries, renamed, hints_carried, named, without, kept_clause, IsOneToOne, named_carried, dropped_carried, found_still, AreUpTo, found_new, found_cases}

-- the units that are still to come are live already, under their new numbers
abbrev pub UnitsLive : (ℕ → ℕ) → ℕ → List NumberedClause → List Event → Type 0
UnitsLive f last live [] = Unit {0}
UnitsLive f last live (gives lit ∷ events) = (clause_of live (record { 0 = f (last + 1) }) ≡ Some (lit ∷ [])) × UnitsLive f (last + 1) live events
UnitsLive f last live (derives (adds id lits hints) ∷ events) = UnitsLive f (last + 1) live events
UnitsLive f last live (derives (drops ids) ∷ events) = UnitsLive f last live events

-- each added clause has a new number above the earlier ones
abbrev pub Rises : (ℕ → ℕ) → ℕ → List Event → Type 0
Rises f last [] = Unit {0}
Rises f last (gives lit ∷ events) = Rises f last events
Rises f last (derives (adds id lits hints) ∷ events) = (last < f id.0) × Rises f (f id.0) events
Rises f last (derives (drops ids) ∷ events) = Rises f last events

units_more : (f : ℕ → ℕ) (last : ℕ) (live : List NumberedClause) (clause : NumberedClause) (events : List Event) → UnitsLive f last live events → UnitsLive f last (live ++ clause ∷ []) events
units_more f last live clause [] are = tt
units_more f last live clause (gives lit ∷ events) are = (found_still live clause (record { 0 = f (last + 1) }) (lit ∷ []) are.0, units_more f (last + 1) live clause events are.1)
units_more f last live clause (derives (adds id lits hints) ∷ events) are = units_more f (last + 1) live clause events are
units_more f last live clause (derives (drops ids) ∷ events) are = units_more f last live clause events are

not_named : (ids : List ClauseId) (bound number : ℕ) → All (λ id. id.0 ≤ bound) ids → bound < number → named ids number ≡ false
not_named [] bound number all above = refl
not_named (id ∷ ids) bound number all above =
    let low : id.0 ≤ bound = All-head (λ i. i.0 ≤ bound) id ids all in
    rw (ne_eqb number id.0 (λ same. omega arith)) (not_named ids bound number (All-tail (λ i. i.0 ≤ bound) id ids all) above)

units_kept : (f : ℕ → ℕ) (ids : List ClauseId) (bound last : ℕ) (live : List NumberedClause) (events : List Event) → IsOneToOne f → All (λ id. id.0 ≤ bound) ids → bound ≤ last
    → UnitsLive f last live events → UnitsLive f last (without (map (renamed f) ids) live) events
units_kept f ids bound last live [] one all within are = tt
units_kept f ids bound last live (gives lit ∷ events) one all within are = (
  kept_clause (map (renamed f) ids) live (record { 0 = f (last + 1) }) (named_carried f ids (last + 1) one ∙ not_named ids bound (last + 1) all (omega arith)) ∙ are.0,
  units_kept f ids bound (last + 1) live events one all (omega arith) are.1,
)
units_kept f ids bound last live (derives (adds id lits hints) ∷ events) one all within are = units_kept f ids bound (last + 1) live events one all (omega arith) are
units_kept f ids bound last live (derives (drops other) ∷ events) one all within are = units_kept f ids bound last live events one all within are

up_to_more : (last more : ℕ) (live : List NumberedClause) → AreUpTo last live → last ≤ more → AreUpTo more live
up_to_more last more live up within = λ k d lt. let low : (get_or live k d).id.0 ≤ last = up k d lt in omega arith

up_to_push : (last : ℕ) (live : List NumberedClause) (clause : NumberedClause) → AreUpTo last live → last ≤ clause.id.0 → AreUpTo clause.id.0 (live ++ clause ∷ [])
up_to_push last live clause up within = All-push (λ c. c.id.0 ≤ clause.id.0) live clause (up_to_more last clause.id.0 live up within) (omega arith)

found_up_to : (last : ℕ) (live : List NumberedClause) (id : ClauseId) → AreUpTo last live → IsSome (clause_of live id) → id.0 ≤ last
found_up_to last [] id up some = absurd (cc)
found_up_to last (first ∷ live) id up some =
    elim (cases_eq first.id.0 id.0) [
      | inl same ↦ let low : first.id.0 ≤ last = All-head (λ c. c.id.0 ≤ last) first live up in omega arith
      | inr differs ↦ found_up_to last live id (All-tail (λ c. c.id.0 ≤ last) first live up) (rw (ne_eqb first.id.0 id.0 differs) at some)
    ]

some_carried : (f : ℕ → ℕ) (old new : List NumberedClause) (id : ClauseId) → Carries f old new → IsSome (clause_of old id) → IsSome (clause_of new (renamed f id))
some_carried f old new id carries some =
    elim (clause_of old id) as (λ found. clause_of old id ≡ found → IsSome found → IsSome (clause_of new (renamed f id))) [
      | None ↦ λ is never. absurd (cc)
      | Some lits ↦ λ is _. rw (carries id lits is) refl
    ] refl some

twice_carried : (f : ℕ → ℕ) (ids : List ClauseId) → IsOneToOne f → AllPairs (λ first later. first.0 ≢ later.0) ids → AllPairs (λ first later. first.0 ≢ later.0) (map (renamed f) ids)
twice_carried f [] one none = λ i j d before within. absurd (omega arith)
twice_carried f (id ∷ ids) one none =
    AllPairs-cons (λ first later. first.0 ≢ later.0) (renamed f id) (map (renamed f) ids)
    (All-map (λ later. f id.0 ≢ later.0) (renamed f) ids (λ k d lt same. none zero (suc k) d (omega arith) (omega arith) (one _ _ same)))
    (twice_carried f ids one (λ i j d before within. none (suc i) (suc j) d (omega arith) (omega arith)))

carried_unit : (f : ℕ → ℕ) (last : ℕ) (old new : List NumberedClause) (lits : List Lit) → Carries f old new → clause_of new (record { 0 = f last }) ≡ Some lits
    → Carries f (old ++ record { id = record { 0 = last }; lits = lits } ∷ []) new
carried_unit f last old new lits carries live = λ id found is.
    elim (found_cases old (record { id = record { 0 = last }; lits = lits }) id found is) [
      | inl before ↦ carries id found before
      | inr (same, is_found) ↦ subst (λ (n : ℕ). clause_of new (record { 0 = f n }) ≡ Some found) same (live ∙ ap Some is_found)
    ]

carried_add : (f : ℕ → ℕ) (last : ℕ) (old new : List NumberedClause) (id : ClauseId) (lits : List Lit) → Carries f old new → AreUpTo last new → last < f id.0
    → Carries f (old ++ record { id = id; lits = lits } ∷ []) (new ++ record { id = renamed f id; lits = lits } ∷ [])
carried_add f last old new id lits carries up above =
    carried_unit f id.0 old (new ++ record { id = renamed f id; lits = lits } ∷ []) lits
    (λ other found is. found_still new (record { id = renamed f id; lits = lits }) (renamed f other) found (carries other found is))
    (found_new last new (record { id = renamed f id; lits = lits }) up above)

pub simulates : (f : ℕ → ℕ) (s : Search) (new : ClauseDatabase) (events : List Event) → IsOneToOne f → AreNext s events → new.vars ≡ s.database.vars
    → AreUpTo s.database.last s.database.live → AreUpTo new.last new.live → Carries f s.database.live new.live → UnitsLive f s.database.last new.live events → Rises f new.last events
    → AreAccepted new (map (with_numbers f) (log_of events))
simulates f s new [] one are same up up' carries units rises = tt
simulates f s new (gives lit ∷ events) one are same up up' carries units rises =
    simulates f (after_event s (gives lit)) new events one are.1 same
    (up_to_push s.database.last s.database.live (record { id = record { 0 = s.database.last + 1 }; lits = lit ∷ [] }) up (omega arith)) up'
    (carried_unit f (s.database.last + 1) s.database.live new.live (lit ∷ []) carries units.0) units.1 rises
simulates f s new (derives (adds id lits hints) ∷ events) one are same up up' carries units rises = (
  record {
    in_order = rises.0;
    clause = subst (λ (v : ℕ). IsClause v lits) (sym same) are.0.accepted.clause;
    conflict = hints_carried f s.database.live new.live (map negated lits) hints carries are.0.accepted.conflict;
  },
  simulates f (after_event s (derives (adds id lits hints))) (after new (with_numbers f (adds id lits hints))) events one are.1 same
      (up_to_push s.database.last s.database.live (record { id = id; lits = lits }) up (let in_order : s.database.last < id.0 = are.0.accepted.in_order in omega arith))
      (up_to_push new.last new.live (record { id = renamed f id; lits = lits }) up' (omega (arith, rises.0)))
      (carried_add f new.last s.database.live new.live id lits carries up' rises.0)
      (subst (λ (last : ℕ). UnitsLive f last (new.live ++ record { id = renamed f id; lits = lits } ∷ []) events) (sym are.0.numbered) (units_more f (s.database.last + 1) new.live (record { id = renamed f id; lits = lits }) events units))
      rises.1,
)
simulates f s new (derives (drops ids) ∷ events) one are same up up' carries units rises =
    let accepted = are.0.accepted in (
      record {
        all_live = All-map (λ id. IsSome (clause_of new.live id)) (renamed f) ids (λ k d lt. some_carried f s.database.live new.live (get_or ids k d) carries (accepted.all_live k d lt));
        none_twice = twice_carried f ids one accepted.none_twice;
      },
      simulates f (after_event s (derives (drops ids))) (after new (with_numbers f (drops ids))) events one are.1 same
          (All-filter (λ clause. not (named ids clause.id.0)) (λ c. c.id.0 ≤ s.database.last) s.database.live up)
          (All-filter (λ clause. not (named (map (renamed f) ids) clause.id.0)) (λ c. c.id.0 ≤ new.last) new.live up')
          (dropped_carried f ids s.database.live new.live one carries)
          (units_kept f ids s.database.last s.database.last new.live events one (λ k d lt. found_up_to s.database.last s.database.live (get_or ids k d) up (accepted.all_live k d lt)) (omega arith) units)
          rises,
    )
