-- Live clauses in the order of their numbers: one more at the end, the first of them, those that aren't empty.
use Rattle.std.proofs.Common.{◌≡◌, ◌≢◌, ℕ, zero, suc, ◌+◌, ◌<◌, ◌≤◌, ◌⊎◌, inl, inr, List, [], ◌∷◌, ◌++◌, length, map, take, drop, get_or, refl, ap, sym, subst, ◌∙◌, arith}
use Rattle.std.specs.Prelude.{All, AllPairs, Any, Contains, Some, None}
use Rattle.std.proofs.lemmas.Bool.{ne_eqb, eq-eqb}
use Rattle.std.proofs.lemmas.List.{append-nil, take-append-le, take_all, take-append-drop}
use Rattle.std.proofs.lemmas.List.Elements.{All-nil, All-head, All-tail, All-cons, All-push, All-append}
use Rattle.std.proofs.lemmas.List.Quantifiers.{all_pairs_push}
use Rattle.sat_core.specs.declared.literal.Lit.{Lit}
use Rattle.sat_core.specs.declared.literal.ClauseId.{ClauseId}
use Rattle.sat_core.specs.Hints.{NumberedClause, clause_of}
use Rattle.sat_core.specs.Derivation.{numbered_from}
use Rattle.sat_core.specs.Fresh.{IsFresh}
use Rattle.watch_store.specs.Places.{IsInserted}
use Rattle.watch_solver.specs.Running.{first_clauses}

-- ---- the formula's clauses
map_numbered : (first : ℕ) (clauses : List (List Lit)) → map (λ (clause : NumberedClause). clause.lits) (numbered_from first clauses) ≡ clauses
map_numbered first [] = refl
map_numbered first (clause ∷ clauses) = ap (λ cs. clause ∷ cs) (map_numbered (first + 1) clauses)

pub length_numbered : (first : ℕ) (clauses : List (List Lit)) → length (numbered_from first clauses) ≡ length clauses
length_numbered first [] = refl
length_numbered first (clause ∷ clauses) = let rest : length (numbered_from (first + 1) clauses) ≡ length clauses = length_numbered (first + 1) clauses in omega arith

pub first_of_numbered : (given : ℕ) (live : List NumberedClause) (clauses : List (List Lit)) → live ≡ numbered_from 1 clauses → given ≡ length clauses → first_clauses given live ≡ clauses
first_of_numbered given live clauses is count =
    ap (first_clauses given) is
    ∙ (ap (map (λ (clause : NumberedClause). clause.lits)) (take_all given (numbered_from 1 clauses) (omega (arith, count, length_numbered 1 clauses))) ∙ map_numbered 1 clauses)

numbered_low : (first : ℕ) (clauses : List (List Lit)) → All (λ clause. clause.id.0 < first + length clauses) (numbered_from first clauses)
numbered_low first [] = All-nil (λ (clause : NumberedClause). clause.id.0 < first + 0)
numbered_low first (clause ∷ clauses) =
    All-cons (λ (c : NumberedClause). c.id.0 < first + length (clause ∷ clauses)) (record { id = record { 0 = first }; lits = clause }) (numbered_from (first + 1) clauses) (omega arith)
    (λ k d within. omega (arith, numbered_low (first + 1) clauses k d within))

numbered_least : (first : ℕ) (clauses : List (List Lit)) → All (λ clause. first ≤ clause.id.0) (numbered_from first clauses)
numbered_least first [] = All-nil (λ (clause : NumberedClause). first ≤ clause.id.0)
numbered_least first (clause ∷ clauses) =
    All-cons (λ (c : NumberedClause). first ≤ c.id.0) (record { id = record { 0 = first }; lits = clause }) (numbered_from (first + 1) clauses) (omega arith)
    (λ k d within. omega (arith, numbered_least (first + 1) clauses k d within))

pub numbered_upto : (last : ℕ) (live : List NumberedClause) (clauses : List (List Lit)) → live ≡ numbered_from 1 clauses → last ≡ length clauses → All (λ clause. clause.id.0 ≤ last) live
numbered_upto last live clauses is count = subst (All (λ (c : NumberedClause). c.id.0 ≤ last)) (sym is) (λ k d within. omega (arith, count, numbered_low 1 clauses k d within))

-- ---- one clause more
pub new_number : (live : List NumberedClause) (last : ℕ) (id : ClauseId) → All (λ clause. clause.id.0 ≤ last) live → last < id.0 → clause_of live id ≡ None
new_number [] last id all above = refl
new_number (clause ∷ live) last id all above =
    rw (ne_eqb clause.id.0 id.0 (λ same. omega (arith, same, above, All-head (λ (c : NumberedClause). c.id.0 ≤ last) clause live all)))
    (new_number live last id (All-tail (λ (c : NumberedClause). c.id.0 ≤ last) clause live all) above)

none_higher : (lower higher : List NumberedClause) (last : ℕ) (id : ClauseId) → All (λ clause. clause.id.0 ≤ last) (lower ++ higher) → last < id.0 → All (λ clause. id.0 < clause.id.0) higher → higher ≡ []
none_higher lower [] last id all above high = refl
none_higher [] (clause ∷ higher) last id all above high = absurd (omega (arith, above, All-head (λ (c : NumberedClause). c.id.0 ≤ last) clause higher all, All-head (λ (c : NumberedClause). id.0 < c.id.0) clause higher high))
none_higher (first ∷ lower) (clause ∷ higher) last id all above high = none_higher lower (clause ∷ higher) last id (All-tail (λ (c : NumberedClause). c.id.0 ≤ last) first (lower ++ clause ∷ higher) all) above high

pub pushed_live : (id : ClauseId) (lits : List Lit) (old new : List NumberedClause) (last : ℕ) → IsInserted id lits old new → All (λ clause. clause.id.0 ≤ last) old → last < id.0 → new ≡ old ++ record { id = id; lits = lits } ∷ []
pushed_live id lits old new last inserted all above =
    let none : inserted.higher ≡ [] = none_higher inserted.lower inserted.higher last id (subst (All (λ (c : NumberedClause). c.id.0 ≤ last)) inserted.were all) above inserted.all_higher in
    let same : old ≡ inserted.lower = inserted.were ∙ (ap (λ h. inserted.lower ++ h) none ∙ append-nil inserted.lower) in
    inserted.are ∙ (ap (λ h. inserted.lower ++ record { id = id; lits = lits } ∷ h) none ∙ ap (λ l. l ++ record { id = id; lits = lits } ∷ []) (sym same))

pub first_stay : (given : ℕ) (live more : List NumberedClause) → given ≤ length live → first_clauses given (live ++ more) ≡ first_clauses given live
first_stay given live more within = ap (map (λ (clause : NumberedClause). clause.lits)) (take-append-le given live more within)

drop_front : (given : ℕ) (live more : List NumberedClause) → given ≤ length live → drop given (live ++ more) ≡ drop given live ++ more
drop_front zero live more within = refl
drop_front (suc given) [] more within = absurd (omega arith)
drop_front (suc given) (clause ∷ live) more within = drop_front given live more (omega arith)

pub filled_push : (given : ℕ) (live : List NumberedClause) (clause : NumberedClause) → given ≤ length live → clause.lits ≢ [] → All (λ c. c.lits ≢ []) (drop given live) → All (λ c. c.lits ≢ []) (drop given (live ++ clause ∷ []))
filled_push given live clause within some filled = subst (All (λ (c : NumberedClause). c.lits ≢ [])) (sym (drop_front given live (clause ∷ []) within)) (All-push (λ (c : NumberedClause). c.lits ≢ []) (drop given live) clause filled some)

any_push : (P : NumberedClause → Type 0) (live : List NumberedClause) (clause : NumberedClause) → Any P live → Any P (live ++ clause ∷ [])
any_push P live clause any = (any.0, any.1, omega (arith, any.2, Rattle.std.proofs.lemmas.List.length_push live clause), Rattle.std.proofs.lemmas.List.get_or_append_left live (clause ∷ []) any.1 any.0 any.2 ∙ any.3, any.4)

pub units_push : (units : List Lit) (live : List NumberedClause) (clause : NumberedClause) → All (λ lit. Any (λ c. c.lits ≡ lit ∷ []) live) units → All (λ lit. Any (λ c. c.lits ≡ lit ∷ []) (live ++ clause ∷ [])) units
units_push units live clause all k d within = any_push (λ c. c.lits ≡ get_or units k d ∷ []) live clause (all k d within)

-- ---- numbers that rise
pub rising_push : (live : List NumberedClause) (clause : NumberedClause) → AllPairs (λ one later. one.id.0 < later.id.0) live → All (λ c. c.id.0 < clause.id.0) live → AllPairs (λ one later. one.id.0 < later.id.0) (live ++ clause ∷ [])
rising_push live clause rising below = all_pairs_push (λ (one later : NumberedClause). one.id.0 < later.id.0) live clause rising below

pub found_in : (live : List NumberedClause) → AllPairs (λ one later. one.id.0 < later.id.0) live → (k : ℕ) (d : NumberedClause) → k < length live → clause_of live (get_or live k d).id ≡ Some (get_or live k d).lits
found_in [] rising k d within = absurd (omega arith)
found_in (c ∷ live) rising zero d within = rw (eq-eqb c.id.0 c.id.0 refl) refl
found_in (c ∷ live) rising (suc k) d within =
    rw (ne_eqb c.id.0 (get_or live k d).id.0 (λ same. omega (arith, same, rising 0 (suc k) d (omega arith) within)))
    (found_in live (λ i j e low high. rising (suc i) (suc j) e (omega (arith, low)) (omega (arith, high))) k d (omega (arith, within)))

numbered_rises : (first : ℕ) (clauses : List (List Lit)) → AllPairs (λ one later. one.id.0 < later.id.0) (numbered_from first clauses)
numbered_rises first [] i j d low high = absurd (omega arith)
numbered_rises first (clause ∷ clauses) i zero d low high = absurd (omega (arith, low))
numbered_rises first (clause ∷ clauses) zero (suc j) d low high = omega (arith, numbered_least (first + 1) clauses j d (omega (arith, high)))
numbered_rises first (clause ∷ clauses) (suc i) (suc j) d low high = numbered_rises (first + 1) clauses i j d (omega (arith, low)) (omega (arith, high))

pub rising_numbered : (live : List NumberedClause) (clauses : List (List Lit)) → live ≡ numbered_from 1 clauses → AllPairs (λ one later. one.id.0 < later.id.0) live
rising_numbered live clauses is = subst (AllPairs (λ (one later : NumberedClause). one.id.0 < later.id.0)) (sym is) (numbered_rises 1 clauses)

-- ---- where the empty clause is fresh
empty_cases : (clauses : List NumberedClause) → All (λ c. c.lits ≢ []) clauses ⊎ Contains (map (λ (clause : NumberedClause). clause.lits) clauses) []
empty_cases [] = inl (All-nil (λ (c : NumberedClause). c.lits ≢ []))
empty_cases (clause ∷ clauses) = by_lits clause.lits refl (empty_cases clauses) where
  by_lits : (lits : List Lit) → clause.lits ≡ lits → (All (λ c. c.lits ≢ []) clauses ⊎ Contains (map (λ (c : NumberedClause). c.lits) clauses) []) → All (λ c. c.lits ≢ []) (clause ∷ clauses) ⊎ Contains (map (λ (c : NumberedClause). c.lits) (clause ∷ clauses)) []
  by_lits [] is rest = inr (0, omega arith, is)
  by_lits (lit ∷ lits) is (inl none) = inl (All-cons (λ (c : NumberedClause). c.lits ≢ []) clause clauses (λ same. absurd (cc)) none)
  by_lits (lit ∷ lits) is (inr some) = inr (suc some.0, omega (arith, some.1), some.2)

pub fresh_empty : (given : ℕ) (live : List NumberedClause) → All (λ c. c.lits ≢ []) (drop given live) → IsFresh (first_clauses given live) live []
unfolding IsFresh
fresh_empty given live filled = elim (empty_cases (take given live)) [
  | inl fine ↦ inl (subst (All (λ (c : NumberedClause). c.lits ≢ [])) (take-append-drop given live) (All-append (λ (c : NumberedClause). c.lits ≢ []) (take given live) (drop given live) fine filled))
  | inr some ↦ inr some
]
