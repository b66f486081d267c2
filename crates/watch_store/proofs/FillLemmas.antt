-- The clauses of a formula, put one after another.
use Rattle.std.proofs.Common.{◌≡◌, ℕ, zero, suc, ◌+◌, ◌-◌, ◌<◌, ◌≤◌, List, [], ◌∷◌, ◌++◌, length, take, get_or, inl, refl, ap, sym, subst, ◌∙◌, arith}
use Rattle.std.specs.Prelude.{All, Some, None, slice_get}
use Rattle.std.proofs.lemmas.List.{take_more, length-take-le, take_all}
use Rattle.std.proofs.lemmas.List.Elements.{All-nil, All-cons}
use Rattle.sat_core.specs.declared.literal.Lit.{Lit}
use Rattle.sat_core.specs.Clauses.{IsClause}
use Rattle.sat_core.specs.Hints.{NumberedClause, clause_of}
use Rattle.sat_core.specs.Derivation.{numbered_from}
use Rattle.search_trail.proofs.ReasonLaws.{apart-eqb, numbered-push}
use Rattle.watch_store.specs.Places.{IsInserted}
use Rattle.watch_store.specs.Fits.{IsPair}
use Rattle.watch_store.proofs.LiveLaws.{IsInserted-last}

numbered_free : (first number : ℕ) (clauses : List (List Lit)) → first + length clauses ≤ number → clause_of (numbered_from first clauses) (record { 0 = number }) ≡ None
numbered_free first number [] above = refl
numbered_free first number (clause ∷ clauses) above = rw (apart-eqb first number (λ same. omega (arith, same, above))) (numbered_free (first + 1) number clauses (omega (arith, above)))

numbered_below : (first last : ℕ) (clauses : List (List Lit)) → first + length clauses ≤ last → All (λ c. c.id.0 < last) (numbered_from first clauses)
numbered_below first last [] below = All-nil (λ (c : NumberedClause). c.id.0 < last)
numbered_below first last (clause ∷ clauses) below = All-cons (λ (c : NumberedClause). c.id.0 < last) (record { id = record { 0 = first }; lits = clause }) (numbered_from (first + 1) clauses) (omega (arith, below)) (numbered_below (first + 1) last clauses (omega (arith, below)))

-- the next number is free
pub next_free : (clauses : List (List Lit)) (place : ℕ) (live : List NumberedClause) → place ≤ length clauses → live ≡ numbered_from 1 (take place clauses) → clause_of live (record { 0 = place + 1 }) ≡ None
next_free clauses place live within is = ap (λ l. clause_of l (record { 0 = place + 1 })) is ∙ numbered_free 1 (place + 1) (take place clauses) (omega (arith, length-take-le place clauses within))

read_at : (clauses : List (List Lit)) (place : ℕ) (lits : List Lit) → slice_get clauses place ≡ Some lits → (d : List Lit) → get_or clauses place d ≡ lits
read_at [] place lits found d = absurd (cc)
read_at (clause ∷ clauses) zero lits found d = cc
read_at (clause ∷ clauses) (suc place) lits found d = read_at clauses place lits found d

-- the clauses so far with the next one
pub one_more : (clauses : List (List Lit)) (place : ℕ) (lits : List Lit) (live live' : List NumberedClause) → place < length clauses → slice_get clauses (place + 1 - 1) ≡ Some lits → live ≡ numbered_from 1 (take place clauses) → IsInserted (record { 0 = place + 1 }) lits live live' → live' ≡ numbered_from 1 (take (place + 1) clauses)
one_more clauses place lits live live' within found is inserted =
    let front : List (List Lit) = take place clauses in
    let long : length front ≡ place = length-take-le place clauses (omega (arith, within)) in
    let at : place + 1 - 1 ≡ place = omega arith in
    let lits_are : get_or clauses place [] ≡ lits = read_at clauses place lits (ap (slice_get clauses) (sym at) ∙ found) [] in
    let below : All (λ (c : NumberedClause). c.id.0 < place + 1) live = subst (All (λ (c : NumberedClause). c.id.0 < place + 1)) (sym is) (numbered_below 1 (place + 1) front (omega (arith, long))) in
    let last : live' ≡ live ++ record { id = record { 0 = place + 1 }; lits = lits } ∷ [] = IsInserted-last (record { 0 = place + 1 }) lits live live' below inserted in
    let number : place + 1 ≡ 1 + length front = omega (arith, long) in
    let whole : take (place + 1) clauses ≡ front ++ lits ∷ [] = take_more clauses place [] within ∙ ap (λ ls. front ++ ls ∷ []) lits_are in
    last ∙ (ap (λ l. l ++ record { id = record { 0 = place + 1 }; lits = lits } ∷ []) is
    ∙ (ap (λ n. numbered_from 1 front ++ record { id = record { 0 = n }; lits = lits } ∷ []) number
    ∙ (sym (numbered-push 1 front lits) ∙ ap (numbered_from 1) (sym whole))))

pub all_numbered : (clauses : List (List Lit)) (count : ℕ) (live : List NumberedClause) → length clauses ≤ count → live ≡ numbered_from 1 (take count clauses) → live ≡ numbered_from 1 clauses
all_numbered clauses count live all is = is ∙ ap (numbered_from 1) (take_all count clauses all)

-- the first two literals of a clause differ
pub first_pair : (vars : ℕ) (lits : List Lit) (first second : Lit) → IsClause vars lits → 2 ≤ length lits → ((d : Lit) → get_or lits 0 d ≡ first) → ((d : Lit) → get_or lits 1 d ≡ second) → IsPair vars lits first second
first_pair vars lits first second clause many at_first at_second =
    inl (λ same. clause.no_variable_twice 0 1 first (omega arith) (omega (arith, many)) (ap (λ (l : Lit). l.var.0) (at_first first ∙ (same ∙ sym (at_second first)))), ((0, omega (arith, many), at_first first), (1, omega (arith, many), at_second second)))
