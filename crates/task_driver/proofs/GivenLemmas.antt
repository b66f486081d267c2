-- A search of a formula with a unit at its end is a search of the formula that is given the unit first.
use Rattle.std.proofs.Common.{◌≡◌, ◌≢◌, ℕ, ◌+◌, ◌<◌, ◌≤◌, ◌⊎◌, inl, inr, List, [], ◌∷◌, ◌++◌, length, get_or, refl, sym, ap, subst, ◌∙◌, arith}
use Rattle.std.specs.Prelude.{IsTrue}
use Rattle.std.proofs.lemmas.List.{length-append}
use Rattle.std.proofs.lemmas.List.Elements.{Contains-push_cases}
use Rattle.sat_core.specs.declared.literal.Lit.{Lit}
use Rattle.sat_core.specs.Clauses.{IsOver}
use Rattle.sat_core.specs.Hints.{NumberedClause}
use Rattle.sat_core.specs.Derivation.{adds, drops, ClauseDatabase, numbered_from, IsAcceptedAdd, IsAcceptedDrop, after as after_step}
use Rattle.sat_core.specs.Fresh.{IsFresh}
use Rattle.sat_core.specs.Search.{Event, gives, derives, Search, search_of, after_event, IsNext, AreNext, IsDropPlace}

-- the same live clauses, conflicts and last event; the one formula has a further clause that isn't empty, and only clauses
-- behind it may be dropped
record IsLike (one other : Search) (clause : List Lit) : Type 0 where
  database : one.database ≡ other.database
  conflicts : one.conflicts ≡ other.conflicts
  just_added : one.just_added ≡ other.just_added
  longer : one.formula ≡ other.formula ++ clause ∷ []
  not_empty : clause ≢ []
  last_unit : (other.last_unit ≤ length one.formula) ⊎ (other.last_unit ≡ one.last_unit)

fresh_like : (formula : List (List Lit)) (live : List NumberedClause) (clause lits : List Lit) → clause ≢ [] → IsFresh (formula ++ clause ∷ []) live lits → IsFresh formula live lits
unfolding IsFresh
fresh_like formula live clause [] some (inl none) = inl none
fresh_like formula live clause [] some (inr has) = elim (Contains-push_cases formula clause [] has) [ inl before ↦ inr before | inr is ↦ absurd (some is) ]
fresh_like formula live clause (lit ∷ lits) some fresh = fresh

after_like : (one other : Search) (clause : List Lit) (event : Event) → IsLike one other clause → IsLike (after_event one event) (after_event other event) clause
after_like one other clause (gives lit) like = record {
  database = ap (λ (d : ClauseDatabase). after_step d (adds (record { 0 = d.last + 1 }) (lit ∷ []) [])) like.database;
  conflicts = like.conflicts;
  just_added = refl;
  longer = like.longer;
  not_empty = like.not_empty;
  last_unit = inr (ap (λ (d : ClauseDatabase). d.last + 1) (sym like.database));
}
after_like one other clause (derives (adds id lits hints)) like = record {
  database = ap (λ (d : ClauseDatabase). after_step d (adds id lits hints)) like.database;
  conflicts = ap (λ (n : ℕ). n + 1) like.conflicts;
  just_added = refl;
  longer = like.longer;
  not_empty = like.not_empty;
  last_unit = like.last_unit;
}
after_like one other clause (derives (drops ids)) like = record {
  database = ap (λ (d : ClauseDatabase). after_step d (drops ids)) like.database;
  conflicts = like.conflicts;
  just_added = refl;
  longer = like.longer;
  not_empty = like.not_empty;
  last_unit = like.last_unit;
}

not_last : (id one other bound : ℕ) → (other ≤ bound) ⊎ (other ≡ one) → bound < id → id ≢ one → id ≢ other
not_last id one other bound (inl low) behind differs = λ same. omega arith
not_last id one other bound (inr is) behind differs = λ same. differs (same ∙ is)

next_like : (one other : Search) (clause : List Lit) (event : Event) → IsLike one other clause → IsNext one event → IsNext other event
next_like one other clause (gives lit) like next = subst (λ (d : ClauseDatabase). IsOver d.vars lit) like.database next
next_like one other clause (derives (adds id lits hints)) like next = record {
  numbered = next.numbered ∙ ap (λ (d : ClauseDatabase). d.last + 1) like.database;
  accepted = subst (λ (d : ClauseDatabase). IsAcceptedAdd d id lits hints) like.database next.accepted;
  fresh = fresh_like other.formula (other.database.live) clause lits like.not_empty
      (subst (λ (f : List (List Lit)). IsFresh f (other.database.live) lits) like.longer
      (subst (λ (d : ClauseDatabase). IsFresh one.formula (d.live) lits) like.database next.fresh));
}
next_like one other clause (derives (drops ids)) like next = record {
  accepted = subst (λ (d : ClauseDatabase). IsAcceptedDrop d ids) like.database next.accepted;
  directly = subst IsTrue like.just_added next.directly;
  in_place = subst IsDropPlace like.conflicts next.in_place;
  may_go = λ k d within.
      let may = next.may_go k d within in
      let longer : length one.formula ≡ length other.formula + 1 = ap length like.longer ∙ length-append other.formula (clause ∷ []) in
      (omega (arith, may.0), not_last (get_or ids k d).0 one.last_unit other.last_unit (length one.formula) like.last_unit may.0 may.1);
}

are_like : (one other : Search) (clause : List Lit) (events : List Event) → IsLike one other clause → AreNext one events → AreNext other events
are_like one other clause [] like are = tt
are_like one other clause (event ∷ events) like are = (next_like one other clause event like are.0, are_like (after_event one event) (after_event other event) clause events (after_like one other clause event like) are.1)

numbered_push : (first : ℕ) (formula : List (List Lit)) (clause : List Lit) → numbered_from first (formula ++ clause ∷ []) ≡ numbered_from first formula ++ record { id = record { 0 = first + length formula }; lits = clause } ∷ []
numbered_push first [] clause = ap (λ (n : ℕ). record { id = record { 0 = n }; lits = clause } ∷ []) (omega arith)
numbered_push first (c ∷ formula) clause =
    ap (λ (l : List NumberedClause). record { id = record { 0 = first }; lits = c } ∷ l)
    (numbered_push (first + 1) formula clause ∙ ap (λ (n : ℕ). numbered_from (first + 1) formula ++ record { id = record { 0 = n }; lits = clause } ∷ []) (omega arith))

-- the unit that ends a formula may as well be given first
pub given_first : (vars : ℕ) (formula : List (List Lit)) (lit : Lit) (events : List Event) → IsOver vars lit → AreNext (search_of vars (formula ++ (lit ∷ []) ∷ [])) events → AreNext (search_of vars formula) (gives lit ∷ events)
given_first vars formula lit events over are =
    let live : List NumberedClause = numbered_from 1 formula ++ record { id = record { 0 = length formula + 1 }; lits = lit ∷ [] } ∷ [] in
    let count : length (formula ++ (lit ∷ []) ∷ []) ≡ length formula + 1 = length-append formula ((lit ∷ []) ∷ []) in (
      over,
      are_like (search_of vars (formula ++ (lit ∷ []) ∷ [])) (after_event (search_of vars formula) (gives lit)) (lit ∷ []) events
          (record {
            database = ap (λ (n : ℕ). record { vars = vars; last = n; live = numbered_from 1 (formula ++ (lit ∷ []) ∷ []) }) count
                ∙ ap (λ (l : List NumberedClause). record { vars = vars; last = length formula + 1; live = l })
                (numbered_push 1 formula (lit ∷ []) ∙ ap (λ (n : ℕ). numbered_from 1 formula ++ record { id = record { 0 = n }; lits = lit ∷ [] } ∷ []) (omega arith));
            conflicts = refl;
            just_added = refl;
            longer = refl;
            not_empty = λ same. absurd (cc);
            last_unit = inl (omega arith);
          })
          are,
    )
