-- A search and its live clauses, one event further; and why what is learned may come next.
use Rattle.std.proofs.Common.{◌≡◌, ◌≢◌, ℕ, ◌+◌, ◌<◌, ◌≤◌, inl, inr, List, [], ◌∷◌, ◌++◌, length, map, drop, get_or, refl, ap, sym, subst, ◌∙◌, arith}
use Rattle.std.specs.Prelude.{All, AllPairs, Any, Option, Some, None}
use Rattle.std.proofs.lemmas.Bool.{cases_eq}
use Rattle.std.proofs.lemmas.List.{length_push, take-append-le, get_or_push}
use Rattle.std.proofs.lemmas.List.Elements.{All-push}
use Rattle.std.proofs.lemmas.List.Quantifiers.{Any-push}
use Rattle.sat_core.specs.declared.literal.Lit.{Lit}
use Rattle.sat_core.specs.declared.literal.ClauseId.{ClauseId}
use Rattle.sat_core.specs.Clauses.{negated, IsClause}
use Rattle.sat_core.specs.Derivation.{adds, drops}
use Rattle.sat_core.specs.Hints.{NumberedClause, clause_of, hints_fault}
use Rattle.sat_core.specs.Fresh.{IsFresh}
use Rattle.sat_core.specs.Search.{Event, gives, derives, Search, search_of, after_event, after_events, next_number, IsLearned, log_of, units_of, adds_in}
use Rattle.sat_core.proofs.SearchLaws.{after_events-append, units_given, units_of-append, adds_given, log_of-append, adds_in-append}
use Rattle.search_trail.specs.Trails.{TrailParts}
use Rattle.conflict_learn.specs.Learning.{IsLearnedFrom}
use Rattle.conflict_learn.proofs.FreshLaws.{IsFresh-learned}
use Rattle.solver_face.specs.Solving.{Solving, IsSound, search_now, numbers_used}
use Rattle.watch_store.specs.Fits.{StoreParts, FitsTrail, AreShortTrue}
use Rattle.watch_store.proofs.FitLaws.{closed_below}
use Rattle.sat_core.proofs.LiveLaws.{clause_of-more}
use Rattle.watch_solver.specs.Running.{first_clauses, AreLiveOf, LastUnitStands, ClashTells}
use Rattle.watch_solver.proofs.LiveLemmas.{filled_push, units_push, rising_push, found_in, fresh_empty}

-- ---- what no event changes
vars_after_event : (s : Search) (event : Event) → (after_event s event).database.vars ≡ s.database.vars
vars_after_event s (gives lit) = refl
vars_after_event s (derives (adds id lits hints)) = refl
vars_after_event s (derives (drops ids)) = refl

vars_after : (s : Search) (events : List Event) → (after_events s events).database.vars ≡ s.database.vars
vars_after s [] = refl
vars_after s (event ∷ events) = vars_after (after_event s event) events ∙ vars_after_event s event

formula_after_event : (s : Search) (event : Event) → (after_event s event).formula ≡ s.formula
formula_after_event s (gives lit) = refl
formula_after_event s (derives (adds id lits hints)) = refl
formula_after_event s (derives (drops ids)) = refl

formula_after : (s : Search) (events : List Event) → (after_events s events).formula ≡ s.formula
formula_after s [] = refl
formula_after s (event ∷ events) = formula_after (after_event s event) events ∙ formula_after_event s event

pub vars_now : (s : Solving) → (search_now s).database.vars ≡ s.vars
vars_now s = vars_after (search_of s.vars s.formula) s.events

pub formula_now : (s : Solving) → (search_now s).formula ≡ s.formula
formula_now s = formula_after (search_of s.vars s.formula) s.events

-- ---- solvers that are seen alike
same_start : (a b : Solving) → a.vars ≡ b.vars → a.formula ≡ b.formula → search_of a.vars a.formula ≡ search_of b.vars b.formula
same_start a b vars formula = ap (λ v. search_of v a.formula) vars ∙ ap (search_of b.vars) formula

pub same_search : (a b : Solving) → a.vars ≡ b.vars → a.formula ≡ b.formula → a.events ≡ b.events → search_now a ≡ search_now b
same_search a b vars formula events = ap (λ s. after_events s a.events) (same_start a b vars formula) ∙ ap (after_events (search_of b.vars b.formula)) events

pub next_search : (a b : Solving) (event : Event) → b.vars ≡ a.vars → b.formula ≡ a.formula → b.events ≡ a.events ++ event ∷ [] → search_now b ≡ after_event (search_now a) event
next_search a b event vars formula events =
    ap (λ s. after_events s b.events) (same_start b a vars formula)
    ∙ (ap (after_events (search_of a.vars a.formula)) events ∙ after_events-append (search_of a.vars a.formula) a.events (event ∷ []))

pub same_sound : (a b : Solving) → b.vars ≡ a.vars → b.formula ≡ a.formula → b.events ≡ a.events → IsSound a → IsSound b
same_sound a b vars formula events sound = record {
  events =
      subst (λ (e : List Event). Rattle.sat_core.specs.Search.AreNext (search_of b.vars b.formula) e) (sym events)
      (subst (λ (s : Search). Rattle.sat_core.specs.Search.AreNext s a.events) (sym (same_start b a vars formula)) sound.events);
}

pub same_numbers_used : (a b : Solving) → b.formula ≡ a.formula → b.events ≡ a.events → numbers_used b ≡ numbers_used a
same_numbers_used a b formula events = ap (λ f. length f + length (units_of b.events) + adds_in (log_of b.events)) formula ∙ ap (λ e. length a.formula + length (units_of e) + adds_in (log_of e)) events

pub numbers_used_given : (a b : Solving) (lit : Lit) → b.formula ≡ a.formula → b.events ≡ a.events ++ gives lit ∷ [] → numbers_used b ≡ numbers_used a + 1
numbers_used_given a b lit formula events =
    let units : length (units_of b.events) ≡ length (units_of a.events) + 1 = ap (λ e. length (units_of e)) events ∙ (ap length (units_given a.events lit) ∙ length_push (units_of a.events) lit) in
    let added : adds_in (log_of b.events) ≡ adds_in (log_of a.events) = ap (λ e. adds_in (log_of e)) events ∙ adds_given a.events lit in
    let given : length b.formula ≡ length a.formula = ap length formula in
    omega arith

pub numbers_used_added : (a b : Solving) (id : ClauseId) (lits : List Lit) (hints : List ClauseId) → b.formula ≡ a.formula → b.events ≡ a.events ++ derives (adds id lits hints) ∷ [] → numbers_used b ≡ numbers_used a + 1
numbers_used_added a b id lits hints formula events =
    let step : Event = derives (adds id lits hints) in
    let units : length (units_of b.events) ≡ length (units_of a.events) = ap (λ e. length (units_of e)) events ∙ ap length (units_of-append a.events (step ∷ []) ∙ Rattle.std.proofs.lemmas.List.append-nil (units_of a.events)) in
    let added : adds_in (log_of b.events) ≡ adds_in (log_of a.events) + 1 = ap (λ e. adds_in (log_of e)) events ∙ (ap adds_in (log_of-append a.events (step ∷ [])) ∙ adds_in-append (log_of a.events) (adds id lits hints ∷ [])) in
    let given : length b.formula ≡ length a.formula = ap length formula in
    omega arith

-- ---- one live clause more
live_more : (search later : Search) (given last : ℕ) (events more : List Event) (live : List NumberedClause) (id : ClauseId) (lits : List Lit) → AreLiveOf search given last events live → later.database.live ≡ search.database.live ++ record { id = id; lits = lits } ∷ [] → later.database.last ≡ last + 1 → id.0 ≡ last + 1 → lits ≢ []
    → All (λ lit. Any (λ c. c.lits ≡ lit ∷ []) (live ++ record { id = id; lits = lits } ∷ [])) (units_of more) → LastUnitStands (live ++ record { id = id; lits = lits } ∷ []) later.last_unit → AreLiveOf later given (last + 1) more (live ++ record { id = id; lits = lits } ∷ [])
live_more search later given last events more live id lits was grew upto number some units unit =
    let clause : NumberedClause = record { id = id; lits = lits } in
    record {
      given_within = omega (arith, was.given_within, length_push live clause);
      numbered = All-push (λ (c : NumberedClause). c.id.0 ≤ last + 1) live clause (λ k d within. omega (arith, was.numbered k d within)) (omega (arith, number));
      same_live = grew ∙ ap (λ l. l ++ clause ∷ []) was.same_live;
      same_last = upto;
      filled = filled_push given live clause was.given_within some was.filled;
      units = units;
      front = subst (All (λ (c : NumberedClause). c.id.0 ≤ given)) (sym (take-append-le given live (clause ∷ []) was.given_within)) was.front;
      rising = rising_push live clause was.rising (λ k d within. omega (arith, was.numbered k d within, number));
      last_unit = unit;
    }

-- what is put behind is found under its number
new_found : (live : List NumberedClause) (id : ClauseId) (lits : List Lit) → AllPairs (λ one later. one.id.0 < later.id.0) (live ++ record { id = id; lits = lits } ∷ []) → clause_of (live ++ record { id = id; lits = lits } ∷ []) id ≡ Some lits
new_found live id lits rising =
    let clause : NumberedClause = record { id = id; lits = lits } in
    let at : get_or (live ++ clause ∷ []) (length live) clause ≡ clause = get_or_push live clause clause (length live) refl in
    ap (λ (c : NumberedClause). clause_of (live ++ clause ∷ []) c.id) (sym at) ∙ (found_in (live ++ clause ∷ []) rising (length live) clause (omega (arith, length_push live clause)) ∙ ap (λ (c : NumberedClause). Some c.lits) at)

pub live_given : (search : Search) (given last : ℕ) (events : List Event) (live : List NumberedClause) (id : ClauseId) (lit : Lit) → AreLiveOf search given last events live → id.0 ≡ last + 1 → AreLiveOf (after_event search (gives lit)) given (last + 1) (events ++ gives lit ∷ []) (live ++ record { id = id; lits = lit ∷ [] } ∷ [])
live_given search given last events live id lit was number =
    let clause : NumberedClause = record { id = id; lits = lit ∷ [] } in
    let same : record { 0 = next_number search } ≡ id = ap (λ n. record { 0 = n }) (omega (arith, number, was.same_last)) in
    live_more search (after_event search (gives lit)) given last events (events ++ gives lit ∷ []) live id (lit ∷ []) was
    (ap (λ (i : ClauseId). search.database.live ++ record { id = i; lits = lit ∷ [] } ∷ []) same)
    (omega (arith, was.same_last)) number (λ none. absurd (cc))
    (subst (All (λ u. Any (λ (c : NumberedClause). c.lits ≡ u ∷ []) (live ++ clause ∷ []))) (sym (units_given events lit))
    (All-push (λ u. Any (λ (c : NumberedClause). c.lits ≡ u ∷ []) (live ++ clause ∷ [])) (units_of events) lit (units_push (units_of events) live clause was.units) (Any-push (λ (c : NumberedClause). c.lits ≡ lit ∷ []) live clause refl)))
    (inr (lit, ap (clause_of (live ++ clause ∷ [])) same ∙ new_found live id (lit ∷ []) (rising_push live clause was.rising (λ k d within. omega (arith, was.numbered k d within, number)))))

pub live_added : (search : Search) (given last : ℕ) (events : List Event) (live : List NumberedClause) (id : ClauseId) (lits : List Lit) (hints : List ClauseId) → AreLiveOf search given last events live → id.0 ≡ last + 1 → lits ≢ [] → AreLiveOf (after_event search (derives (adds id lits hints))) given (last + 1) (events ++ derives (adds id lits hints) ∷ []) (live ++ record { id = id; lits = lits } ∷ [])
live_added search given last events live id lits hints was number some =
    let clause : NumberedClause = record { id = id; lits = lits } in
    let step : Event = derives (adds id lits hints) in
    live_more search (after_event search step) given last events (events ++ step ∷ []) live id lits was refl (omega (arith, number)) number some
    (subst (All (λ u. Any (λ (c : NumberedClause). c.lits ≡ u ∷ []) (live ++ clause ∷ []))) (sym (units_of-append events (step ∷ []) ∙ Rattle.std.proofs.lemmas.List.append-nil (units_of events)))
    (units_push (units_of events) live clause was.units))
    (elim was.last_unit [
      | inl none ↦ inl none
      | inr unit ↦ inr (unit.0, clause_of-more live clause (record { 0 = search.last_unit }) (unit.0 ∷ []) unit.1)
    ])

-- ---- what is learned may come next
pub short_above : (clash : Option ClauseId) (live : List NumberedClause) (t : TrailParts) → ClashTells clash live t → 0 < t.present → AreShortTrue live t
short_above None live t tells above = tells
short_above (Some id) live t tells above = absurd (omega (arith, above, tells.1))

fresh_learned : (given : ℕ) (s : StoreParts) (t : TrailParts) (clash : Option ClauseId) (lits : List Lit) (hints : List ClauseId) (level : ℕ) → All (λ c. c.lits ≢ []) (drop given s.live) → FitsTrail s t → ClashTells clash s.live t → IsLearnedFrom s.live t lits hints level → IsFresh (first_clauses given s.live) s.live lits
fresh_learned given s t clash lits hints level filled fits tells learned = elim (cases_eq t.present 0) [
  | inl bottom ↦ subst (IsFresh (first_clauses given s.live) s.live) (sym (learned.at_zero bottom)) (fresh_empty given s.live filled)
  | inr above ↦
      let high : 0 < t.present = omega arith in
      let head = learned.asserting high in
      IsFresh-learned (first_clauses given s.live) s.live t lits level fits.laws (closed_below s t level head.lower (short_above clash s.live t tells high) fits) head
]

pub learned_next : (search : Search) (given last : ℕ) (events : List Event) (s : StoreParts) (t : TrailParts) (clash : Option ClauseId) (id : ClauseId) (lits : List Lit) (hints : List ClauseId) (level : ℕ) → search.database.vars ≡ s.vars → search.formula ≡ first_clauses given s.live → AreLiveOf search given last events s.live → FitsTrail s t → ClashTells clash s.live t → id.0 ≡ last + 1 → IsLearnedFrom s.live t lits hints level → IsLearned search id lits hints
learned_next search given last events s t clash id lits hints level vars formula live fits tells number learned = record {
  numbered = omega (arith, number, live.same_last);
  accepted = record {
    in_order = omega (arith, number, live.same_last);
    clause = subst (λ n. IsClause n lits) (sym (vars ∙ fits.same_vars)) learned.clause;
    conflict = subst (λ (l : List NumberedClause). hints_fault l (map negated lits) hints ≡ None) (sym live.same_live) learned.accepted;
  };
  fresh =
      subst (λ (f : List (List Lit)). IsFresh f search.database.live lits) (sym formula)
      (subst (λ (l : List NumberedClause). IsFresh (first_clauses given s.live) l lits) (sym live.same_live) (fresh_learned given s t clash lits hints level live.filled fits tells learned));
}
