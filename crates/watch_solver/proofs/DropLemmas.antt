-- Live clauses of which some are dropped, and the state that this leaves.
use Rattle.std.proofs.Common.{◌≡◌, ◌≢◌, ℕ, zero, suc, ◌+◌, ◌*◌, ◌^◌, ◌<◌, ◌≤◌, Bool, true, false, not, ◌&&◌, ◌||◌, inl, inr, List, [], ◌∷◌, ◌++◌, length, take, drop, get_or, refl, ap, sym, subst, ◌∙◌, arith}
use Rattle.std.specs.Prelude.{IsTrue, IsSome, is_some, nat_eq, filter, find, option_map, All, AllPairs, Any, Contains, Option, Some, None}
use Rattle.std.specs.List.{list_any}
use Rattle.std.proofs.Math.Nat.{pow-suc}
use Rattle.std.proofs.lemmas.Bool.{cases_eq, ne_eqb, eqb-true}
use Rattle.std.proofs.lemmas.List.{length-append, take-append-drop, length-take-le, take_all}
use Rattle.std.proofs.lemmas.List.Kept.{AllPairs-filter}
use Rattle.std.proofs.lemmas.List.Elements.{All-nil, All-head, All-tail, All-filter, filter-append}
use Rattle.sat_core.specs.declared.literal.Lit.{Lit}
use Rattle.sat_core.specs.declared.literal.ClauseId.{ClauseId}
use Rattle.sat_core.specs.Hints.{NumberedClause, clause_of}
use Rattle.sat_core.specs.Derivation.{adds, drops}
use Rattle.sat_core.specs.Search.{Event, gives, derives, Search, search_of, after_event, after_events, IsDropped, IsDropPlace, log_of, units_of, adds_in}
use Rattle.sat_core.proofs.SearchLaws.{log_of-append, units_of-append}
use Rattle.search_trail.specs.declared.entry.Entry.{Entry}
use Rattle.search_trail.specs.Trails.{TrailParts}
use Rattle.solver_face.specs.Solving.{Solving, search_now, AddNoEmptyClause}
use Rattle.solver_face.proofs.SolvingLaws.{sound_more}
use Rattle.watch_store.specs.Fits.{StoreParts, FitsTrail, AreShortTrue}
use Rattle.watch_solver.specs.declared.state.State.{State}
use Rattle.watch_solver.specs.Running.{watch_solving, first_clauses, LogEnds, AreLiveOf, LastUnitStands, DropPlaceTells, ClashTells, IsRunning, IsWatchState}
use Rattle.watch_solver.specs.Dropping.{MayGo, AreToGo, without_ids, IsDropStep}
use Rattle.watch_solver.proofs.LiveLemmas.{found_in}
use Rattle.watch_solver.proofs.SearchLemmas.{formula_now, next_search}

-- whether the clause stays
abbrev stays : List ClauseId → NumberedClause → Bool
stays ids clause = not (list_any (λ id. nat_eq clause.id.0 id.0) ids)

-- ---- one id more
stays_push : (ids : List ClauseId) (id : ClauseId) (clause : NumberedClause) → stays (ids ++ id ∷ []) clause ≡ (stays ids clause && not (nat_eq clause.id.0 id.0))
stays_push [] id clause = elim (nat_eq clause.id.0 id.0) as (λ b. not (b || false) ≡ (true && not b)) [
  | true ↦ refl
  | false ↦ refl
]
stays_push (other ∷ ids) id clause = elim (nat_eq clause.id.0 other.0) as (λ b. not (b || list_any (λ i. nat_eq clause.id.0 i.0) (ids ++ id ∷ [])) ≡ (not (b || list_any (λ i. nat_eq clause.id.0 i.0) ids) && not (nat_eq clause.id.0 id.0))) [
  | true ↦ refl
  | false ↦ stays_push ids id clause
]

filter_both : (p q both : NumberedClause → Bool) → ((c : NumberedClause) → both c ≡ (p c && q c)) → (live : List NumberedClause) → filter q (filter p live) ≡ filter both live
filter_both p q both is [] = refl
filter_both p q both is (c ∷ live) = by_p (p c) refl (filter_both p q both is live) where
  by_q : (b : Bool) → q c ≡ b → p c ≡ true → filter q (filter p live) ≡ filter both live → filter q (c ∷ filter p live) ≡ filter both (c ∷ live)
  by_q true is_q is_p rest = rw (is_q, is c, is_p, is_q) (ap (λ l. c ∷ l) rest)
  by_q false is_q is_p rest = rw (is_q, is c, is_p, is_q) rest

  by_p : (b : Bool) → p c ≡ b → filter q (filter p live) ≡ filter both live → filter q (filter p (c ∷ live)) ≡ filter both (c ∷ live)
  by_p true is_p rest = rw (is_p) (by_q (q c) refl is_p rest)
  by_p false is_p rest = rw (is_p, is c, is_p) rest

pub without-push : (ids : List ClauseId) (id : ClauseId) (live : List NumberedClause) → filter (λ clause. not (nat_eq clause.id.0 id.0)) (without_ids ids live) ≡ without_ids (ids ++ id ∷ []) live
without-push ids id live = filter_both (stays ids) (λ clause. not (nat_eq clause.id.0 id.0)) (stays (ids ++ id ∷ [])) (stays_push ids id) live

pub without-none : (live : List NumberedClause) → without_ids [] live ≡ live
without-none [] = refl
without-none (c ∷ live) = ap (λ l. c ∷ l) (without-none live)

-- ---- the others are found as before
not_among : (ids : List ClauseId) (number : ℕ) → All (λ id. number ≢ id.0) ids → list_any (λ id. nat_eq number id.0) ids ≡ false
not_among [] number apart = refl
not_among (id ∷ ids) number apart = rw (ne_eqb number id.0 (All-head (λ (i : ClauseId). number ≢ i.0) id ids apart)) (not_among ids number (All-tail (λ (i : ClauseId). number ≢ i.0) id ids apart))

find_kept : (keep test : NumberedClause → Bool) → ((c : NumberedClause) → test c ≡ true → keep c ≡ true) → (live : List NumberedClause) → find test (filter keep live) ≡ find test live
find_kept keep test stay [] = refl
find_kept keep test stay (c ∷ live) = by_test (test c) refl (find_kept keep test stay live) where
  by_keep : (b : Bool) → keep c ≡ b → test c ≡ false → find test (filter keep live) ≡ find test live → find test (filter keep (c ∷ live)) ≡ find test live
  by_keep true is_keep is_test rest = rw (is_keep, is_test) rest
  by_keep false is_keep is_test rest = rw (is_keep) rest

  by_test : (b : Bool) → test c ≡ b → find test (filter keep live) ≡ find test live → find test (filter keep (c ∷ live)) ≡ find test (c ∷ live)
  by_test true is_test rest = rw (stay c is_test, is_test) refl
  by_test false is_test rest = rw (is_test) (by_keep (keep c) refl is_test rest)

pub clause_of-without : (ids : List ClauseId) (live : List NumberedClause) (id : ClauseId) → All (λ other. id.0 ≢ other.0) ids → clause_of (without_ids ids live) id ≡ clause_of live id
clause_of-without ids live id apart =
    ap (option_map (λ (c : NumberedClause). c.lits))
    (find_kept (stays ids) (λ c. nat_eq c.id.0 id.0) (λ c same. ap (λ n. not (list_any (λ i. nat_eq n i.0) ids)) (eqb-true c.id.0 id.0 same) ∙ ap not (not_among ids id.0 apart)) live)

-- ---- the formula's clauses stay
filter_whole : (keep : NumberedClause → Bool) (live : List NumberedClause) → All (λ c. keep c ≡ true) live → filter keep live ≡ live
filter_whole keep [] all = refl
filter_whole keep (c ∷ live) all = rw (All-head (λ (x : NumberedClause). keep x ≡ true) c live all) (ap (λ l. c ∷ l) (filter_whole keep live (All-tail (λ (x : NumberedClause). keep x ≡ true) c live all)))

pub without_front : (given : ℕ) (live : List NumberedClause) (ids : List ClauseId) → All (λ c. c.id.0 ≤ given) (take given live) → All (λ id. given < id.0) ids → without_ids ids live ≡ take given live ++ without_ids ids (drop given live)
without_front given live ids low behind =
    ap (filter (stays ids)) (sym (take-append-drop given live))
    ∙ (filter-append (stays ids) (take given live) (drop given live)
    ∙ ap (λ l. l ++ filter (stays ids) (drop given live))
    (filter_whole (stays ids) (take given live) (λ k d within. ap not (not_among ids (get_or (take given live) k d).id.0 (λ j i inside same. omega (arith, same, low k d within, behind j i inside))))))

-- ---- what stays
any_filter : (keep : NumberedClause → Bool) (P : NumberedClause → Type 0) (live : List NumberedClause) (k : ℕ) (c : NumberedClause) → k < length live → get_or live k c ≡ c → P c → keep c ≡ true → Any P (filter keep live)
any_filter keep P [] k c within is holds kept = absurd (omega arith)
any_filter keep P (x ∷ live) zero c within is holds kept =
    let here : keep x ≡ true = ap keep is ∙ kept in
    rw (here) (0, c, omega arith, is, holds)
any_filter keep P (x ∷ live) (suc k) c within is holds kept = by_keep (keep x) refl (any_filter keep P live k c (omega (arith, within)) is holds kept) where
  by_keep : (b : Bool) → keep x ≡ b → Any P (filter keep live) → Any P (filter keep (x ∷ live))
  by_keep true is_keep any = rw (is_keep) (suc any.0, any.1, omega (arith, any.2), any.3, any.4)
  by_keep false is_keep any = rw (is_keep) any

-- a live clause of one literal stays
pub unit_stays : (live : List NumberedClause) (entries : List Entry) (given : ℕ) (ids : List ClauseId) (id : ClauseId) (lit : Lit) → AreToGo live entries given ids → clause_of live id ≡ Some (lit ∷ []) → All (λ other. id.0 ≢ other.0) ids
unit_stays live entries given ids id lit go stands k d within same =
    let may = go.may_go k d within in
    let one : Some (lit ∷ []) ≡ Some may.lits = sym stands ∙ (ap (λ n. clause_of live (record { 0 = n })) same ∙ may.stands) in
    absurd (too_long may.lits one may.long) where
      too_long : (lits : List Lit) → Some (lit ∷ []) ≡ Some lits → 3 ≤ length lits → ⊥
      too_long lits one long = absurd (omega (arith, long, ap length (lits_same lits one))) where
        lits_same : (lits : List Lit) → Some (lit ∷ []) ≡ Some lits → lit ∷ [] ≡ lits
        lits_same lits one = cc

-- no clause that is dropped is the unit given last
pub not_last_unit : (live : List NumberedClause) (entries : List Entry) (given last_unit : ℕ) (ids : List ClauseId) → AreToGo live entries given ids → LastUnitStands live last_unit → All (λ id. id.0 ≢ last_unit) ids
not_last_unit live entries given last_unit ids go (inl none) k d within same = omega (arith, go.behind k d within, none, same)
not_last_unit live entries given last_unit ids go (inr unit) k d within same = unit_stays live entries given ids (record { 0 = last_unit }) unit.0 go unit.1 k d within (sym same)

last_unit_stays : (live : List NumberedClause) (entries : List Entry) (given last_unit : ℕ) (ids : List ClauseId) → AreToGo live entries given ids → LastUnitStands live last_unit → LastUnitStands (without_ids ids live) last_unit
last_unit_stays live entries given last_unit ids go (inl none) = inl none
last_unit_stays live entries given last_unit ids go (inr unit) = inr (unit.0, clause_of-without ids live (record { 0 = last_unit }) (unit_stays live entries given ids (record { 0 = last_unit }) unit.0 go unit.1) ∙ unit.1)

-- ---- the search when clauses are dropped
conflicts_after_event : (s : Search) (event : Event) → (after_event s event).conflicts ≡ s.conflicts + adds_in (log_of (event ∷ []))
conflicts_after_event s (gives lit) = omega arith
conflicts_after_event s (derives (adds id lits hints)) = refl
conflicts_after_event s (derives (drops ids)) = omega arith

conflicts_after : (s : Search) (events : List Event) → (after_events s events).conflicts ≡ s.conflicts + adds_in (log_of events)
conflicts_after s [] = omega arith
conflicts_after s (gives lit ∷ events) = conflicts_after (after_event s (gives lit)) events
conflicts_after s (derives (adds id lits hints) ∷ events) =
    let rest : (after_events (after_event s (derives (adds id lits hints))) events).conflicts ≡ s.conflicts + 1 + adds_in (log_of events) = conflicts_after (after_event s (derives (adds id lits hints))) events in
    omega (arith, rest)
conflicts_after s (derives (drops ids) ∷ events) = conflicts_after (after_event s (derives (drops ids))) events

pub conflicts_now : (s : Solving) → (search_now s).conflicts ≡ adds_in (log_of s.events)
conflicts_now s = let all : (search_now s).conflicts ≡ 0 + adds_in (log_of s.events) = conflicts_after (search_of s.vars s.formula) s.events in omega (arith, all)

pub dropped_next : (search : Search) (given last : ℕ) (events : List Event) (live : List NumberedClause) (entries : List Entry) (ids : List ClauseId) → search.formula ≡ first_clauses given live → AreLiveOf search given last events live → AreToGo live entries given ids → IsTrue search.just_added → IsDropPlace search.conflicts → IsDropped search ids
dropped_next search given last events live entries ids formula was go just place = record {
  accepted = record {
    all_live = λ k d within.
        let may = go.may_go k d within in
        subst (λ l. IsSome (clause_of l (get_or ids k d))) (sym was.same_live) (subst (λ (o : Option (List Lit)). IsSome o) (sym may.stands) refl);
    none_twice = λ i j d low high same. omega (arith, go.rising i j d low high, same);
  };
  directly = just;
  in_place = place;
  may_go = λ k d within.
      let long : length search.formula ≡ given = ap length formula ∙ (Rattle.std.proofs.lemmas.List.length-map (take given live) (λ (c : NumberedClause). c.lits) ∙ length-take-le given live was.given_within) in
      (omega (arith, long, go.behind k d within), not_last_unit live entries given search.last_unit ids go was.last_unit k d within);
}

-- ---- the live clauses without the dropped ones
first_without : (given : ℕ) (live : List NumberedClause) (ids : List ClauseId) → given ≤ length live → All (λ c. c.id.0 ≤ given) (take given live) → All (λ id. given < id.0) ids → (take given (without_ids ids live) ≡ take given live) × (drop given (without_ids ids live) ≡ without_ids ids (drop given live))
first_without given live ids within low behind =
    let whole = without_front given live ids low behind in
    let long : length (take given live) ≡ given = length-take-le given live within in
    (ap (take given) whole ∙ Rattle.std.proofs.lemmas.List.take_at (take given live) (without_ids ids (drop given live)) given long, ap (drop given) whole ∙ Rattle.std.proofs.lemmas.List.drop_at (take given live) (without_ids ids (drop given live)) given long)

pub formula_without : (given : ℕ) (live : List NumberedClause) (ids : List ClauseId) → given ≤ length live → All (λ c. c.id.0 ≤ given) (take given live) → All (λ id. given < id.0) ids → first_clauses given (without_ids ids live) ≡ first_clauses given live
formula_without given live ids within low behind = ap (Rattle.std.proofs.Common.map (λ (c : NumberedClause). c.lits)) (first_without given live ids within low behind).0

pub live_dropped : (search : Search) (given last : ℕ) (events : List Event) (live : List NumberedClause) (entries : List Entry) (ids : List ClauseId) → AreLiveOf search given last events live → AreToGo live entries given ids → AreLiveOf (after_event search (derives (drops ids))) given last (events ++ derives (drops ids) ∷ []) (without_ids ids live)
live_dropped search given last events live entries ids was go =
    let parts = first_without given live ids was.given_within was.front go.behind in
    let whole = without_front given live ids was.front go.behind in
    record {
      given_within = omega (arith, ap length whole, length-append (take given live) (without_ids ids (drop given live)), length-take-le given live was.given_within);
      numbered = All-filter (stays ids) (λ (c : NumberedClause). c.id.0 ≤ last) live was.numbered;
      same_live = ap (without_ids ids) was.same_live;
      same_last = was.same_last;
      filled = subst (All (λ (c : NumberedClause). c.lits ≢ [])) (sym parts.1) (All-filter (stays ids) (λ (c : NumberedClause). c.lits ≢ []) (drop given live) was.filled);
      units =
          subst (All (λ lit. Any (λ (c : NumberedClause). c.lits ≡ lit ∷ []) (without_ids ids live))) (sym (units_of-append events (derives (drops ids) ∷ []) ∙ Rattle.std.proofs.lemmas.List.append-nil (units_of events)))
          (λ k d within.
          let any = was.units k d within in
          let c : NumberedClause = any.1 in
          let lit : Lit = get_or (units_of events) k d in
          let stands : clause_of live c.id ≡ Some (lit ∷ []) = ap (λ (x : NumberedClause). clause_of live x.id) (sym any.3) ∙ (found_in live was.rising any.0 c any.2 ∙ ap (λ (x : NumberedClause). Some x.lits) any.3 ∙ ap (λ ls. Some ls) any.4) in
          any_filter (stays ids) (λ x. x.lits ≡ lit ∷ []) live any.0 c any.2 any.3 any.4 (ap not (not_among ids c.id.0 (unit_stays live entries given ids c.id lit go stands))));
      front = subst (All (λ (c : NumberedClause). c.id.0 ≤ given)) (sym parts.0) was.front;
      rising = AllPairs-filter (λ (one later : NumberedClause). one.id.0 < later.id.0) (stays ids) live was.rising;
      last_unit = last_unit_stays live entries given search.last_unit ids go was.last_unit;
    }

-- ---- the state without the dropped clauses
pub drop_state : (s n : State) (ids : List ClauseId) → IsWatchState s → s.refuted ≡ false → AreToGo s.store.live s.trail.entries s.given ids → IsTrue (search_now (watch_solving s false)).just_added → IsDropPlace (adds_in (log_of s.history)) → s.clash ≡ None
    → n.store.vars ≡ s.store.vars → n.store.live ≡ without_ids ids s.store.live → n.given ≡ s.given → n.last ≡ s.last → n.history ≡ s.history ++ derives (drops ids) ∷ [] → n.refuted ≡ s.refuted → n.clash ≡ s.clash → n.space ≡ s.space → n.valuation ≡ s.valuation → n.stamps ≡ s.stamps → n.trail ≡ s.trail → n.order ≡ s.order → FitsTrail n.store s.trail → DropPlaceTells n.drop_at → IsWatchState n × IsDropStep s n
drop_state s n ids state open_yet go just place no_clash vars live given last history refuted clash space valuation stamps trail order fits tells =
    let run : IsRunning s = state.running open_yet in
    let old : Solving = watch_solving s false in
    let new : Solving = watch_solving n false in
    let step : Event = derives (drops ids) in
    let formula : first_clauses n.given n.store.live ≡ first_clauses s.given s.store.live = ap (λ g. first_clauses g n.store.live) given ∙ (ap (first_clauses s.given) live ∙ formula_without s.given s.store.live ids run.live.given_within run.live.front go.behind) in
    let next : IsDropped (search_now old) ids = dropped_next (search_now old) s.given s.last s.history s.store.live s.trail.entries ids (formula_now old) run.live go just (subst IsDropPlace (sym (conflicts_now old)) place) in
    let search : search_now new ≡ after_event (search_now old) step = next_search old new step vars formula history in
    let log : log_of n.history ≡ log_of s.history ++ drops ids ∷ [] = ap log_of history ∙ log_of-append s.history (step ∷ []) in (
      record {
        sound = sound_more old new step state.sound next vars formula history;
        numbers =
            let units : length (units_of n.history) ≡ length (units_of s.history) = ap (λ e. length (units_of e)) history ∙ ap length (units_of-append s.history (step ∷ []) ∙ Rattle.std.proofs.lemmas.List.append-nil (units_of s.history)) in
            let added : adds_in (log_of n.history) ≡ adds_in (log_of s.history) + 0 = ap adds_in log ∙ Rattle.sat_core.proofs.SearchLaws.adds_in-append (log_of s.history) (drops ids ∷ []) in
            let many : length (first_clauses n.given n.store.live) ≡ length (first_clauses s.given s.store.live) = ap length formula in
            omega (arith, last, state.numbers, units, added, many);
        log_ends = subst (λ b. LogEnds b (log_of n.history)) (sym (refuted ∙ open_yet)) (subst AddNoEmptyClause (sym log) (Rattle.std.proofs.lemmas.List.Elements.All-push (λ (d : Rattle.sat_core.specs.Derivation.DerivedStep). ¬ Rattle.sat_core.specs.Derivation.AddsEmptyClause (Some d)) (log_of s.history) (drops ids) (subst (λ b. LogEnds b (log_of s.history)) open_yet state.log_ends) (λ bad. bad)));
        drop_place = tells;
        running = λ still. record {
          live =
              subst (λ x. AreLiveOf x n.given n.last n.history n.store.live) (sym search)
              (subst (λ x. AreLiveOf (after_event (search_now old) step) x n.last n.history n.store.live) (sym given)
              (subst (λ x. AreLiveOf (after_event (search_now old) step) s.given x n.history n.store.live) (sym last)
              (subst (λ x. AreLiveOf (after_event (search_now old) step) s.given s.last x n.store.live) (sym history)
              (subst (λ x. AreLiveOf (after_event (search_now old) step) s.given s.last (s.history ++ step ∷ []) x) (sym live)
              (live_dropped (search_now old) s.given s.last s.history s.store.live s.trail.entries ids run.live go)))));
          fits = subst (FitsTrail n.store) (sym trail) fits;
          waiting = subst (λ o. Rattle.activity_order.specs.Choices.OpenOnesWait o n.trail) (sym order) (subst (Rattle.activity_order.specs.Choices.OpenOnesWait s.order) (sym trail) run.waiting);
          space = space ∙ (run.space ∙ sym vars);
          values = ap (λ v. length v.values) valuation ∙ (run.values ∙ sym vars);
          stamps = ap (λ v. length v.items) stamps ∙ (run.stamps ∙ sym vars);
          clash =
              subst (λ c. ClashTells c n.store.live n.trail) (sym (clash ∙ no_clash))
              (subst (λ l. AreShortTrue l n.trail) (sym live)
              (subst (AreShortTrue (without_ids ids s.store.live)) (sym trail)
              (All-filter (stays ids) (λ (c : NumberedClause). length c.lits < 2 → Any (λ lit. Rattle.sat_core.specs.Hints.is_known (Rattle.search_trail.specs.Trails.up_to 0 s.trail.entries) lit ≡ true) c.lits) s.store.live (subst (λ c. ClashTells c s.store.live s.trail) no_clash run.clash))));
        };
      },
      record { same_vars = vars; same_formula = formula; same_last = last; same_refuted = refuted; tells = inr (ids, next, history) },
    )

-- ---- where clauses are dropped next
power_some : (j : ℕ) → 0 < 2 ^ j
power_some zero = omega arith
power_some (suc j) = omega (arith, power_some j, pow-suc 2 j)

pub drop_place_next : (place : ℕ) → IsDropPlace place → IsDropPlace (2 * place + 2000)
unfolding IsDropPlace
drop_place_next place at =
    let power : 2 ^ suc at.0 ≡ 2 ^ at.0 * 2 = pow-suc 2 at.0 in
    let some : 0 < 2 ^ at.0 = power_some at.0 in
    (suc at.0, omega arith, omega (arith, at.2, power, some))

pub first_drop : IsDropPlace 2000
unfolding IsDropPlace
first_drop = (1, omega arith, refl)

-- ---- behind a conflict
pub just_added_of : (s m n : State) → Rattle.watch_solver.specs.Running.IsLearnedStep s m → Rattle.watch_solver.specs.Running.IsSeenAlike m n → IsTrue (search_now (watch_solving n false)).just_added
just_added_of s m n met alike =
    let same : search_now (watch_solving n false) ≡ search_now (watch_solving m false) = Rattle.watch_solver.proofs.SearchLemmas.same_search (watch_solving n false) (watch_solving m false) alike.vars (ap (λ g. first_clauses g n.store.live) alike.given ∙ ap (first_clauses m.given) alike.live) alike.history in
    let after : search_now (watch_solving m false) ≡ after_event (search_now (watch_solving s false)) (derives (adds met.id met.lits met.hints)) = next_search (watch_solving s false) (watch_solving m false) (derives (adds met.id met.lits met.hints)) met.same_vars met.same_formula met.one_more in
    subst (λ (x : Search). IsTrue x.just_added) (sym (same ∙ after)) refl

pub dropped_searched : (s m n : State) (had left : ℕ) → Rattle.solver_face.specs.Solving.Searched (watch_solving s false) (watch_solving m false) had left → left < had → IsDropStep m n → Rattle.solver_face.specs.Solving.Searched (watch_solving s false) (watch_solving n false) had left
dropped_searched s m n had left searched less drop = elim drop.tells [
  | inl same ↦ Rattle.solver_face.proofs.SolvingLaws.searched_on (watch_solving s false) (watch_solving m false) (watch_solving n false) had left left searched (Rattle.watch_solver.proofs.StateLemmas.alike_searched m n left searched.sound drop.same_vars drop.same_formula same)
  | inr dropped ↦ Rattle.solver_face.proofs.SolvingLaws.searched_drop (watch_solving s false) (watch_solving m false) (watch_solving n false) had left dropped.0 searched less dropped.1 drop.same_vars drop.same_formula dropped.2
]

-- ---- choosing
reason_holds : (live : List NumberedClause) (front : List Lit) (lit : Lit) (reason : Option ClauseId) (id : ClauseId) (lits : List Lit) → reason ≡ Some id → clause_of live id ≡ Some lits → Rattle.search_trail.specs.Reasons.ReasonFits live front lit reason → Contains lits lit
reason_holds live front lit None id lits same stands fits = absurd (cc)
reason_holds live front lit (Some other) id lits same stands fits = subst (λ ls. Contains ls lit) (same_lits fits.lits (sym fits.stands ∙ (ap (clause_of live) (same_id other same) ∙ stands))) fits.holds where
  same_id : (one : ClauseId) → Some one ≡ Some id → one ≡ id
  same_id one is = cc

  same_lits : (one : List Lit) → Some one ≡ Some lits → one ≡ lits
  same_lits one is = cc

pub may_go_on : (s : StoreParts) (t : TrailParts) (id : ClauseId) (lits : List Lit) → FitsTrail s t → clause_of s.live id ≡ Some lits → 3 ≤ length lits → All (λ e. Contains lits e.lit → e.reason ≢ Some id) t.entries → MayGo s.live t.entries id
may_go_on s t id lits fits stands long apart = record {
  lits = lits;
  stands = stands;
  long = long;
  no_reason = λ k d within same. apart k d within (reason_holds s.live (Rattle.search_trail.specs.Trails.known_of (take k t.entries)) (get_or t.entries k d).lit (get_or t.entries k d).reason id lits same stands (fits.reasons k d within)) same;
}

-- the chosen ones so far, with numbers up to this
pub record AreChosenTo (live : List NumberedClause) (entries : List Entry) (given : ℕ) (ids : List ClauseId) (number : ℕ) : Type 0 where
  pub go : AreToGo live entries given ids
  pub upto : All (λ id. id.0 ≤ number) ids

pub chosen_none : (live : List NumberedClause) (entries : List Entry) (given number : ℕ) → AreChosenTo live entries given [] number
chosen_none live entries given number = record {
  go = record { behind = All-nil (λ (id : ClauseId). given < id.0); may_go = All-nil (MayGo live entries); rising = λ i j d low high. absurd (omega arith) };
  upto = All-nil (λ (id : ClauseId). id.0 ≤ number);
}

pub chosen_more : (live : List NumberedClause) (entries : List Entry) (given number : ℕ) (ids later : List ClauseId) (id : ClauseId) → later ≡ ids ++ id ∷ [] → id.0 ≡ number + 1 → given ≤ number → MayGo live entries id → AreChosenTo live entries given ids number → AreChosenTo live entries given later (number + 1)
chosen_more live entries given number ids later id is next from may was = subst (λ l. AreChosenTo live entries given l (number + 1)) (sym is) (record {
  go = record {
    behind = Rattle.std.proofs.lemmas.List.Elements.All-push (λ (x : ClauseId). given < x.0) ids id was.go.behind (omega (arith, next, from));
    may_go = Rattle.std.proofs.lemmas.List.Elements.All-push (MayGo live entries) ids id was.go.may_go may;
    rising = Rattle.std.proofs.lemmas.List.Quantifiers.all_pairs_push (λ (one other : ClauseId). one.0 < other.0) ids id was.go.rising (λ k d within. omega (arith, was.upto k d within, next));
  };
  upto = Rattle.std.proofs.lemmas.List.Elements.All-push (λ (x : ClauseId). x.0 ≤ number + 1) ids id (λ k d within. omega (arith, was.upto k d within)) (omega (arith, next));
})

pub chosen_skip : (live : List NumberedClause) (entries : List Entry) (given number : ℕ) (ids : List ClauseId) → AreChosenTo live entries given ids number → AreChosenTo live entries given ids (number + 1)
chosen_skip live entries given number ids was = record { go = was.go; upto = λ k d within. omega (arith, was.upto k d within) }

-- ---- discarding one after the other
pub record AreGone (first now : StoreParts) (t : TrailParts) (ids : List ClauseId) : Type 0 where
  pub vars : now.vars ≡ first.vars
  pub live : now.live ≡ without_ids ids first.live
  pub fits : FitsTrail now t

pub gone_none : (s : StoreParts) (t : TrailParts) → FitsTrail s t → AreGone s s t []
gone_none s t fits = record { vars = refl; live = sym (without-none s.live); fits = fits }

gone_apart : (ids : List ClauseId) (k : ℕ) (d : ClauseId) → AllPairs (λ one later. one.0 < later.0) ids → k < length ids → All (λ other. (get_or ids k d).0 ≢ other.0) (take k ids)
gone_apart ids k d rising within j e inside same =
    let low : j < k = omega (arith, inside, length-take-le k ids (omega (arith, within))) in
    omega (arith, same, ap (λ (i : ClauseId). i.0) (Rattle.std.proofs.lemmas.List.get_or-take k ids j e low), ap (λ (i : ClauseId). i.0) (Rattle.std.proofs.lemmas.List.get_or_default ids j e d (omega (arith, low, within))), rising j k d low within)

pub gone_live : (first now : StoreParts) (t : TrailParts) (ids : List ClauseId) (given k : ℕ) (d : ClauseId) → AreToGo first.live t.entries given ids → k < length ids → AreGone first now t (take k ids) → clause_of now.live (get_or ids k d) ≢ None
gone_live first now t ids given k d go within was none =
    let may = go.may_go k d within in
    some_is_none may.lits (sym may.stands ∙ (sym (clause_of-without (take k ids) first.live (get_or ids k d) (gone_apart ids k d go.rising within)) ∙ (ap (λ l. clause_of l (get_or ids k d)) (sym was.live) ∙ none))) where
      some_is_none : (lits : List Lit) → Some lits ≡ None → ⊥
      some_is_none lits same = cc

pub gone_more : (first now later : StoreParts) (t : TrailParts) (ids : List ClauseId) (given k : ℕ) (d : ClauseId) → AreToGo first.live t.entries given ids → k < length ids → later.vars ≡ now.vars → later.live ≡ filter (λ clause. not (nat_eq clause.id.0 (get_or ids k d).0)) now.live → ((u : TrailParts) → FitsTrail now u → All (λ e. e.reason ≢ Some (get_or ids k d)) u.entries → FitsTrail later u) → AreGone first now t (take k ids) → AreGone first later t (take (k + 1) ids)
gone_more first now later t ids given k d go within vars live fits was = record {
  vars = vars ∙ was.vars;
  live = live ∙ (ap (filter (λ clause. not (nat_eq clause.id.0 (get_or ids k d).0))) was.live ∙ (without-push (take k ids) (get_or ids k d) first.live ∙ ap (λ l. without_ids l first.live) (sym (Rattle.std.proofs.lemmas.List.take_more ids k d within))));
  fits = fits t was.fits (go.may_go k d within).no_reason;
}

pub gone_all : (first now : StoreParts) (t : TrailParts) (ids : List ClauseId) (k : ℕ) → length ids ≤ k → AreGone first now t (take k ids) → AreGone first now t ids
gone_all first now t ids k all was = subst (AreGone first now t) (take_all k ids all) was

-- ---- whether a clause is a reason
abbrev pub NoReasonTo : List Lit → List Entry → ClauseId → ℕ → Type 0
NoReasonTo lits entries id upto = (j : ℕ) (d : Lit) → j < upto → All (λ e. e.lit ≡ get_or lits j d → e.reason ≢ Some id) entries

pub no_reason_more : (lits : List Lit) (entries : List Entry) (id : ClauseId) (upto : ℕ) (lit d0 : Lit) (reason : Option ClauseId) → upto < length lits → get_or lits upto d0 ≡ lit → All (λ e. e.lit.var.0 ≡ lit.var.0 → e.reason ≡ reason) entries → reason ≢ Some id → NoReasonTo lits entries id upto → NoReasonTo lits entries id (upto + 1)
no_reason_more lits entries id upto lit d0 reason within here tells other was j d low = elim (cases_eq j upto) [
  | inr before ↦ was j d (omega (arith, low, before))
  | inl is ↦ λ k e inside same because.
      let at : get_or lits j d ≡ lit = ap (λ n. get_or lits n d) is ∙ (Rattle.std.proofs.lemmas.List.get_or_default lits upto d d0 within ∙ here) in
      other (sym (tells k e inside (ap (λ (l : Lit). l.var.0) (same ∙ at))) ∙ because)
]

pub no_reason_all : (lits : List Lit) (entries : List Entry) (id : ClauseId) (upto : ℕ) → length lits ≤ upto → NoReasonTo lits entries id upto → All (λ e. Contains lits e.lit → e.reason ≢ Some id) entries
no_reason_all lits entries id upto all was k d within holds = was holds.0 (get_or entries k d).lit (omega (arith, all, holds.1)) k d within (sym holds.2)

pub apart_ids : (one other : ClauseId) → one.0 ≢ other.0 → Some one ≢ Some other
apart_ids one other apart same = apart (ids_same same) where
  ids_same : Some one ≡ Some other → one.0 ≡ other.0
  ids_same is = cc

-- ---- the state where nothing is dropped
pub no_drop_step : (s n : State) → Rattle.watch_solver.specs.Running.IsSeenAlike s n → IsDropStep s n
no_drop_step s n alike = record { same_vars = alike.vars; same_formula = ap (λ g. first_clauses g n.store.live) alike.given ∙ ap (first_clauses s.given) alike.live; same_last = alike.last; same_refuted = alike.refuted; tells = inl alike.history }

pub place_of_tells : (place : ℕ) → place ≢ 0 → DropPlaceTells place → IsDropPlace place
place_of_tells place some (inl none) = absurd (some none)
place_of_tells place some (inr is) = is

pub none_where_not : {X : Type 0} (r : Option X) → is_some r ≡ false → r ≡ None
none_where_not None not_some = refl
none_where_not (Some x) not_some = absurd (cc)
