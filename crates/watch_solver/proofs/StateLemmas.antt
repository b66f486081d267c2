-- The watch solver's state keeps what holds of it: at its beginning, where it is seen alike, with a unit and with a learned clause.
use Rattle.std.proofs.Common.{◌≡◌, ◌≢◌, ℕ, ◌+◌, ◌<◌, ◌≤◌, Bool, true, false, inl, List, [], ◌∷◌, ◌++◌, length, take, drop, min, refl, ap, sym, subst, ◌∙◌, arith}
use Rattle.std.specs.Prelude.{All, Any, Option, Some, None, Ok, Err}
use Rattle.std.proofs.lemmas.List.{drop_all, length-take-le}
use Rattle.std.proofs.lemmas.List.Elements.{All-nil, All-take}
use Rattle.sat_core.specs.declared.literal.Lit.{Lit}
use Rattle.sat_core.specs.declared.literal.ClauseId.{ClauseId}
use Rattle.sat_core.specs.Clauses.{negated, IsOver}
use Rattle.sat_core.specs.Derivation.{DerivedStep, AddsEmptyClause, numbered_from}
use Rattle.sat_core.specs.Hints.{NumberedClause, clause_of, is_known}
use Rattle.sat_core.specs.Search.{Event, gives, Search, search_of, after_event, log_of, units_of}
use Rattle.sat_core.proofs.LiveLaws.{clause_of-more}
use Rattle.sat_core.proofs.SearchLaws.{log_given}
use Rattle.search_trail.specs.declared.entry.Entry.{Entry}
use Rattle.search_trail.specs.Trails.{TrailParts, IsTrail, IsCutBack, Grows, known_of}
use Rattle.search_trail.proofs.TrailLaws.{IsTrail-cut}
use Rattle.conflict_learn.specs.Learning.{IsConflict}
use Rattle.solver_face.specs.Solving.{Solving, IsSound, search_now, numbers_used, Searched, IsRefuted, IsAnswer, EndsInAdd}
use Rattle.solver_face.specs.declared.answer.Answer.TheVariants as answer
use Rattle.solver_face.proofs.SolvingLaws.{sound_more, searched_none, searched_add}
use Rattle.activity_order.specs.Choices.{OpenOnesWait, IsNextDecision}
use Rattle.activity_order.proofs.WaitLaws.{wait_grown}
use Rattle.watch_store.specs.Places.{IsInserted}
use Rattle.watch_store.specs.Fits.{StoreParts, FitsTrail, AreShortTrue}
use Rattle.watch_store.proofs.FitLaws.{FitsTrail-cut, FitsTrail-decide, AreShortTrue-cut}
use Rattle.watch_store.proofs.LiveLaws.{AreShortTrue-inserted}
use Rattle.watch_solver.specs.declared.state.State.{State}
use Rattle.watch_solver.specs.Running.{watch_solving, first_clauses, LogEnds, DropPlaceTells, AreLiveOf, ClashTells, IsRunning, IsWatchState, IsLearnedStep, IsSeenAlike}
use Rattle.watch_solver.proofs.LiveLemmas.{first_of_numbered, numbered_upto, rising_numbered, length_numbered, pushed_live, first_stay}
use Rattle.watch_solver.proofs.SearchLemmas.{vars_now, same_search, next_search, same_sound, same_numbers_used, numbers_used_given, live_given}
use Rattle.watch_solver.proofs.SeatLemmas.{IsSeated, short_grown, conflict_grown, cut_bottom}

-- ---- the trail that has gone back
back_laws : (t t' : TrailParts) (level : ℕ) → IsTrail t → level ≤ t.present → t'.vars ≡ t.vars → IsCutBack level t.entries t'.entries → t'.read ≡ min t.read (length t'.entries) → t'.present ≡ level → IsTrail t'
back_laws t t' level laws low vars cut read present =
    let long : length t'.entries ≡ cut.size = ap length cut.front ∙ length-take-le cut.size t.entries cut.within in
    let make : ℕ → List Entry → ℕ → ℕ → TrailParts = λ v es r p. record { vars = v; entries = es; read = r; present = p } in
    let kept = subst (All (λ (e : Entry). e.level ≤ level)) cut.front cut.kept in
    let is : t' ≡ make t.vars (take cut.size t.entries) (min t.read cut.size) level =
    ap (λ v. make v t'.entries t'.read t'.present) vars
    ∙ (ap (λ es. make t.vars es t'.read t'.present) cut.front
    ∙ (ap (λ r. make t.vars (take cut.size t.entries) r t'.present) (read ∙ ap (min t.read) long)
    ∙ ap (make t.vars (take cut.size t.entries) (min t.read cut.size)) present)) in
    subst IsTrail (sym is) (IsTrail-cut t cut.size level laws cut.within kept cut.gone low)

pub fits_back : (s : StoreParts) (t t' : TrailParts) (level : ℕ) → level ≤ t.present → t'.vars ≡ t.vars → IsCutBack level t.entries t'.entries → t'.read ≡ min t.read (length t'.entries) → t'.present ≡ level → FitsTrail s t → FitsTrail s t'
fits_back s t t' level low vars cut read present fits = FitsTrail-cut s t t' level low (back_laws t t' level fits.laws low vars cut read present) vars cut read present fits

-- a slice that was lent by a vector, and comes back
pub lent_long : {X : Type 0} (n : ℕ) (new old : List X) → length new ≡ n → length (take n (new ++ drop (length new) old)) ≡ length new
lent_long n new old is = ap length (Rattle.std.proofs.lemmas.List.take_at new (drop (length new) old) n is)

pub some_long : (lits : List Lit) → lits ≢ [] → 0 < length lits
some_long [] some = absurd (some refl)
some_long (lit ∷ lits) some = omega arith

-- ---- seen alike
pub solving_same : (s n : State) → n.store.vars ≡ s.store.vars → first_clauses n.given n.store.live ≡ first_clauses s.given s.store.live → n.history ≡ s.history → n.found ≡ s.found → n.valuation.values ≡ s.valuation.values → watch_solving n false ≡ watch_solving s false
solving_same s n vars formula history found values =
    let make : ℕ → List (List Lit) → List Event → Bool → List Bool → Solving = λ v f h b vs. record { vars = v; formula = f; events = h; found = Rattle.std.specs.Prelude.cond b (Some vs) None; starved = false } in
    ap (λ v. make v (first_clauses n.given n.store.live) n.history n.found n.valuation.values) vars
    ∙ (ap (λ f. make s.store.vars f n.history n.found n.valuation.values) formula
    ∙ (ap (λ h. make s.store.vars (first_clauses s.given s.store.live) h n.found n.valuation.values) history
    ∙ (ap (λ b. make s.store.vars (first_clauses s.given s.store.live) s.history b n.valuation.values) found
    ∙ ap (make s.store.vars (first_clauses s.given s.store.live) s.history s.found) values)))

pub formula_alike : (s n : State) → n.store.live ≡ s.store.live → n.given ≡ s.given → first_clauses n.given n.store.live ≡ first_clauses s.given s.store.live
formula_alike s n live given = ap (λ g. first_clauses g n.store.live) given ∙ ap (first_clauses s.given) live

pub sound_alike : (s n : State) → IsSound (watch_solving s false) → n.store.vars ≡ s.store.vars → n.store.live ≡ s.store.live → n.given ≡ s.given → n.history ≡ s.history → IsSound (watch_solving n false)
sound_alike s n sound vars live given history = same_sound (watch_solving s false) (watch_solving n false) vars (formula_alike s n live given) history sound

live_alike : (s n : State) → IsSeenAlike s n → AreLiveOf (search_now (watch_solving s false)) s.given s.last s.history s.store.live → AreLiveOf (search_now (watch_solving n false)) n.given n.last n.history n.store.live
live_alike s n alike live =
    let search : search_now (watch_solving n false) ≡ search_now (watch_solving s false) = same_search (watch_solving n false) (watch_solving s false) alike.vars (formula_alike s n alike.live alike.given) alike.history in
    subst (λ x. AreLiveOf x n.given n.last n.history n.store.live) (sym search)
    (subst (λ x. AreLiveOf (search_now (watch_solving s false)) x n.last n.history n.store.live) (sym alike.given)
    (subst (λ x. AreLiveOf (search_now (watch_solving s false)) s.given x n.history n.store.live) (sym alike.last)
    (subst (λ x. AreLiveOf (search_now (watch_solving s false)) s.given s.last x n.store.live) (sym alike.history)
    (subst (λ x. AreLiveOf (search_now (watch_solving s false)) s.given s.last s.history x) (sym alike.live) live))))

pub alike_state : (s n : State) → IsWatchState s → IsSeenAlike s n → DropPlaceTells n.drop_at → (s.refuted ≡ false → IsRunning n) → IsWatchState n
alike_state s n state alike place running = record {
  drop_place = place;
  sound = sound_alike s n state.sound alike.vars alike.live alike.given alike.history;
  numbers = alike.last ∙ (state.numbers ∙ sym (same_numbers_used (watch_solving s false) (watch_solving n false) (formula_alike s n alike.live alike.given) alike.history));
  log_ends = subst (λ b. LogEnds b (log_of n.history)) (sym alike.refuted) (subst (λ es. LogEnds s.refuted (log_of es)) (sym alike.history) state.log_ends);
  running = λ open_yet. running (sym alike.refuted ∙ open_yet);
}

pub alike_running : (s n : State) → IsSeenAlike s n → IsRunning s → FitsTrail n.store n.trail → OpenOnesWait n.order n.trail → n.space ≡ s.space → length n.valuation.values ≡ length s.valuation.values → length n.stamps.items ≡ length s.stamps.items → ClashTells n.clash n.store.live n.trail → IsRunning n
alike_running s n alike running fits waiting space values stamps clash = record {
  live = live_alike s n alike running.live;
  fits = fits;
  waiting = waiting;
  space = space ∙ (running.space ∙ sym alike.vars);
  values = values ∙ (running.values ∙ sym alike.vars);
  stamps = stamps ∙ (running.stamps ∙ sym alike.vars);
  clash = clash;
}

-- ---- at first
pub begin_state : (n : State) (clauses : List (List Lit)) → n.store.live ≡ numbered_from 1 clauses → n.given ≡ length clauses → n.last ≡ n.given → n.history ≡ [] → FitsTrail n.store n.trail → OpenOnesWait n.order n.trail → n.space ≡ n.store.vars → length n.valuation.values ≡ n.store.vars → length n.stamps.items ≡ n.store.vars → n.refuted ≡ false → ClashTells n.clash n.store.live n.trail → DropPlaceTells n.drop_at → IsWatchState n
begin_state n clauses live given last history fits waiting space values stamps refuted clash place =
    let formula : first_clauses n.given n.store.live ≡ clauses = first_of_numbered n.given n.store.live clauses live given in
    let long : length n.store.live ≡ n.given = ap length live ∙ (length_numbered 1 clauses ∙ sym given) in
    let start : search_of n.store.vars clauses ≡ search_now (watch_solving n false) = ap (search_of n.store.vars) (sym formula) ∙ ap (Rattle.sat_core.specs.Search.after_events (search_of n.store.vars (first_clauses n.given n.store.live))) (sym history) in
    record {
      sound = record { events = subst (λ es. Rattle.sat_core.specs.Search.AreNext (search_of n.store.vars (first_clauses n.given n.store.live)) es) (sym history) tt };
      numbers =
          let many : length (first_clauses n.given n.store.live) ≡ n.given = ap length formula ∙ sym given in
          let whole : numbers_used (watch_solving n false) ≡ length (first_clauses n.given n.store.live) + 0 + 0 = ap (λ es. length (first_clauses n.given n.store.live) + length (units_of es) + Rattle.sat_core.specs.Search.adds_in (log_of es)) history in
          omega (arith, many, whole, last);
      log_ends = subst (λ b. LogEnds b (log_of n.history)) (sym refuted) (subst (λ es. LogEnds false (log_of es)) (sym history) (All-nil (λ (step : DerivedStep). ¬ AddsEmptyClause (Some step))));
      drop_place = place;
      running = λ open_yet. record {
        live = subst (λ x. AreLiveOf x n.given n.last n.history n.store.live) start (record {
          given_within = omega (arith, long);
          numbered = numbered_upto n.last n.store.live clauses live (last ∙ given);
          same_live = sym live;
          same_last = sym (last ∙ given);
          filled = subst (All (λ (c : NumberedClause). c.lits ≢ [])) (sym (drop_all n.given n.store.live (omega (arith, long)))) (All-nil (λ (c : NumberedClause). c.lits ≢ []));
          units = subst (λ es. All (λ lit. Any (λ (c : NumberedClause). c.lits ≡ lit ∷ []) n.store.live) (units_of es)) (sym history) (All-nil (λ (lit : Lit). Any (λ (c : NumberedClause). c.lits ≡ lit ∷ []) n.store.live));
          front = All-take (λ (c : NumberedClause). c.id.0 ≤ n.given) n.given n.store.live (numbered_upto n.given n.store.live clauses live given);
          rising = rising_numbered n.store.live clauses live;
          last_unit = inl refl;
        });
        fits = fits;
        waiting = waiting;
        space = space;
        values = values;
        stamps = stamps;
        clash = clash;
      };
    }

-- ---- one live clause more
above_all : (live : List NumberedClause) (last : ℕ) (id : ClauseId) → All (λ c. c.id.0 ≤ last) live → id.0 ≡ last + 1 → last < id.0
above_all live last id all number = omega (arith, number)

pub formula_inserted : (given last given' : ℕ) (id : ClauseId) (lits : List Lit) (old new : List NumberedClause) → given ≤ length old → All (λ c. c.id.0 ≤ last) old → id.0 ≡ last + 1 → IsInserted id lits old new → given' ≡ given → first_clauses given' new ≡ first_clauses given old
formula_inserted given last given' id lits old new within all number inserted same =
    ap (λ g. first_clauses g new) same
    ∙ (ap (first_clauses given) (pushed_live id lits old new last inserted all (omega (arith, number))) ∙ first_stay given old (record { id = id; lits = lits } ∷ []) within)

pub formula_grown : (s n : State) (id : ClauseId) (lits : List Lit) → IsRunning s → id.0 ≡ s.last + 1 → IsInserted id lits s.store.live n.store.live → n.given ≡ s.given → first_clauses n.given n.store.live ≡ first_clauses s.given s.store.live
formula_grown s n id lits run number inserted given = formula_inserted s.given s.last n.given id lits s.store.live n.store.live run.live.given_within run.live.numbered number inserted given

pub sound_grown : (s n : State) (id : ClauseId) (lits : List Lit) → IsWatchState s → s.refuted ≡ false → id.0 ≡ s.last + 1 → n.store.vars ≡ s.store.vars → IsInserted id lits s.store.live n.store.live → n.given ≡ s.given → n.history ≡ s.history → IsSound (watch_solving n false)
sound_grown s n id lits state open_yet number vars inserted given history = same_sound (watch_solving s false) (watch_solving n false) vars (formula_grown s n id lits (state.running open_yet) number inserted given) history state.sound

-- ---- a unit
log_stays : (events more : List Event) (lit : Lit) → more ≡ events ++ gives lit ∷ [] → log_of more ≡ log_of events
log_stays events more lit is = ap log_of is ∙ log_given events lit

clash_given : (old new : Option ClauseId) (id : ClauseId) (lits : List Lit) (clash : Bool) (live more : List NumberedClause) (t t1 later : TrailParts) (grown : List Entry) → more ≡ live ++ record { id = id; lits = lits } ∷ [] → IsInserted id lits live more → IsTrail t → IsCutBack 0 t.entries t1.entries → t1.present ≡ 0 → later.entries ≡ t1.entries ++ grown → later.present ≡ 0
    → (clash ≡ true → IsConflict more later id) → (clash ≡ false → length lits < 2 → IsSeated later.entries lits) → (old ≢ None → new ≡ old) → (old ≡ None → clash ≡ false → new ≡ None) → (old ≡ None → clash ≡ true → new ≡ Some id) → ClashTells old live t → ClashTells new more later
clash_given (Some other) new id lits clash live more t t1 later grown is inserted laws cut low grew bottom conflict seated stays none some tells =
    let same : t1.entries ≡ t.entries = cut_bottom t t1.entries laws tells.1 cut in
    let here : IsConflict live later other = conflict_grown live t later grown other (grew ∙ ap (λ es. es ++ grown) same) bottom tells.0 in
    subst (λ c. ClashTells c more later) (sym (stays (λ e. absurd (cc)))) (
      record {
        lits = here.lits;
        stands = ap (λ l. clause_of l other) is ∙ clause_of-more live (record { id = id; lits = lits }) other here.lits here.stands;
        all_false = here.all_false;
        at_present = here.at_present;
      },
      bottom,
    )
clash_given None new id lits true live more t t1 later grown is inserted laws cut low grew bottom conflict seated stays none some tells = subst (λ c. ClashTells c more later) (sym (some refl refl)) (conflict refl, bottom)
clash_given None new id lits false live more t t1 later grown is inserted laws cut low grew bottom conflict seated stays none some tells =
    subst (λ c. ClashTells c more later) (sym (none refl refl))
    (AreShortTrue-inserted id lits live more later (seated refl) inserted (short_grown live t1 later grown grew (AreShortTrue-cut live t t1 0 cut tells)))

pub given_state : (s n : State) (lit : Lit) (id : ClauseId) (t1 : TrailParts) (clash : Bool) → IsWatchState s → s.refuted ≡ false → IsOver s.store.vars lit → id.0 ≡ s.last + 1
    → n.store.vars ≡ s.store.vars → IsInserted id (lit ∷ []) s.store.live n.store.live → n.given ≡ s.given → n.last ≡ s.last + 1 → n.history ≡ s.history ++ gives lit ∷ [] → n.refuted ≡ s.refuted → n.drop_at ≡ s.drop_at
    → n.space ≡ s.space → length n.valuation.values ≡ length s.valuation.values → length n.stamps.items ≡ length s.stamps.items → FitsTrail n.store n.trail → OpenOnesWait n.order t1 → IsCutBack 0 s.trail.entries t1.entries → t1.present ≡ 0 → Grows t1 n.trail
    → (clash ≡ true → IsConflict n.store.live n.trail id) → (clash ≡ false → 1 < 2 → IsSeated n.trail.entries (lit ∷ [])) → (s.clash ≢ None → n.clash ≡ s.clash) → (s.clash ≡ None → clash ≡ false → n.clash ≡ None) → (s.clash ≡ None → clash ≡ true → n.clash ≡ Some id) → IsWatchState n
given_state s n lit id t1 clash state open_yet over number vars inserted given last history refuted place space values stamps fits waiting cut bottom grows conflict seated stays none some =
    let run : IsRunning s = state.running open_yet in
    let old : Solving = watch_solving s false in
    let new : Solving = watch_solving n false in
    let pushed : n.store.live ≡ s.store.live ++ record { id = id; lits = lit ∷ [] } ∷ [] = pushed_live id (lit ∷ []) s.store.live n.store.live s.last inserted run.live.numbered (omega (arith, number)) in
    let formula : first_clauses n.given n.store.live ≡ first_clauses s.given s.store.live = formula_inserted s.given s.last n.given id (lit ∷ []) s.store.live n.store.live run.live.given_within run.live.numbered number inserted given in
    let search : search_now new ≡ after_event (search_now old) (gives lit) = next_search old new (gives lit) vars formula history in
    record {
      sound = sound_more old new (gives lit) state.sound (subst (λ v. IsOver v lit) (sym (vars_now old)) over) vars formula history;
      numbers = last ∙ (ap (λ k. k + 1) state.numbers ∙ sym (numbers_used_given old new lit formula history));
      log_ends = subst (λ b. LogEnds b (log_of n.history)) (sym refuted) (subst (LogEnds s.refuted) (sym (log_stays s.history n.history lit history)) state.log_ends);
      drop_place = subst DropPlaceTells (sym place) state.drop_place;
      running = λ still. record {
        live =
            subst (λ x. AreLiveOf x n.given n.last n.history n.store.live) (sym search)
            (subst (λ x. AreLiveOf (after_event (search_now old) (gives lit)) x n.last n.history n.store.live) (sym given)
            (subst (λ x. AreLiveOf (after_event (search_now old) (gives lit)) s.given x n.history n.store.live) (sym last)
            (subst (λ x. AreLiveOf (after_event (search_now old) (gives lit)) s.given (s.last + 1) x n.store.live) (sym history)
            (subst (λ x. AreLiveOf (after_event (search_now old) (gives lit)) s.given (s.last + 1) (s.history ++ gives lit ∷ []) x) (sym pushed)
            (live_given (search_now old) s.given s.last s.history s.store.live id lit run.live number)))));
        fits = fits;
        waiting = wait_grown n.order t1 n.trail grows.more grows.vars grows.entries waiting;
        space = space ∙ (run.space ∙ sym vars);
        values = values ∙ (run.values ∙ sym vars);
        stamps = stamps ∙ (run.stamps ∙ sym vars);
        clash = clash_given s.clash n.clash id (lit ∷ []) clash s.store.live n.store.live s.trail t1 n.trail grows.more pushed inserted run.fits.laws cut bottom grows.entries (grows.present ∙ bottom) conflict seated stays none some run.clash;
      };
    }

-- a unit after the formula was refuted
pub given_refuted : (s n : State) (lit : Lit) → IsWatchState s → s.refuted ≡ true → IsOver s.store.vars lit → n.store ≡ s.store → n.given ≡ s.given → n.last ≡ s.last + 1 → n.history ≡ s.history ++ gives lit ∷ [] → n.refuted ≡ s.refuted → n.drop_at ≡ s.drop_at → IsWatchState n
given_refuted s n lit state closed over store given last history refuted place =
    let old : Solving = watch_solving s false in
    let new : Solving = watch_solving n false in
    let vars : n.store.vars ≡ s.store.vars = ap (λ x. x.vars) store in
    let formula : first_clauses n.given n.store.live ≡ first_clauses s.given s.store.live = formula_alike s n (ap (λ x. x.live) store) given in
    record {
      sound = sound_more old new (gives lit) state.sound (subst (λ v. IsOver v lit) (sym (vars_now old)) over) vars formula history;
      numbers = last ∙ (ap (λ k. k + 1) state.numbers ∙ sym (numbers_used_given old new lit formula history));
      log_ends = subst (λ b. LogEnds b (log_of n.history)) (sym refuted) (subst (LogEnds s.refuted) (sym (log_stays s.history n.history lit history)) state.log_ends);
      drop_place = subst DropPlaceTells (sym place) state.drop_place;
      running = λ still. absurd (Rattle.sat_core.proofs.OpenLaws.true_is_not_false (sym closed ∙ (sym refuted ∙ still)));
    }

-- ---- answers
pub met_searched : (s n : State) (had left : ℕ) → IsSound (watch_solving s false) → IsLearnedStep s n → left + 1 ≡ had → Searched (watch_solving s false) (watch_solving n false) had left
met_searched s n had left sound met spent =
    subst (λ k. Searched (watch_solving s false) (watch_solving n false) k left) spent
    (searched_add (watch_solving s false) (watch_solving s false) (watch_solving n false) (left + 1) left met.id met.lits met.hints (searched_none (watch_solving s false) (left + 1) sound) met.learned met.same_vars met.same_formula met.one_more)

pub alike_searched : (s n : State) (had : ℕ) → IsSound (watch_solving s false) → n.store.vars ≡ s.store.vars → first_clauses n.given n.store.live ≡ first_clauses s.given s.store.live → n.history ≡ s.history → Searched (watch_solving s false) (watch_solving n false) had had
alike_searched s n had sound vars formula history = record {
  same_vars = vars;
  same_formula = formula;
  steps = [];
  begins = tt;
  grew = history ∙ sym (Rattle.std.proofs.lemmas.List.append-nil s.history);
  spent = omega arith;
  sound = same_sound (watch_solving s false) (watch_solving n false) vars formula history sound;
}

pub refuted_answer : (s : State) (starved : Bool) → IsWatchState s → s.refuted ≡ true → IsRefuted (watch_solving s starved)
refuted_answer s starved state is = subst (λ b. LogEnds b (log_of s.history)) is state.log_ends

pub spent_answer : (s : State) (left : ℕ) → IsWatchState s → s.refuted ≡ false → EndsInAdd (log_of s.history) → left ≡ 0 → IsAnswer (watch_solving s false) left answer.Spent
spent_answer s left state is ends none = (none, ends, subst (λ b. LogEnds b (log_of s.history)) is state.log_ends)

pub searched_starved : (s n : State) (one other : Bool) (had left : ℕ) → Searched (watch_solving s false) (watch_solving n false) had left → Searched (watch_solving s one) (watch_solving n other) had left
searched_starved s n one other had left searched = record {
  same_vars = searched.same_vars;
  same_formula = searched.same_formula;
  steps = searched.steps;
  begins = searched.begins;
  grew = searched.grew;
  spent = searched.spent;
  sound = record { events = searched.sound.events };
}

-- ---- where all is read: a decision, or what propagation leaves
pub fits_decided : (s : StoreParts) (t later : TrailParts) (scores : List ℕ) (lit : Lit) → t.read ≡ length t.entries → IsNextDecision scores t lit → later ≡ Rattle.search_trail.specs.Trails.decided t lit → FitsTrail s t → FitsTrail s later
fits_decided s t later scores lit all_read next is fits =
    subst (FitsTrail s) (sym is)
    (FitsTrail-decide s t lit (omega (arith, all_read)) (subst (IsOver t.vars) (sym next.is) (omega arith, omega (arith, next.is_open.0))) (subst (Rattle.sat_core.specs.Fresh.IsOpen (known_of t.entries)) (sym next.is) next.is_open.1) fits)

pub clash_grown : (clash : Option ClauseId) (live later_live : List NumberedClause) (t later : TrailParts) (more : List Entry) → clash ≡ None → later_live ≡ live → later.entries ≡ t.entries ++ more → ClashTells clash live t → ClashTells clash later_live later
clash_grown (Some id) live later_live t later more none same grew tells = absurd (cc)
clash_grown None live later_live t later more none same grew tells = subst (λ l. AreShortTrue l later) (sym same) (short_grown live t later more grew tells)

pub short_of_none : (clash : Option ClauseId) (live : List NumberedClause) (t : TrailParts) → clash ≡ None → ClashTells clash live t → AreShortTrue live t
short_of_none (Some id) live t none tells = absurd (cc)
short_of_none None live t none tells = tells

pub if_none : {X : Type 0} (r : Option X) (P Q : Type 0) → (P → Q) → Rattle.std.specs.Prelude.IfNone r P → Rattle.std.specs.Prelude.IfNone r Q
if_none (Some x) P Q make told = tt
if_none None P Q make told = make told

pub on_err : {X E : Type 0} (r : Rattle.std.specs.Prelude.Result X E) (P : Type 0) → P → Rattle.std.specs.Prelude.OnErr r P
on_err (Ok x) P holds = tt
on_err (Err e) P holds = holds

pub clash_back : (clash : Option ClauseId) (live : List NumberedClause) (t t1 : TrailParts) → IsTrail t → IsCutBack 0 t.entries t1.entries → t1.present ≡ 0 → ClashTells clash live t → ClashTells clash live t1
clash_back None live t t1 laws cut bottom tells = AreShortTrue-cut live t t1 0 cut tells
clash_back (Some id) live t t1 laws cut bottom tells =
    let same : t1.entries ≡ t.entries = cut_bottom t t1.entries laws tells.1 cut in (
      record {
        lits = tells.0.lits;
        stands = tells.0.stands;
        all_false = subst (λ es. All (λ lit. is_known (known_of es) (negated lit) ≡ true) tells.0.lits) (sym same) tells.0.all_false;
        at_present = λ above. absurd (omega (arith, above, bottom));
      },
      bottom,
    )

pub clash_of : (r : Option ClauseId) (live : List NumberedClause) (t : TrailParts) → t.present ≡ 0 → Rattle.std.specs.Prelude.IfSome r (IsConflict live t) → Rattle.std.specs.Prelude.IfNone r (AreShortTrue live t) → ClashTells r live t
clash_of (Some id) live t bottom some none = (some, bottom)
clash_of None live t bottom some none = none
