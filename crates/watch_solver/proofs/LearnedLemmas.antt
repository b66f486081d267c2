-- What a learned clause leaves: behind going back to its level it fits the trail, and the state keeps what holds of it.
use Rattle.std.proofs.Common.{◌≡◌, ◌≢◌, ℕ, suc, ◌+◌, ◌-◌, ◌<◌, ◌≤◌, true, false, ◌⊎◌, inl, inr, List, [], ◌∷◌, ◌++◌, length, get_or, refl, ap, sym, subst, ◌∙◌, arith}
use Rattle.std.specs.Prelude.{Any, Option, Some, None}
use Rattle.std.proofs.lemmas.Bool.{cases_eq, cases_lt}
use Rattle.std.proofs.lemmas.List.{length_push, get_or-take, get_or_default, length-take-le}
use Rattle.std.proofs.lemmas.List.Elements.{All-push}
use Rattle.sat_core.specs.declared.literal.Lit.{Lit}
use Rattle.sat_core.specs.declared.literal.ClauseId.{ClauseId}
use Rattle.sat_core.specs.Clauses.{negated}
use Rattle.sat_core.specs.Derivation.{DerivedStep, adds, AddsEmptyClause, EndsInEmptyClause}
use Rattle.sat_core.specs.Fresh.{IsUnitUnder}
use Rattle.sat_core.specs.Hints.{NumberedClause, is_known}
use Rattle.sat_core.specs.Search.{Event, derives, after_event, IsLearned, log_of}
use Rattle.sat_core.proofs.SearchLaws.{log_of-append}
use Rattle.search_trail.specs.declared.entry.Entry.{Entry}
use Rattle.search_trail.specs.Trails.{TrailParts, IsTrail, IsCutBack, known_of, up_to, assigned}
use Rattle.search_trail.proofs.LevelLaws.{up_to-same, all_up_to, up_to-from}
use Rattle.conflict_learn.specs.Learning.{IsLearnedFrom, IsAsserting}
use Rattle.conflict_learn.proofs.FreshLaws.{IsUnitUnder-learned}
use Rattle.solver_face.specs.Solving.{Solving, search_now, EndsInAdd, AddNoEmptyClause}
use Rattle.solver_face.proofs.SolvingLaws.{sound_more}
use Rattle.activity_order.specs.Choices.{OpenOnesWait}
use Rattle.activity_order.proofs.WaitLaws.{wait_grown}
use Rattle.watch_store.specs.Places.{IsInserted}
use Rattle.watch_store.specs.Fits.{FitsTrail, HasTwoNotFalse, IsUnitNow}
use Rattle.watch_store.proofs.FitLaws.{AreShortTrue-cut}
use Rattle.watch_store.proofs.LiveLaws.{AreShortTrue-inserted}
use Rattle.watch_solver.specs.declared.state.State.{State}
use Rattle.watch_solver.specs.Running.{watch_solving, first_clauses, LogEnds, DropPlaceTells, AreLiveOf, ClashTells, IsRunning, IsWatchState, IsLearnedStep}
use Rattle.watch_solver.proofs.LiveLemmas.{pushed_live}
use Rattle.watch_solver.proofs.SearchLemmas.{vars_now, formula_now, next_search, numbers_used_added, live_added, learned_next}
use Rattle.watch_solver.proofs.SeatLemmas.{short_grown}
use Rattle.watch_solver.proofs.StateLemmas.{formula_alike, formula_inserted}

-- ---- what was learned, after going back to its level
pub known_cut : (t t1 : TrailParts) (level : ℕ) → IsCutBack level t.entries t1.entries → known_of t1.entries ≡ up_to level t.entries
known_cut t t1 level cut = sym (all_up_to level t1.entries cut.kept) ∙ up_to-same level level t.entries t1.entries cut (omega arith)

pub unit_cut : (t t1 : TrailParts) (lits : List Lit) (level : ℕ) (head : IsAsserting t lits level) → IsTrail t → IsCutBack level t.entries t1.entries → IsUnitUnder (known_of t1.entries) lits head.lit
unit_cut t t1 lits level head laws cut = subst (λ known. IsUnitUnder known lits head.lit) (sym (known_cut t t1 level cut)) (IsUnitUnder-learned t lits level head laws)

entry_cut : (t t1 : TrailParts) (level place : ℕ) (lit : Lit) → IsCutBack level t.entries t1.entries → t1.present ≡ level → place < length t.entries → ((d : Entry) → ((get_or t.entries place d).lit ≡ lit) × ((get_or t.entries place d).level ≡ level)) → Any (λ e. (e.lit ≡ lit) × (e.level ≡ t1.present)) t1.entries
entry_cut t t1 level place lit cut present within at =
    let d : Entry = record { lit = lit; reason = None; level = 0 } in
    let long : length t1.entries ≡ cut.size = ap length cut.front ∙ length-take-le cut.size t.entries cut.within in
    elim (cases_lt place cut.size) [
      | inr gone ↦ absurd (omega (arith, cut.gone place d gone within, (at d).1))
      | inl kept ↦
          let e : Entry = get_or t.entries place d in
          let same : get_or t1.entries place e ≡ e = ap (λ es. get_or es place e) cut.front ∙ (get_or-take cut.size t.entries place e kept ∙ get_or_default t.entries place e d within) in
          (place, e, omega (arith, kept, long), same, ((at d).0, (at d).1 ∙ sym present))
    ]

latest_cut : (t t1 : TrailParts) (level : ℕ) (lits : List Lit) (head : IsAsserting t lits level) → IsCutBack level t.entries t1.entries → t1.present ≡ level → 2 ≤ length lits → Any (λ other. Any (λ e. (e.lit ≡ negated other) × (e.level ≡ t1.present)) t1.entries) lits
latest_cut t t1 level lits head cut present many =
    subst (λ ls. Any (λ other. Any (λ e. (e.lit ≡ negated other) × (e.level ≡ t1.present)) t1.entries) ls) (sym head.is)
    (elim head.greatest [
      | inl none ↦
          let d : Lit = head.lit in
          let within : 0 < length head.rest = omega (arith, many, ap length head.is) in
          let other : Lit = get_or head.rest 0 d in
          let at = up_to-from level t.entries (negated other) (head.others 0 d within) in
          (suc 0, other, omega (arith, within), get_or_default head.rest 0 other d within, entry_cut t t1 level at.0 (negated other) cut present at.1 (λ e. ((at.2 e).0, omega (arith, (at.2 e).1, none))))
      | inr any ↦
          let e = any.4 in
          (suc any.0, any.1, omega (arith, any.2), any.3, entry_cut t t1 level e.0 (negated any.1) cut present e.2 (λ d. (ap (λ (x : Entry). x.lit) (get_or_default t.entries e.0 d e.1 e.2 ∙ e.3) ∙ e.4.0, ap (λ (x : Entry). x.level) (get_or_default t.entries e.0 d e.1 e.2 ∙ e.3) ∙ e.4.1)))
    ])

pub watchable_cut : (t t1 : TrailParts) (lits : List Lit) (hints : List ClauseId) (live : List NumberedClause) (level : ℕ) → IsTrail t → IsLearnedFrom live t lits hints level → lits ≢ [] → IsCutBack level t.entries t1.entries → t1.present ≡ level → 2 ≤ length lits → HasTwoNotFalse (known_of t1.entries) lits ⊎ IsUnitNow t1 lits
watchable_cut t t1 lits hints live level laws learned some cut present many = elim (cases_eq t.present 0) [
  | inl bottom ↦ absurd (some (learned.at_zero bottom))
  | inr above ↦
      let head = learned.asserting (omega arith) in
      inr (record { lit = head.lit; unit = unit_cut t t1 lits level head laws cut; latest = latest_cut t t1 level lits head cut present many })
]

pub first_unit : (t t1 : TrailParts) (lits : List Lit) (hints : List ClauseId) (live : List NumberedClause) (level : ℕ) (lit : Lit) → IsTrail t → IsLearnedFrom live t lits hints level → lits ≢ [] → get_or lits 0 lit ≡ lit → IsCutBack level t.entries t1.entries → IsUnitUnder (known_of t1.entries) lits lit
first_unit t t1 lits hints live level lit laws learned some is cut = elim (cases_eq t.present 0) [
  | inl bottom ↦ absurd (some (learned.at_zero bottom))
  | inr above ↦
      let head = learned.asserting (omega arith) in
      let same : lit ≡ head.lit = sym is ∙ ap (λ ls. get_or ls 0 lit) head.is in
      subst (IsUnitUnder (known_of t1.entries) lits) (sym same) (unit_cut t t1 lits level head laws cut)
]

pub back_within : (live : List NumberedClause) (t : TrailParts) (lits : List Lit) (hints : List ClauseId) (level : ℕ) → IsLearnedFrom live t lits hints level → level ≤ t.present
back_within live t lits hints level learned = elim (cases_eq t.present 0) [
  | inl bottom ↦ omega (arith, learned.stays_at_zero bottom)
  | inr above ↦ omega (arith, (learned.asserting (omega arith)).lower)
]

-- ---- a learned clause
log_more : (events more : List Event) (id : ClauseId) (lits : List Lit) (hints : List ClauseId) → more ≡ events ++ derives (adds id lits hints) ∷ [] → log_of more ≡ log_of events ++ adds id lits hints ∷ []
log_more events more id lits hints is = ap log_of is ∙ log_of-append events (derives (adds id lits hints) ∷ [])

ends_at : (steps : List DerivedStep) (step : DerivedStep) → Rattle.std.specs.Prelude.slice_get (steps ++ step ∷ []) (length (steps ++ step ∷ []) - 1) ≡ Some step
ends_at steps step =
    let place : length (steps ++ step ∷ []) - 1 ≡ length steps = omega (arith, length_push steps step) in
    ap (Rattle.std.specs.Prelude.slice_get (steps ++ step ∷ [])) place ∙ last steps step where
      last : (steps : List DerivedStep) (step : DerivedStep) → Rattle.std.specs.Prelude.slice_get (steps ++ step ∷ []) (length steps) ≡ Some step
      last [] step = refl
      last (one ∷ steps) step = last steps step

pub ends_in_add : (events more : List Event) (id : ClauseId) (lits : List Lit) (hints : List ClauseId) → more ≡ events ++ derives (adds id lits hints) ∷ [] → EndsInAdd (log_of more)
ends_in_add events more id lits hints is = subst EndsInAdd (sym (log_more events more id lits hints is)) (id, lits, hints, ends_at (log_of events) (adds id lits hints))

ends_empty : (steps : List DerivedStep) (id : ClauseId) (lits : List Lit) (hints : List ClauseId) → lits ≡ [] → EndsInEmptyClause (steps ++ adds id lits hints ∷ [])
ends_empty steps id [] hints none = subst AddsEmptyClause (sym (ends_at steps (adds id [] hints))) tt
ends_empty steps id (lit ∷ lits) hints none = absurd (cc)

adds_some : (steps : List DerivedStep) (id : ClauseId) (lits : List Lit) (hints : List ClauseId) → lits ≢ [] → AddNoEmptyClause steps → AddNoEmptyClause (steps ++ adds id lits hints ∷ [])
adds_some steps id [] hints some none = absurd (some refl)
adds_some steps id (lit ∷ lits) hints some none = All-push (λ (step : DerivedStep). ¬ AddsEmptyClause (Some step)) steps (adds id (lit ∷ lits) hints) none (λ bad. bad)

next_learned : (s : State) (id : ClauseId) (lits : List Lit) (hints : List ClauseId) (level : ℕ) → IsRunning s → id.0 ≡ s.last + 1 → IsLearnedFrom s.store.live s.trail lits hints level → IsLearned (search_now (watch_solving s false)) id lits hints
next_learned s id lits hints level run number learned =
    learned_next (search_now (watch_solving s false)) s.given s.last s.history s.store s.trail s.clash id lits hints level (vars_now (watch_solving s false)) (formula_now (watch_solving s false)) run.live run.fits run.clash number learned

step_of : (s n : State) (id : ClauseId) (lits : List Lit) (hints : List ClauseId) (level : ℕ) → IsRunning s → id.0 ≡ s.last + 1 → IsLearnedFrom s.store.live s.trail lits hints level → n.store.vars ≡ s.store.vars → first_clauses n.given n.store.live ≡ first_clauses s.given s.store.live → n.history ≡ s.history ++ derives (adds id lits hints) ∷ [] → IsLearnedStep s n
step_of s n id lits hints level run number learned vars formula history = record {
  same_vars = vars;
  same_formula = formula;
  id = id;
  lits = lits;
  hints = hints;
  learned = next_learned s id lits hints level run number learned;
  one_more = history;
}

-- the empty clause
pub refuted_state : (s n : State) (id : ClauseId) (lits : List Lit) (hints : List ClauseId) (level : ℕ) → IsWatchState s → s.refuted ≡ false → id.0 ≡ s.last + 1 → lits ≡ [] → IsLearnedFrom s.store.live s.trail lits hints level → n.store ≡ s.store → n.given ≡ s.given → n.last ≡ s.last + 1 → n.history ≡ s.history ++ derives (adds id lits hints) ∷ [] → n.refuted ≡ true → n.drop_at ≡ s.drop_at → IsWatchState n × IsLearnedStep s n
refuted_state s n id lits hints level state open_yet number none learned store given last history refuted place =
    let run : IsRunning s = state.running open_yet in
    let old : Solving = watch_solving s false in
    let new : Solving = watch_solving n false in
    let vars : n.store.vars ≡ s.store.vars = ap (λ x. x.vars) store in
    let formula : first_clauses n.given n.store.live ≡ first_clauses s.given s.store.live = formula_alike s n (ap (λ x. x.live) store) given in (
      record {
        sound = sound_more old new (derives (adds id lits hints)) state.sound (next_learned s id lits hints level run number learned) vars formula history;
        numbers = last ∙ (ap (λ k. k + 1) state.numbers ∙ sym (numbers_used_added old new id lits hints formula history));
        log_ends = subst (λ b. LogEnds b (log_of n.history)) (sym refuted) (subst EndsInEmptyClause (sym (log_more s.history n.history id lits hints history)) (ends_empty (log_of s.history) id lits hints none));
        drop_place = subst DropPlaceTells (sym place) state.drop_place;
        running = λ still. absurd (Rattle.sat_core.proofs.OpenLaws.true_is_not_false (sym refuted ∙ still));
      },
      step_of s n id lits hints level run number learned vars formula history,
    )

-- a clause that isn't empty
clash_learned : (old : Option ClauseId) (id : ClauseId) (lits : List Lit) (lit : Lit) (live more : List NumberedClause) (t t1 later : TrailParts) (level : ℕ) → IsInserted id lits live more → 0 < t.present → IsCutBack level t.entries t1.entries → t1.present ≡ level → later ≡ assigned t1 lit id → (length lits < 2 → level ≡ 0) → get_or lits 0 lit ≡ lit → lits ≢ [] → IsTrail later → ClashTells old live t → ClashTells old more later
clash_learned (Some other) id lits lit live more t t1 later level inserted above cut present is bottom first some laws tells = absurd (omega (arith, above, tells.1))
clash_learned None id lits lit live more t t1 later level inserted above cut present is bottom first some laws tells =
    AreShortTrue-inserted id lits live more later
    (λ few. Rattle.watch_solver.proofs.SeatLemmas.seated_true later lits lit laws (ap (λ (x : TrailParts). x.present) is ∙ (present ∙ bottom few)) (longer lits some) first
    (ap (λ (x : TrailParts). is_known (known_of x.entries) lit) is ∙ last_known t1.entries (record { lit = lit; reason = Some id; level = t1.present })))
    inserted
    (short_grown live t1 later (record { lit = lit; reason = Some id; level = t1.present } ∷ []) (ap (λ (x : TrailParts). x.entries) is) (AreShortTrue-cut live t t1 level cut tells)) where
      longer : (ls : List Lit) → ls ≢ [] → 0 < length ls
      longer [] more_than = absurd (more_than refl)
      longer (l ∷ ls) more_than = omega arith

      last_known : (entries : List Entry) (e : Entry) → is_known (known_of (entries ++ e ∷ [])) e.lit ≡ true
      last_known entries e =
          subst (λ (x : Entry). is_known (known_of (entries ++ e ∷ [])) x.lit ≡ true) (Rattle.std.proofs.lemmas.List.get_or_push entries e e (length entries) refl)
          (Rattle.search_trail.proofs.TrailLaws.known-at_entry (entries ++ e ∷ []) (length entries) e (omega (arith, length_push entries e)))

level_of_one : (live : List NumberedClause) (t : TrailParts) (lits : List Lit) (hints : List ClauseId) (level : ℕ) → IsLearnedFrom live t lits hints level → 0 < t.present → length lits < 2 → level ≡ 0
level_of_one live t lits hints level learned above few =
    let head = learned.asserting above in
    elim head.greatest [
      | inl zero_level ↦ zero_level
      | inr any ↦ absurd (omega (arith, few, ap length head.is, any.2))
    ]

pub learned_above : (live : List NumberedClause) (t : TrailParts) (lits : List Lit) (hints : List ClauseId) (level : ℕ) → IsLearnedFrom live t lits hints level → lits ≢ [] → 0 < t.present
learned_above live t lits hints level learned some = elim (cases_eq t.present 0) [
  | inl bottom ↦ absurd (some (learned.at_zero bottom))
  | inr above ↦ omega arith
]

pub learned_state : (s n : State) (t1 : TrailParts) (id : ClauseId) (lits : List Lit) (hints : List ClauseId) (level : ℕ) (lit : Lit) → IsWatchState s → s.refuted ≡ false → id.0 ≡ s.last + 1 → lits ≢ [] → get_or lits 0 lit ≡ lit → IsLearnedFrom s.store.live s.trail lits hints level
    → n.store.vars ≡ s.store.vars → IsInserted id lits s.store.live n.store.live → n.given ≡ s.given → n.last ≡ s.last + 1 → n.history ≡ s.history ++ derives (adds id lits hints) ∷ [] → n.refuted ≡ s.refuted → n.clash ≡ s.clash → n.drop_at ≡ s.drop_at
    → n.space ≡ s.space → length n.valuation.values ≡ length s.valuation.values → length n.stamps.items ≡ length s.stamps.items → FitsTrail n.store n.trail → OpenOnesWait n.order t1 → IsCutBack level s.trail.entries t1.entries → t1.present ≡ level → n.trail ≡ assigned t1 lit id → IsWatchState n × IsLearnedStep s n
learned_state s n t1 id lits hints level lit state open_yet number some first learned vars inserted given last history refuted same_clash place space values stamps fits waiting cut present assigned_is =
    let run : IsRunning s = state.running open_yet in
    let old : Solving = watch_solving s false in
    let new : Solving = watch_solving n false in
    let step : Event = derives (adds id lits hints) in
    let above : 0 < s.trail.present = learned_above s.store.live s.trail lits hints level learned some in
    let pushed : n.store.live ≡ s.store.live ++ record { id = id; lits = lits } ∷ [] = pushed_live id lits s.store.live n.store.live s.last inserted run.live.numbered (omega (arith, number)) in
    let formula : first_clauses n.given n.store.live ≡ first_clauses s.given s.store.live = formula_inserted s.given s.last n.given id lits s.store.live n.store.live run.live.given_within run.live.numbered number inserted given in
    let next : IsLearned (search_now old) id lits hints = next_learned s id lits hints level run number learned in
    let search : search_now new ≡ after_event (search_now old) step = next_search old new step vars formula history in
    let none : AddNoEmptyClause (log_of s.history) = subst (λ b. LogEnds b (log_of s.history)) open_yet state.log_ends in (
      record {
        sound = sound_more old new step state.sound next vars formula history;
        numbers = last ∙ (ap (λ k. k + 1) state.numbers ∙ sym (numbers_used_added old new id lits hints formula history));
        log_ends = subst (λ b. LogEnds b (log_of n.history)) (sym (refuted ∙ open_yet)) (subst AddNoEmptyClause (sym (log_more s.history n.history id lits hints history)) (adds_some (log_of s.history) id lits hints some none));
        drop_place = subst DropPlaceTells (sym place) state.drop_place;
        running = λ still. record {
          live =
              subst (λ x. AreLiveOf x n.given n.last n.history n.store.live) (sym search)
              (subst (λ x. AreLiveOf (after_event (search_now old) step) x n.last n.history n.store.live) (sym given)
              (subst (λ x. AreLiveOf (after_event (search_now old) step) s.given x n.history n.store.live) (sym last)
              (subst (λ x. AreLiveOf (after_event (search_now old) step) s.given (s.last + 1) x n.store.live) (sym history)
              (subst (λ x. AreLiveOf (after_event (search_now old) step) s.given (s.last + 1) (s.history ++ step ∷ []) x) (sym pushed)
              (live_added (search_now old) s.given s.last s.history s.store.live id lits hints run.live number some)))));
          fits = fits;
          waiting = wait_grown n.order t1 n.trail (record { lit = lit; reason = Some id; level = t1.present } ∷ []) (ap (λ (x : TrailParts). x.vars) assigned_is) (ap (λ (x : TrailParts). x.entries) assigned_is) waiting;
          space = space ∙ (run.space ∙ sym vars);
          values = values ∙ (run.values ∙ sym vars);
          stamps = stamps ∙ (run.stamps ∙ sym vars);
          clash = subst (λ c. ClashTells c n.store.live n.trail) (sym same_clash) (clash_learned s.clash id lits lit s.store.live n.store.live s.trail t1 n.trail level inserted above cut present assigned_is (level_of_one s.store.live s.trail lits hints level learned above) first some fits.laws run.clash);
        };
      },
      step_of s n id lits hints level run number learned vars formula history,
    )
