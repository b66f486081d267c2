-- The plain solver's state keeps what holds of it: at its beginning, when its trail changes, and with one clause more.
use Rattle.std.proofs.Common.{◌≡◌, ◌≢◌, ℕ, ◌+◌, ◌-◌, ◌^◌, ◌<◌, ◌≤◌, Bool, true, false, inl, inr, List, [], ◌∷◌, ◌++◌, length, take, min, refl, ap, sym, subst, ◌∙◌, arith}
use Rattle.std.specs.Prelude.{All, Option, Some, None, Result, Ok, Err, OnOk, OnErr, slice_get}
use Rattle.std.proofs.lemmas.Bool.{cases_eq, cases_Bool}
use Rattle.std.proofs.lemmas.Option.{slice_get_within, get_or_from_slice_get}
use Rattle.std.proofs.lemmas.List.{append-nil, append_assoc, length_push, length-map, take-append-le, take_all, map_push}
use Rattle.std.proofs.lemmas.List.Elements.{All-push, All-nil}
use Rattle.derivation_log.specs.declared.step.Step.{Step}
use Rattle.derivation_log.specs.Steps.{derived, derived_steps}
use Rattle.sat_core.specs.declared.literal.Lit.{Lit}
use Rattle.sat_core.specs.declared.literal.ClauseId.{ClauseId}
use Rattle.sat_core.specs.Clauses.{IsOver, IsClause}
use Rattle.sat_core.specs.Derivation.{DerivedStep, adds, AddsEmptyClause, numbered_from}
use Rattle.sat_core.specs.Search.{Event, gives, derives, Search, search_of, after_event, after_events, IsNext, IsLearned, log_of, units_of, adds_in}
use Rattle.sat_core.proofs.SearchLaws.{after_events-append}
use Rattle.search_trail.specs.Trails.{TrailParts, IsTrail, IsCutBack}
use Rattle.conflict_learn.specs.Learning.{IsLearnedFrom}
use Rattle.solver_face.specs.Solving.{search_now, numbers_used, Searched, IsRefuted, IsAnswer, EndsInAdd, AddNoEmptyClause}
use Rattle.solver_face.specs.declared.answer.Answer.TheVariants as answer
use Rattle.solver_face.proofs.SolvingLaws.{sound_more, searched_none, searched_add}
use Rattle.plain_solver.specs.declared.state.State.{State}
use Rattle.plain_solver.specs.Plain.{IsPlain}
use Rattle.plain_solver.specs.States.{weave, steps_in, added_by, IsAdd, IsAt, Refuted, clauses_given, events_of, solving_of, IsState, IsConflictMet}
use Rattle.plain_solver.proofs.PlainLemmas.{IsPlain-cut, IsPlain-add, learned_plain}
use Rattle.plain_solver.proofs.StateLemmas.{weave-unit, weave-step, log_of-weave, steps_in-unit, steps_in-step, added_by-append, length-added, adds_in-all, at_unit, at_add, IsTrail-back, step_learned, ends_in_add, refuted_now}

-- the log of the events is the log
pub log_is : (s : State) → IsState s → log_of (events_of s) ≡ derived_steps s.log.steps
log_is s state = log_of-weave s.history.items (derived_steps s.log.steps) (state.woven ∙ sym (length-map s.log.steps derived))

-- as many clause numbers are in use as there are clauses
pub numbers_used_is : (s : State) (starved : Bool) → IsState s → numbers_used (solving_of s starved) ≡ length s.clauses.clauses
numbers_used_is s starved state =
    let whole : length s.clauses.clauses ≡ length (clauses_given s ++ added_by (events_of s)) = ap length state.all in
    omega (arith, whole, Rattle.std.proofs.lemmas.List.length-append (clauses_given s) (added_by (events_of s)), length-added (events_of s))

-- ---- at first
pub state_begin : (s : State) → s.given ≡ length s.clauses.clauses → s.history.items ≡ [] → s.log.steps ≡ [] → IsTrail s.trail → s.trail.vars ≡ s.clauses.vars → s.trail.entries ≡ [] → s.trail.present ≡ 0 → s.space ≡ s.clauses.vars → length s.valuation.values ≡ s.clauses.vars → s.refuted ≡ false → All (IsClause s.clauses.vars) s.clauses.clauses → length s.clauses.clauses < 2 ^ 32 → IsState s
state_begin s given no_history no_steps laws vars no_entries bottom space values refuted clauses few =
    let none : events_of s ≡ [] = ap (λ h. weave h (derived_steps s.log.steps)) no_history in
    let front : clauses_given s ≡ s.clauses.clauses = ap (λ n. take n s.clauses.clauses) given ∙ take_all (length s.clauses.clauses) s.clauses.clauses (omega arith) in
    record {
      plain = record {
        laws = laws;
        clauses_over = subst (λ n. All (IsClause n) s.clauses.clauses) (sym vars) clauses;
        reasons = λ k d within. absurd (omega (arith, within, ap length no_entries));
        closed_below = λ level below. absurd (omega (arith, below, bottom));
      };
      vars = vars;
      space = space;
      values = values;
      few = few;
      given = omega (arith, given);
      all = sym (ap (λ es. clauses_given s ++ added_by es) none ∙ (append-nil (clauses_given s) ∙ front));
      woven = ap steps_in no_history ∙ sym (ap length no_steps);
      no_drop = subst (λ steps. All IsAdd (derived_steps steps)) (sym no_steps) (All-nil IsAdd);
      sound = record { events = subst (λ es. Rattle.sat_core.specs.Search.AreNext (search_of s.clauses.vars (clauses_given s)) es) (sym none) tt };
      at = subst (λ es. IsAt (after_events (search_of s.clauses.vars (clauses_given s)) es) s.clauses.vars (clauses_given s) s.clauses.clauses) (sym none) (record {
        same_vars = refl;
        same_formula = refl;
        live = ap (numbered_from 1) front;
        last = ap length front;
      });
      refuted = subst (λ b. Refuted b (derived_steps s.log.steps)) (sym refuted) (subst (λ steps. Refuted false (derived_steps steps)) (sym no_steps) (All-nil (λ (step : DerivedStep). ¬ AddsEmptyClause (Some step))));
    }

-- ---- another trail, or another valuation
pub state_trail : (s : State) (t : TrailParts) → IsState s → IsPlain s.clauses.clauses t → t.vars ≡ s.trail.vars → IsState (record s { trail = t })
state_trail s t state plain vars = record {
  plain = plain;
  vars = vars ∙ state.vars;
  space = state.space;
  values = state.values;
  few = state.few;
  given = state.given;
  all = state.all;
  woven = state.woven;
  no_drop = state.no_drop;
  sound = record { events = state.sound.events };
  at = record { same_vars = state.at.same_vars; same_formula = state.at.same_formula; live = state.at.live; last = state.at.last };
  refuted = state.refuted;
}

-- ---- one event more
formula_stays : (s n : State) (lits : List Lit) → IsState s → n.given ≡ s.given → n.clauses.clauses ≡ s.clauses.clauses ++ lits ∷ [] → clauses_given n ≡ clauses_given s
formula_stays s n lits state given grew = ap (λ k. take k n.clauses.clauses) given ∙ (ap (take s.given) grew ∙ take-append-le s.given s.clauses.clauses (lits ∷ []) state.given)

pub state_more : (s n : State) (event : Event) (lits : List Lit) → IsState s → n.clauses.vars ≡ s.clauses.vars → n.clauses.clauses ≡ s.clauses.clauses ++ lits ∷ [] → n.given ≡ s.given → events_of n ≡ events_of s ++ event ∷ [] → added_by (event ∷ []) ≡ lits ∷ []
    → steps_in n.history.items ≡ length n.log.steps → All IsAdd (derived_steps n.log.steps) → IsPlain n.clauses.clauses n.trail → n.trail.vars ≡ n.clauses.vars → n.space ≡ n.clauses.vars → length n.valuation.values ≡ n.clauses.vars → length s.clauses.clauses < 2 ^ 32 - 1
    → IsNext (search_now (solving_of s false)) event → IsAt (after_event (search_now (solving_of s false)) event) s.clauses.vars (clauses_given s) (s.clauses.clauses ++ lits ∷ []) → Refuted n.refuted (derived_steps n.log.steps) → IsState n
state_more s n event lits state vars grew given events added woven no_drop plain trail_vars space values room next at refuted =
    let formula : clauses_given n ≡ clauses_given s = formula_stays s n lits state given grew in
    let more : length n.clauses.clauses ≡ length s.clauses.clauses + 1 = ap length grew ∙ length_push s.clauses.clauses lits in
    let start : search_of n.clauses.vars (clauses_given n) ≡ search_of s.clauses.vars (clauses_given s) = ap (λ v. search_of v (clauses_given n)) vars ∙ ap (search_of s.clauses.vars) formula in
    let now : search_now (solving_of n false) ≡ after_event (search_now (solving_of s false)) event =
    ap (λ (b : Search). after_events b (events_of n)) start
    ∙ (ap (after_events (search_of s.clauses.vars (clauses_given s))) events ∙ after_events-append (search_of s.clauses.vars (clauses_given s)) (events_of s) (event ∷ [])) in
    let here : IsAt (search_now (solving_of n false)) s.clauses.vars (clauses_given s) (s.clauses.clauses ++ lits ∷ []) = subst (λ (b : Search). IsAt b s.clauses.vars (clauses_given s) (s.clauses.clauses ++ lits ∷ [])) (sym now) at in
    record {
      plain = plain;
      vars = trail_vars;
      space = space;
      values = values;
      few = omega (arith, more, room);
      given = omega (arith, state.given, given, more);
      all =
          grew
          ∙ (ap (λ (cs : List (List Lit)). cs ++ lits ∷ []) state.all
          ∙ (append_assoc (clauses_given s) (added_by (events_of s)) (lits ∷ [])
          ∙ (ap (λ (cs : List (List Lit)). clauses_given s ++ (added_by (events_of s) ++ cs)) (sym added)
          ∙ (ap (λ (cs : List (List Lit)). clauses_given s ++ cs) (sym (ap added_by events ∙ added_by-append (events_of s) (event ∷ [])))
          ∙ ap (λ (cs : List (List Lit)). cs ++ added_by (events_of n)) (sym formula)))));
      woven = woven;
      no_drop = no_drop;
      sound = sound_more (solving_of s false) (solving_of n false) event state.sound next vars formula events;
      at = record {
        same_vars = here.same_vars ∙ sym vars;
        same_formula = here.same_formula ∙ sym formula;
        live = here.live ∙ ap (numbered_from 1) (sym grew);
        last = here.last ∙ ap length (sym grew);
      };
      refuted = refuted;
    }

-- ---- a unit
plain_unit : (clauses : List (List Lit)) (t t' : TrailParts) (lit : Lit) → IsPlain clauses t → IsOver t.vars lit → t'.vars ≡ t.vars → IsCutBack 0 t.entries t'.entries → t'.read ≡ min t.read (length t'.entries) → t'.present ≡ 0 → IsPlain (clauses ++ (lit ∷ []) ∷ []) t'
plain_unit clauses t t' lit plain over vars cut read bottom =
    let laws : IsTrail t' = IsTrail-back t t' 0 plain.laws (omega arith) vars cut read bottom in
    let over' : IsOver t'.vars lit = subst (λ n. IsOver n lit) (sym vars) over in
    IsPlain-add clauses t' (lit ∷ []) (record {
      in_range = All-push (IsOver t'.vars) [] lit (All-nil (IsOver t'.vars)) over';
      no_variable_twice = λ i j d low high. absurd (omega arith);
    }) (λ level below. absurd (omega (arith, below, bottom))) (IsPlain-cut clauses t t' 0 (omega arith) laws vars cut bottom plain)

pub unit_woven : (s n : State) (lit : Lit) → IsState s → n.history.items ≡ s.history.items ++ Some lit ∷ [] → n.log.steps ≡ s.log.steps → events_of n ≡ events_of s ++ gives lit ∷ []
unit_woven s n lit state history log =
    ap (λ h. weave h (derived_steps n.log.steps)) history
    ∙ (ap (λ steps. weave (s.history.items ++ Some lit ∷ []) (derived_steps steps)) log
    ∙ weave-unit s.history.items (derived_steps s.log.steps) lit (state.woven ∙ sym (length-map s.log.steps derived)))

pub state_unit : (s n : State) (lit : Lit) → IsState s → n.clauses.vars ≡ s.clauses.vars → n.clauses.clauses ≡ s.clauses.clauses ++ (lit ∷ []) ∷ [] → n.given ≡ s.given → n.history.items ≡ s.history.items ++ Some lit ∷ [] → n.log.steps ≡ s.log.steps → n.trail.vars ≡ s.trail.vars → IsCutBack 0 s.trail.entries n.trail.entries → n.trail.read ≡ min s.trail.read (length n.trail.entries) → n.trail.present ≡ 0 → n.space ≡ s.space → n.valuation.values ≡ s.valuation.values → n.refuted ≡ s.refuted → IsOver s.clauses.vars lit → length s.clauses.clauses < 2 ^ 32 - 1 → IsState n
state_unit s n lit state vars grew given history log trail_vars cut read bottom space values refuted over room =
    state_more s n (gives lit) (lit ∷ []) state vars grew given (unit_woven s n lit state history log) refl
    (ap steps_in history ∙ (steps_in-unit s.history.items lit ∙ (state.woven ∙ ap length (sym log))))
    (subst (λ steps. All IsAdd (derived_steps steps)) (sym log) state.no_drop)
    (subst (λ cs. IsPlain cs n.trail) (sym grew) (plain_unit s.clauses.clauses s.trail n.trail lit state.plain (subst (λ k. IsOver k lit) (sym state.vars) over) trail_vars cut read bottom))
    (trail_vars ∙ (state.vars ∙ sym vars))
    (space ∙ (state.space ∙ sym vars))
    (ap length values ∙ (state.values ∙ sym vars))
    room
    (subst (λ k. IsOver k lit) (sym state.at.same_vars) over)
    (at_unit (search_now (solving_of s false)) s.clauses.vars (clauses_given s) s.clauses.clauses lit state.at)
    (subst (λ b. Refuted b (derived_steps n.log.steps)) (sym refuted) (subst (λ steps. Refuted s.refuted (derived_steps steps)) (sym log) state.refuted))

-- ---- a conflict
plain_met : (clauses : List (List Lit)) (t t' : TrailParts) (lits : List Lit) (hints : List ClauseId) (level : ℕ) → IsPlain clauses t → IsLearnedFrom (numbered_from 1 clauses) t lits hints level → t'.vars ≡ t.vars → IsCutBack level t.entries t'.entries → t'.read ≡ min t.read (length t'.entries) → t'.present ≡ level → IsPlain (clauses ++ lits ∷ []) t'
plain_met clauses t t' lits hints level plain learned vars cut read present = elim (cases_eq t.present 0) [
  | inl bottom ↦
      let zero_level : level ≡ 0 = learned.stays_at_zero bottom in
      let laws : IsTrail t' = IsTrail-back t t' level plain.laws (omega arith) vars cut read present in
      IsPlain-add clauses t' lits (subst (λ n. IsClause n lits) (sym vars) learned.clause) (λ n below. absurd (omega (arith, below, present, zero_level))) (IsPlain-cut clauses t t' level (omega arith) laws vars cut present plain)
  | inr above ↦
      let head = learned.asserting (omega arith) in
      learned_plain clauses t t' lits level plain learned.clause head (IsTrail-back t t' level plain.laws (omega (arith, head.lower)) vars cut read present) vars cut present
]

pub back_within : (live : List Rattle.sat_core.specs.Hints.NumberedClause) (t : TrailParts) (lits : List Lit) (hints : List ClauseId) (level : ℕ) → IsLearnedFrom live t lits hints level → level ≤ t.present
back_within live t lits hints level learned = elim (cases_eq t.present 0) [
  | inl bottom ↦ omega (arith, learned.stays_at_zero bottom)
  | inr above ↦ omega (arith, (learned.asserting (omega arith)).lower)
]

pub state_met : (s n : State) (step : Step) (id : ClauseId) (lits : List Lit) (hints : List ClauseId) (level : ℕ) → IsState s → s.refuted ≡ false → IsLearnedFrom (numbered_from 1 s.clauses.clauses) s.trail lits hints level → id.0 ≡ length s.clauses.clauses + 1 → derived step ≡ adds id lits hints → n.clauses.vars ≡ s.clauses.vars → n.clauses.clauses ≡ s.clauses.clauses ++ lits ∷ [] → n.given ≡ s.given → n.history.items ≡ s.history.items ++ None ∷ [] → n.log.steps ≡ s.log.steps ++ step ∷ [] → n.trail.vars ≡ s.trail.vars → IsCutBack level s.trail.entries n.trail.entries → n.trail.read ≡ min s.trail.read (length n.trail.entries) → n.trail.present ≡ level → n.space ≡ s.space → n.valuation.values ≡ s.valuation.values → (n.refuted ≡ true → lits ≡ []) → (n.refuted ≡ false → lits ≢ []) → length s.clauses.clauses < 2 ^ 32 - 1 → IsState n × IsConflictMet s n
state_met s n step id lits hints level state open_yet learned number step_is vars grew given history log trail_vars cut read present space values empty some room =
    let none : AddNoEmptyClause (derived_steps s.log.steps) = subst (λ b. Refuted b (derived_steps s.log.steps)) open_yet state.refuted in
    let logged : derived_steps n.log.steps ≡ derived_steps s.log.steps ++ adds id lits hints ∷ [] = ap derived_steps log ∙ (map_push derived s.log.steps step ∙ ap (λ d. derived_steps s.log.steps ++ d ∷ []) step_is) in
    let events : events_of n ≡ events_of s ++ derives (adds id lits hints) ∷ [] =
    ap (λ h. weave h (derived_steps n.log.steps)) history
    ∙ (ap (weave (s.history.items ++ None ∷ [])) logged ∙ weave-step s.history.items (derived_steps s.log.steps) (adds id lits hints) (state.woven ∙ sym (length-map s.log.steps derived))) in
    let next : IsLearned (search_now (solving_of s false)) id lits hints = step_learned (search_now (solving_of s false)) s.clauses.vars (clauses_given s) s.clauses.clauses (events_of s) s.trail id lits hints level state.at state.vars state.plain state.all (subst AddNoEmptyClause (sym (log_is s state)) none) number learned in (
      state_more s n (derives (adds id lits hints)) lits state vars grew given events refl
          (ap steps_in history ∙ (steps_in-step s.history.items ∙ (ap (λ k. k + 1) state.woven ∙ sym (ap length log ∙ length_push s.log.steps step))))
          (subst (All IsAdd) (sym logged) (All-push IsAdd (derived_steps s.log.steps) (adds id lits hints) state.no_drop tt))
          (subst (λ cs. IsPlain cs n.trail) (sym grew) (plain_met s.clauses.clauses s.trail n.trail lits hints level state.plain learned trail_vars cut read present))
          (trail_vars ∙ (state.vars ∙ sym vars))
          (space ∙ (state.space ∙ sym vars))
          (ap length values ∙ (state.values ∙ sym vars))
          room
          next
          (at_add (search_now (solving_of s false)) s.clauses.vars (clauses_given s) s.clauses.clauses id lits hints state.at next.numbered)
          (subst (Refuted n.refuted) (sym logged) (refuted_now (derived_steps s.log.steps) id lits hints n.refuted none empty some)),
      record {
        same_vars = vars;
        same_formula = formula_stays s n lits state given grew;
        id = id;
        lits = lits;
        hints = hints;
        learned = next;
        one_more = events;
        logged = logged;
      },
    )

-- ---- answers
pub refuted_of : (s : State) (starved : Bool) → IsState s → s.refuted ≡ true → IsRefuted (solving_of s starved)
refuted_of s starved state is = subst Rattle.sat_core.specs.Derivation.EndsInEmptyClause (sym (log_is s state)) (subst (λ b. Refuted b (derived_steps s.log.steps)) is state.refuted)

pub spent_of : (s : State) (starved : Bool) (left : ℕ) → IsState s → s.refuted ≡ false → EndsInAdd (derived_steps s.log.steps) → left ≡ 0 → IsAnswer (solving_of s starved) left answer.Spent
spent_of s starved left state is ends none = (
  none,
  subst EndsInAdd (sym (log_is s state)) ends,
  subst AddNoEmptyClause (sym (log_is s state)) (subst (λ b. Refuted b (derived_steps s.log.steps)) is state.refuted),
)

pub met_searched : (s n : State) (had left : ℕ) → IsState s → IsConflictMet s n → left + 1 ≡ had → Searched (solving_of s false) (solving_of n false) had left
met_searched s n had left state met spent =
    subst (λ k. Searched (solving_of s false) (solving_of n false) k left) spent
    (searched_add (solving_of s false) (solving_of s false) (solving_of n false) (left + 1) left met.id met.lits met.hints (searched_none (solving_of s false) (left + 1) state.sound) met.learned met.same_vars met.same_formula met.one_more)

pub met_ends : (s n : State) → IsConflictMet s n → EndsInAdd (derived_steps n.log.steps)
met_ends s n met = subst EndsInAdd (sym met.logged) (ends_in_add (derived_steps s.log.steps) met.id met.lits met.hints)

-- the parts of a solver that contracts see, whatever its want of memory
pub searched_starved : (s n : State) (one other : Bool) (had left : ℕ) → Searched (solving_of s false) (solving_of n false) had left → Searched (solving_of s one) (solving_of n other) had left
searched_starved s n one other had left searched = record {
  same_vars = searched.same_vars;
  same_formula = searched.same_formula;
  steps = searched.steps;
  begins = searched.begins;
  grew = searched.grew;
  spent = searched.spent;
  sound = record { events = searched.sound.events };
}

-- ---- what the solver's calls tell
pub conflicts_are : (s : State) → IsState s → adds_in (log_of (events_of s)) ≡ length s.log.steps
conflicts_are s state = ap adds_in (log_is s state) ∙ (adds_in-all (derived_steps s.log.steps) state.no_drop ∙ length-map s.log.steps derived)

pub steps_few : (s : State) → IsState s → length s.log.steps < 2 ^ 32
steps_few s state =
    let whole : length (clauses_given s) + length (units_of (events_of s)) + adds_in (log_of (events_of s)) ≡ length s.clauses.clauses = numbers_used_is s false state in
    omega (arith, state.few, conflicts_are s state)

not_refuted : (steps : List DerivedStep) (last : Option DerivedStep) → slice_get steps (length steps - 1) ≡ last → AddNoEmptyClause steps → AddsEmptyClause last → ⊥
not_refuted steps None is none adds_empty = adds_empty
not_refuted steps (Some step) is none adds_empty =
    let within : length steps - 1 < length steps = slice_get_within steps (length steps - 1) step is in
    none (length steps - 1) step within (subst (λ (s : DerivedStep). AddsEmptyClause (Some s)) (sym (get_or_from_slice_get steps (length steps - 1) step step is)) adds_empty)

pub refuted_back : (s : State) (starved : Bool) → IsState s → IsRefuted (solving_of s starved) → s.refuted ≡ true
refuted_back s starved state refuted = elim (cases_Bool s.refuted) [
  | inl is ↦ is
  | inr open_yet ↦
      let none : AddNoEmptyClause (derived_steps s.log.steps) = subst (λ b. Refuted b (derived_steps s.log.steps)) open_yet state.refuted in
      let ends : Rattle.sat_core.specs.Derivation.EndsInEmptyClause (derived_steps s.log.steps) = subst Rattle.sat_core.specs.Derivation.EndsInEmptyClause (log_is s state) refuted in
      absurd (not_refuted (derived_steps s.log.steps) (slice_get (derived_steps s.log.steps) (length (derived_steps s.log.steps) - 1)) refl none ends)
]

pub on_ok : {X E : Type 0} (r : Result X E) (P Q : Type 0) → (P → Q) → OnOk r P → OnOk r Q
on_ok (Ok x) P Q make told = make told
on_ok (Err e) P Q make told = tt

pub on_either : {X E : Type 0} (r : Result X E) (P Q R : Type 0) → OnOk r P → OnErr r Q → (P → R) → (Q → R) → R
on_either (Ok x) P Q R one other make_one make_other = make_one one
on_either (Err e) P Q R one other make_one make_other = make_other other

pub answered : {E : Type 0} (r : Result Rattle.solver_face.specs.declared.answer.Answer.Answer E) → r ≡ Ok answer.Unsat → Rattle.std.specs.Prelude.IfOk r (λ a. a ≡ answer.Unsat)
answered r is = subst (λ (x : Result Rattle.solver_face.specs.declared.answer.Answer.Answer _). Rattle.std.specs.Prelude.IfOk x (λ a. a ≡ answer.Unsat)) (sym is) refl

pub numbers_used_unit : (s n : State) (lit : Lit) (one other : Bool) → clauses_given n ≡ clauses_given s → events_of n ≡ events_of s ++ gives lit ∷ [] → numbers_used (solving_of n other) ≡ numbers_used (solving_of s one) + 1
numbers_used_unit s n lit one other formula grew =
    let units : length (units_of (events_of n)) ≡ length (units_of (events_of s)) + 1 = ap (λ e. length (units_of e)) grew ∙ (ap length (Rattle.sat_core.proofs.SearchLaws.units_given (events_of s) lit) ∙ length_push (units_of (events_of s)) lit) in
    let adds : adds_in (log_of (events_of n)) ≡ adds_in (log_of (events_of s)) = ap (λ e. adds_in (log_of e)) grew ∙ Rattle.sat_core.proofs.SearchLaws.adds_given (events_of s) lit in
    let given : length (clauses_given n) ≡ length (clauses_given s) = ap length formula in
    omega arith
