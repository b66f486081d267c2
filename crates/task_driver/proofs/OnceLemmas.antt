-- A task that calls its solver once, without units.
use Rattle.std.proofs.Common.{◌≡◌, ℕ, ◌+◌, List, [], ◌∷◌, ◌++◌, length, map, refl, sym, ap, subst, ◌∙◌, arith, Bool, true, false, cond, ◌<◌, nat_lt, min}
use Rattle.std.proofs.lemmas.Bool.{ltb-true}
use Rattle.std.proofs.lemmas.List.{append-nil}
use Rattle.sat_core.specs.Clauses.{IsClause, IsOver, SatisfiesAll}
use Rattle.sat_core.specs.Storage.{FormulaParts}
use Rattle.std.specs.Prelude.{All, Option, Some, None}
use Rattle.sat_core.specs.declared.literal.Lit.{Lit}
use Rattle.sat_core.specs.Derivation.{DerivedStep, adds, drops, AreAccepted, database_of, EndsInEmptyClause, Refutes}
use Rattle.derivation_log.specs.declared.step.Bound.{Bound}
use Rattle.derivation_log.specs.declared.step.Bound.TheVariants.{Given, AtMost}
use Rattle.cell_net.specs.declared.parts.InstanceParts.{InstanceParts}
use Rattle.sat_core.specs.Search.{Event, gives, derives, Search, search_of, after_event, AreNext, log_of, adds_in}
use Rattle.solver_face.specs.Solving.{Solving, IsSolution, Searched, ShowsSolution, EndsInAdd, AddNoEmptyClause}
use Rattle.solver_face.proofs.SolvingLaws.{search_is, conflicts_grow}
use Rattle.sat_core.proofs.SearchLaws.{log_of-derives}
use Rattle.task_driver.specs.Questions.{Question, of_kept, of_at_most, of_fewest, Formulas}
use Rattle.task_driver.specs.Encodings.{AsksOnce}
use Rattle.task_driver.proofs.EncodingLemmas.{unit_over}
use Rattle.task_driver.specs.Sessions.{bound, step, session_events}
use Rattle.task_driver.specs.Outcomes.{IsSmaller, IsSpent, vars_of, formula_of}
use Rattle.vss_report.specs.declared.outcome.Smaller.TheVariants as smaller
use Rattle.task_driver.proofs.GivenLemmas.{given_first}
use Rattle.task_driver.proofs.SessionLemmas.{session_events-steps, bounds_of-steps}

-- the events of a search without units are its steps, and each is accepted in its turn
accepted_alone : (s : Search) (steps : List DerivedStep) → AreNext s (map derives steps) → AreAccepted s.database steps
accepted_alone s [] are = tt
accepted_alone s (adds id lits hints ∷ steps) are = (are.0.accepted, accepted_alone (after_event s (derives (adds id lits hints))) steps are.1)
accepted_alone s (drops ids ∷ steps) are = (are.0.accepted, accepted_alone (after_event s (derives (drops ids))) steps are.1)

-- what a solver derives in its first call
first_events : (before now : Solving) (had left : ℕ) (searched : Searched before now had left) → before.events ≡ [] → now.events ≡ map derives searched.steps
first_events before now had left searched none = searched.grew ∙ ap (λ (e : List Event). e ++ map derives searched.steps) none

first_log : (before now : Solving) (had left : ℕ) (searched : Searched before now had left) → before.events ≡ [] → log_of now.events ≡ searched.steps
first_log before now had left searched none = ap log_of (first_events before now had left searched none) ∙ log_of-derives searched.steps

-- a first call that refutes: its log refutes the formula
pub refutes_alone : (before now : Solving) (vars : ℕ) (formula : List (List Lit)) (had left : ℕ) → before.events ≡ [] → before.vars ≡ vars → before.formula ≡ formula → Searched before now had left
    → EndsInEmptyClause (log_of now.events) → Refutes vars formula (log_of now.events)
refutes_alone before now vars formula had left none same_vars same_formula searched ends =
    let search : AreNext (search_of vars formula) now.events = search_is now vars formula searched.sound (searched.same_vars ∙ same_vars) (searched.same_formula ∙ same_formula) in
    record {
      accepted = subst (λ (l : List DerivedStep). AreAccepted (database_of vars formula) l) (sym (first_log before now had left searched none))
          (accepted_alone (search_of vars formula) searched.steps (subst (λ (e : List Event). AreNext (search_of vars formula) e) (first_events before now had left searched none) search));
      empty_last = ends;
    }

-- a first call that used up the budget is a session of the kept borders
pub spent_given : (f : Formulas) (p : InstanceParts) (before now : Solving) (had left : ℕ) → before.events ≡ [] → before.vars ≡ f.given_vars → before.formula ≡ f.given → Searched before now had left
    → left ≡ 0 → EndsInAdd (log_of now.events) → AddNoEmptyClause (log_of now.events) → IsSpent f p of_kept had had None
spent_given f p before now had left none same_vars same_formula searched gone ends no_empty =
    let n : ℕ = length p.candidates in
    let events : session_events f.unit n (bound Given ∷ map step searched.steps) ≡ now.events = session_events-steps f.unit n searched.steps ∙ sym (first_events before now had left searched none) in
    record {
      entries = bound Given ∷ map step searched.steps;
      session = record {
        later = [];
        bounds = ap (λ bs. Given ∷ bs) (bounds_of-steps searched.steps);
        begins = tt;
        falling = tt;
        search = subst (λ (e : List Event). AreNext (search_of f.given_vars f.given) e) (sym events) (search_is now f.given_vars f.given searched.sound (searched.same_vars ∙ same_vars) (searched.same_formula ∙ same_formula));
        conflicts = ap (λ e. adds_in (log_of e)) events ∙
            (let grew : adds_in (log_of now.events) + left ≡ adds_in (log_of before.events) + had = conflicts_grow before now had left searched in
            let nothing : adds_in (log_of before.events) ≡ 0 = ap (λ e. adds_in (log_of e)) none in omega arith);
        last_adds = subst (λ (e : List Event). EndsInAdd (log_of e)) (sym events) ends;
        none_empty = subst (λ (e : List Event). AddNoEmptyClause (log_of e)) (sym events) no_empty;
      };
      conflicts_are = refl;
      best_is = tt;
    }

-- a unit at the end of the formula, if there is one, is given first
given_or_not : (vars : ℕ) (formula : List (List Lit)) (lit : Lit) (b : Bool) (events : List Event) → (b ≡ true → IsOver vars lit)
    → AreNext (search_of vars (formula ++ cond b ((lit ∷ []) ∷ []) [])) events → AreNext (search_of vars formula) (cond b (gives lit ∷ []) [] ++ events)
given_or_not vars formula lit true events over are = given_first vars formula lit events (over refl) are
given_or_not vars formula lit false events over are = subst (λ (f : List (List Lit)). AreNext (search_of vars f) events) (append-nil formula) are

log_given_or_not : (lit : Lit) (b : Bool) (events : List Event) → log_of (cond b (gives lit ∷ []) [] ++ events) ≡ log_of events
log_given_or_not lit true events = refl
log_given_or_not lit false events = refl

-- a first call that used up the budget is a session of at most so many borders
pub spent_within : (f : Formulas) (p : InstanceParts) (most : ℕ) (before now : Solving) (had left : ℕ) → before.events ≡ [] → before.vars ≡ f.free_vars
    → before.formula ≡ formula_of f p (AtMost (min most (length p.candidates)))
    → (min most (length p.candidates) < length p.candidates → IsOver f.free_vars (f.unit (min most (length p.candidates)))) → Searched before now had left
    → left ≡ 0 → EndsInAdd (log_of now.events) → AddNoEmptyClause (log_of now.events) → IsSpent f p (of_at_most most) had had None
spent_within f p most before now had left none same_vars same_formula over searched gone ends no_empty =
    let n : ℕ = length p.candidates in
    let k : ℕ = min most n in
    let tail : session_events f.unit n (map step searched.steps) ≡ now.events = session_events-steps f.unit n searched.steps ∙ sym (first_events before now had left searched none) in
    let events : session_events f.unit n (bound (AtMost k) ∷ map step searched.steps) ≡ cond (nat_lt k n) (gives (f.unit k) ∷ []) [] ++ now.events = ap (λ (e : List Event). cond (nat_lt k n) (gives (f.unit k) ∷ []) [] ++ e) tail in
    let log : log_of (session_events f.unit n (bound (AtMost k) ∷ map step searched.steps)) ≡ log_of now.events = ap log_of events ∙ log_given_or_not (f.unit k) (nat_lt k n) now.events in
    record {
      entries = bound (AtMost k) ∷ map step searched.steps;
      session = record {
        later = [];
        bounds = ap (λ bs. AtMost k ∷ bs) (bounds_of-steps searched.steps);
        begins = tt;
        falling = tt;
        search = subst (λ (e : List Event). AreNext (search_of f.free_vars f.free) e) (sym events)
            (given_or_not f.free_vars f.free (f.unit k) (nat_lt k n) now.events (λ is. over (below is))
            (search_is now f.free_vars (formula_of f p (AtMost k)) searched.sound (searched.same_vars ∙ same_vars) (searched.same_formula ∙ same_formula)));
        conflicts = ap adds_in log ∙
            (let grew : adds_in (log_of now.events) + left ≡ adds_in (log_of before.events) + had = conflicts_grow before now had left searched in
            let nothing : adds_in (log_of before.events) ≡ 0 = ap (λ e. adds_in (log_of e)) none in omega arith);
        last_adds = subst (λ (l : List DerivedStep). EndsInAdd l) (sym log) ends;
        none_empty = subst (λ (l : List DerivedStep). AddNoEmptyClause l) (sym log) no_empty;
      };
      conflicts_are = refl;
      best_is = tt;
    }
  where
    below : nat_lt (min most (length p.candidates)) (length p.candidates) ≡ true → min most (length p.candidates) < length p.candidates
    below is = ltb-true (min most (length p.candidates)) (length p.candidates) is

-- a first call that used up the budget is a session of a question that asks about one bound
pub spent_once : (f : Formulas) (p : InstanceParts) (q : Question) (b : Bound) (before now : Solving) (had left : ℕ) → AsksOnce p q b → before.events ≡ [] → before.vars ≡ vars_of f b → before.formula ≡ formula_of f p b
    → All (IsClause (vars_of f b)) (formula_of f p b) → Searched before now had left → left ≡ 0 → EndsInAdd (log_of now.events) → AddNoEmptyClause (log_of now.events) → IsSpent f p q had had None
spent_once f p of_kept b before now had left asks none same_vars same_formula clauses searched gone ends no_empty =
    spent_given f p before now had left none (subst (λ (c : Bound). before.vars ≡ vars_of f c) asks same_vars) (subst (λ (c : Bound). before.formula ≡ formula_of f p c) asks same_formula) searched gone ends no_empty
spent_once f p (of_at_most most) b before now had left asks none same_vars same_formula clauses searched gone ends no_empty =
    spent_within f p most before now had left none (subst (λ (c : Bound). before.vars ≡ vars_of f c) asks same_vars) (subst (λ (c : Bound). before.formula ≡ formula_of f p c) asks same_formula)
    (unit_over p f (min most (length p.candidates)) (subst (λ (c : Bound). All (IsClause (vars_of f c)) (formula_of f p c)) asks clauses)) searched gone ends no_empty
spent_once f p of_fewest b before now had left asks none same_vars same_formula clauses searched gone ends no_empty = absurd asks

-- a valuation that a first call found satisfies the formula
pub found_in : (f : FormulaParts) (before now : Solving) (had left : ℕ) (values : List Bool) → before.vars ≡ f.vars → before.formula ≡ f.clauses → Searched before now had left → ShowsSolution now now.found → now.found ≡ Some values
    → (length values ≡ f.vars) × SatisfiesAll values f.clauses
found_in f before now had left values same_vars same_formula searched shows is =
    let solution : IsSolution now values = subst (λ (o : Option (List Bool)). ShowsSolution now o) is shows in
    (solution.for_each ∙ (searched.same_vars ∙ same_vars), subst (SatisfiesAll values) (searched.same_formula ∙ same_formula) solution.formula)

-- nothing is said of smaller layouts where the fewest borders aren't asked for
pub not_asked : (f : Formulas) (p : InstanceParts) (q : Question) (b : Bound) (count : ℕ) → AsksOnce p q b → IsSmaller f p q count smaller.NotAsked
not_asked f p of_kept b count asks = tt
not_asked f p (of_at_most most) b count asks = tt
not_asked f p of_fewest b count asks = absurd asks
