-- How a search for the fewest borders goes on, and that it is a session where the budget is used up.
use Rattle.std.proofs.Common.{◌≡◌, ℕ, ◌+◌, ◌<◌, ◌≤◌, nat_lt, Bool, true, cond, List, [], ◌∷◌, ◌++◌, length, map, refl, sym, ap, subst, ◌∙◌, arith}
use Rattle.std.specs.Prelude.{Option, Some, None}
use Rattle.std.proofs.lemmas.Bool.Decides.{nat_tests}
use Rattle.std.proofs.lemmas.List.{map-append, append-nil, append_assoc}
use Rattle.sat_core.specs.declared.literal.Lit.{Lit}
use Rattle.sat_core.specs.Derivation.{DerivedStep}
use Rattle.sat_core.specs.Clauses.{IsTrueIn}
use Rattle.std.specs.Prelude.{All}
use Rattle.std.proofs.lemmas.List.Elements.{All-head, All-tail}
use Rattle.derivation_log.specs.declared.step.Bound.{Bound}
use Rattle.derivation_log.specs.declared.step.Bound.TheVariants.{AtMost}
use Rattle.cell_net.specs.declared.ids.CandidateId.{CandidateId}
use Rattle.cell_net.specs.declared.parts.InstanceParts.{InstanceParts}
use Rattle.cell_net.specs.declared.plans.Plan.{Plan}
use Rattle.cell_net.specs.Plans.{IsFeasible, IsLawful}
use Rattle.sat_core.specs.Search.{Event, gives, derives, search_of, AreNext, log_of, units_of, adds_in}
use Rattle.solver_face.specs.Solving.{Solving, IsSound, IsSolution, ShowsSolution, Searched, EndsInAdd, AddNoEmptyClause}
use Rattle.solver_face.proofs.SolvingLaws.{conflicts_grow, search_is}
use Rattle.sat_core.proofs.SearchLaws.{adds_given, units_given, units_searched}
use Rattle.task_driver.specs.Questions.{of_fewest, Formulas}
use Rattle.task_driver.specs.Sessions.{Entry, bound, step, bounds_of, BeginsWithBound, last_of, event_of, session_events, IsLater, AreLater, IsBest}
use Rattle.task_driver.specs.Outcomes.{IsSpent}
use Rattle.task_driver.specs.Underway.{last_number, IsUnderway}

bounds_of-append : (one other : List Entry) → bounds_of (one ++ other) ≡ bounds_of one ++ bounds_of other
bounds_of-append [] other = refl
bounds_of-append (bound b ∷ one) other = ap (λ bs. b ∷ bs) (bounds_of-append one other)
bounds_of-append (step s ∷ one) other = bounds_of-append one other

pub bounds_of-steps : (steps : List DerivedStep) → bounds_of (map step steps) ≡ []
bounds_of-steps [] = refl
bounds_of-steps (s ∷ steps) = bounds_of-steps steps

session_events-append : (u : ℕ → Lit) (most : ℕ) (one other : List Entry) → session_events u most (one ++ other) ≡ session_events u most one ++ session_events u most other
session_events-append u most [] other = refl
session_events-append u most (entry ∷ one) other =
    ap (λ es. event_of u most entry ++ es) (session_events-append u most one other) ∙ sym (append_assoc (event_of u most entry) (session_events u most one) (session_events u most other))

pub session_events-steps : (u : ℕ → Lit) (most : ℕ) (steps : List DerivedStep) → session_events u most (map step steps) ≡ map derives steps
session_events-steps u most [] = refl
session_events-steps u most (s ∷ steps) = ap (λ es. derives s ∷ es) (session_events-steps u most steps)

begins-append : (one other : List Entry) → BeginsWithBound one → BeginsWithBound (one ++ other)
begins-append [] other begins = absurd begins
begins-append (bound b ∷ one) other begins = tt
begins-append (step s ∷ one) other begins = absurd begins

later-append : (p : InstanceParts) (first next : Bound) (later : List Bound) → AreLater p of_fewest first later → IsLater p (last_of first later) next → AreLater p of_fewest first (later ++ next ∷ [])
later-append p first next [] are is = (is, tt)
later-append p first next (b ∷ later) are is = (are.0, later-append p b next later are.1 is)

last_of-append : (first next : Bound) (later : List Bound) → last_of first (later ++ next ∷ []) ≡ next
last_of-append first next [] = refl
last_of-append first next (b ∷ later) = last_of-append b next later

last_of_numbers : (most : ℕ) (bounds : List ℕ) → last_of (AtMost most) (map AtMost bounds) ≡ AtMost (last_number most bounds)
last_of_numbers most [] = refl
last_of_numbers most (k ∷ bounds) = last_of_numbers k bounds

best_some : (p : InstanceParts) (first : Bound) (k : ℕ) (later : List Bound) (layout : List CandidateId) (plan : Plan) → length layout ≡ k + 1 → IsLawful p layout plan
    → IsBest p first (later ++ AtMost k ∷ []) (Some (layout, plan))
best_some p first k [] layout plan count lawful = (k, refl, count, lawful)
best_some p first k (b ∷ later) layout plan count lawful = (k, last_of-append b (AtMost k) later, count, lawful)

-- a search that has not begun
pub begin_underway : (f : Formulas) (p : InstanceParts) (budget : ℕ) (s : Solving) → s.vars ≡ f.free_vars → s.formula ≡ f.free → s.events ≡ []
    → IsUnderway f p budget s budget [] None
begin_underway f p budget s vars formula none = record {
  entries = bound (AtMost (length p.candidates)) ∷ [];
  bounds_are = refl;
  begins = tt;
  falling = tt;
  vars = vars;
  formula = formula;
  events = none ∙ grind (arith, nat_tests);
  units = ap units_of none;
  sound = record { events = subst (λ (e : List Event). AreNext (search_of s.vars s.formula) e) (sym none) tt };
  spent = let nothing : adds_in (log_of s.events) ≡ 0 = ap (λ e. adds_in (log_of e)) none in omega arith;
  best_is = tt;
}

-- the solver searched
pub search_underway : (f : Formulas) (p : InstanceParts) (budget : ℕ) (before now : Solving) (had left : ℕ) (bounds : List ℕ) (best : Option (List CandidateId × Plan))
    → IsUnderway f p budget before had bounds best → Searched before now had left → IsUnderway f p budget now left bounds best
search_underway f p budget before now had left bounds best was searched = record {
  entries = was.entries ++ map step searched.steps;
  bounds_are = bounds_of-append was.entries (map step searched.steps) ∙ (ap (λ bs. bounds_of was.entries ++ bs) (bounds_of-steps searched.steps) ∙ (append-nil (bounds_of was.entries) ∙ was.bounds_are));
  begins = begins-append was.entries (map step searched.steps) was.begins;
  falling = was.falling;
  vars = searched.same_vars ∙ was.vars;
  formula = searched.same_formula ∙ was.formula;
  events = searched.grew ∙ (ap (λ es. es ++ map derives searched.steps) was.events
      ∙ (ap (λ es. session_events f.unit (length p.candidates) was.entries ++ es) (sym (session_events-steps f.unit (length p.candidates) searched.steps))
      ∙ sym (session_events-append f.unit (length p.candidates) was.entries (map step searched.steps))));
  units = ap units_of searched.grew ∙ (units_searched before.events searched.steps ∙ was.units);
  sound = searched.sound;
  spent =
      let grew : adds_in (log_of now.events) + left ≡ adds_in (log_of before.events) + had = conflicts_grow before now had left searched in
      let spent : adds_in (log_of before.events) + had ≡ budget = was.spent in
      omega arith;
  best_is = was.best_is;
}

-- a design was found, and the solver was given the unit of one border less
pub bound_underway : (f : Formulas) (p : InstanceParts) (budget : ℕ) (before now : Solving) (left : ℕ) (bounds : List ℕ) (best : Option (List CandidateId × Plan))
    (k : ℕ) (layout : List CandidateId) (plan : Plan)
    → IsUnderway f p budget before left bounds best
    → now.vars ≡ before.vars → now.formula ≡ before.formula → now.events ≡ before.events ++ gives (f.unit k) ∷ [] → IsSound now
    → k < last_number (length p.candidates) bounds → k < length p.candidates → length p.kept ≤ k → length layout ≡ k + 1 → IsLawful p layout plan
    → IsUnderway f p budget now left (bounds ++ k ∷ []) (Some (layout, plan))
bound_underway f p budget before now left bounds best k layout plan was vars formula given sound below within kept count lawful =
    let n : ℕ = length p.candidates in
    let more : map AtMost (bounds ++ k ∷ []) ≡ map AtMost bounds ++ AtMost k ∷ [] = map-append AtMost bounds (k ∷ []) in
    let is_later : IsLater p (last_of (AtMost n) (map AtMost bounds)) (AtMost k) = record {
      most = k;
      is = refl;
      had = last_number n bounds;
      was = last_of_numbers n bounds;
      below = below;
      not_below_kept = kept;
      borders = layout;
      feasible = unfold IsFeasible in (plan, lawful);
      one_more = count;
    } in
    let test : nat_lt k n ≡ true = grind (arith, nat_tests) in
    record {
      entries = was.entries ++ bound (AtMost k) ∷ [];
      bounds_are = bounds_of-append was.entries (bound (AtMost k) ∷ []) ∙ (ap (λ bs. bs ++ AtMost k ∷ []) was.bounds_are ∙ ap (λ bs. AtMost n ∷ bs) (sym more));
      begins = begins-append was.entries (bound (AtMost k) ∷ []) was.begins;
      falling = subst (λ (bs : List Bound). AreLater p of_fewest (AtMost n) bs) (sym more) (later-append p (AtMost n) (AtMost k) (map AtMost bounds) was.falling is_later);
      vars = vars ∙ was.vars;
      formula = formula ∙ was.formula;
      events = given ∙ (ap (λ es. es ++ gives (f.unit k) ∷ []) was.events
          ∙ (ap (λ (b : Bool). session_events f.unit n was.entries ++ (cond b (gives (f.unit k) ∷ []) [] ++ [])) (sym test)
          ∙ sym (session_events-append f.unit n was.entries (bound (AtMost k) ∷ []))));
      units = ap units_of given ∙ (units_given before.events (f.unit k) ∙ (ap (λ us. us ++ f.unit k ∷ []) was.units ∙ sym (map-append f.unit bounds (k ∷ []))));
      sound = sound;
      spent =
          let same : adds_in (log_of now.events) ≡ adds_in (log_of before.events) = ap (λ e. adds_in (log_of e)) given ∙ adds_given before.events (f.unit k) in
          let spent : adds_in (log_of before.events) + left ≡ budget = was.spent in
          omega arith;
      best_is = subst (λ (bs : List Bound). IsBest p (AtMost n) bs (Some (layout, plan))) (sym more)
          (best_some p (AtMost n) k (map AtMost bounds) layout plan count lawful);
    }

-- where the budget is used up, the search is a session
pub spent_underway : (f : Formulas) (p : InstanceParts) (budget : ℕ) (s : Solving) (left : ℕ) (bounds : List ℕ) (best : Option (List CandidateId × Plan))
    → IsUnderway f p budget s left bounds best → left ≡ 0 → EndsInAdd (log_of s.events) → AddNoEmptyClause (log_of s.events) → IsSpent f p of_fewest budget budget best
spent_underway f p budget s left bounds best was gone ends none = record {
  entries = was.entries;
  session = record {
    later = map AtMost bounds;
    bounds = was.bounds_are;
    begins = was.begins;
    falling = was.falling;
    search = subst (λ (e : List Event). AreNext (search_of f.free_vars f.free) e) was.events (search_is s f.free_vars f.free was.sound was.vars was.formula);
    conflicts = ap (λ e. adds_in (log_of e)) (sym was.events) ∙ (let spent : adds_in (log_of s.events) + left ≡ budget = was.spent in omega arith);
    last_adds = subst (λ (e : List Event). EndsInAdd (log_of e)) was.events ends;
    none_empty = subst (λ (e : List Event). AddNoEmptyClause (log_of e)) was.events none;
  };
  conflicts_are = refl;
  best_is = was.best_is;
}

-- bounds fall
pub falling_step : (p : InstanceParts) (m k : ℕ) → IsLater p (AtMost m) (AtMost k) → (k < m) × (length p.kept ≤ k)
falling_step p m k later =
    let one : k ≡ later.most = at_most_one k later.most later.is in
    let other : m ≡ later.had = at_most_one m later.had later.was in
    (rw (one, other) later.below, rw one later.not_below_kept)
  where
    at_most_one : (a b : ℕ) → AtMost a ≡ AtMost b → a ≡ b
    at_most_one a b e = cc

-- the last bound behind the first is below it, and no fewer than are kept
pub falling_last : (p : InstanceParts) (m k : ℕ) (bounds : List ℕ) → AreLater p of_fewest (AtMost m) (map AtMost (k ∷ bounds)) → (last_number k bounds < m) × (length p.kept ≤ last_number k bounds)
falling_last p m k [] are = falling_step p m k are.0
falling_last p m k (j ∷ bounds) are =
    let first = falling_step p m k are.0 in
    let rest = falling_last p k j bounds are.1 in
    let below : last_number j bounds < k = rest.0 in
    let above : k < m = first.0 in
    (omega arith, rest.1)

last_unit : (u : ℕ → Lit) (values : List Bool) (k : ℕ) (bounds : List ℕ) → All (IsTrueIn values) (map u (k ∷ bounds)) → IsTrueIn values (u (last_number k bounds))
last_unit u values k [] all = All-head (IsTrueIn values) (u k) [] all
last_unit u values k (j ∷ bounds) all = last_unit u values j bounds (All-tail (IsTrueIn values) (u k) (map u (j ∷ bounds)) all)

-- a design that was decoded has no more borders than the last bound allows
pub count_within : (p : InstanceParts) (u : ℕ → Lit) (values : List Bool) (bounds : List ℕ) (count : ℕ)
    → AreLater p of_fewest (AtMost (length p.candidates)) (map AtMost bounds) → All (IsTrueIn values) (map u bounds)
    → ((k : ℕ) → k < length p.candidates → IsTrueIn values (u k) → count ≤ k) → count ≤ length p.candidates → count ≤ last_number (length p.candidates) bounds
count_within p u values [] count are all few most = most
count_within p u values (k ∷ bounds) count are all few most =
    few (last_number k bounds) (falling_last p (length p.candidates) k bounds are).0 (last_unit u values k bounds all)

pub last_within : (p : InstanceParts) (bounds : List ℕ) → AreLater p of_fewest (AtMost (length p.candidates)) (map AtMost bounds) → last_number (length p.candidates) bounds ≤ length p.candidates
last_within p [] are = omega arith
last_within p (k ∷ bounds) are = let below : last_number k bounds < length p.candidates = (falling_last p (length p.candidates) k bounds are).0 in omega arith

-- the best design has one border more than the last bound
pub best_count : (p : InstanceParts) (most : ℕ) (bounds : List ℕ) (layout : List CandidateId) (plan : Plan)
    → AreLater p of_fewest (AtMost most) (map AtMost bounds) → IsBest p (AtMost most) (map AtMost bounds) (Some (layout, plan))
    → (length layout ≡ last_number most bounds + 1) × (length p.kept ≤ last_number most bounds) × IsLawful p layout plan
best_count p most [] layout plan are best = absurd best
best_count p most (k ∷ bounds) layout plan are (j, last, count, lawful) =
    let same : j ≡ last_number k bounds = at_most_one j (last_number k bounds) (sym last ∙ last_of_numbers k bounds) in
    (omega arith, (falling_last p most k bounds are).1, lawful)
  where
    at_most_one : (a b : ℕ) → AtMost a ≡ AtMost b → a ≡ b
    at_most_one a b e = cc

pub no_best : (p : InstanceParts) (most : ℕ) (bounds : List ℕ) → IsBest p (AtMost most) (map AtMost bounds) None → last_number most bounds ≡ most
no_best p most [] best = refl
no_best p most (k ∷ bounds) best = absurd best

-- a design that was decoded from what the solver found has no more borders than the last bound allows
pub found_within : (f : Formulas) (p : InstanceParts) (budget : ℕ) (s : Solving) (left : ℕ) (bounds : List ℕ) (best : Option (List CandidateId × Plan)) (values : List Bool) (count : ℕ)
    → IsUnderway f p budget s left bounds best → ShowsSolution s s.found → s.found ≡ Some values
    → ((k : ℕ) → k < length p.candidates → IsTrueIn values (f.unit k) → count ≤ k) → count ≤ length p.candidates → count ≤ last_number (length p.candidates) bounds
found_within f p budget s left bounds best values count was shows is few most =
    let solution : IsSolution s values = subst (λ (o : Option (List Bool)). ShowsSolution s o) is shows in
    count_within p f.unit values bounds count was.falling (subst (λ (us : List Lit). All (IsTrueIn values) us) was.units solution.units) few most

pub last_number-append : (most k : ℕ) (bounds : List ℕ) → last_number most (bounds ++ k ∷ []) ≡ k
last_number-append most k [] = refl
last_number-append most k (j ∷ bounds) = last_number-append j k bounds
