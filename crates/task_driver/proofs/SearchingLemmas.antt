-- How a search for the fewest borders goes on: a call of its solver, and a design with the unit of one border less.
use Rattle.std.proofs.Common.{◌≡◌, ◌∙◌, ℕ, ◌+◌, ◌<◌, ◌≤◌, Bool, List, [], ◌∷◌, ◌++◌, length, sym, ap, subst, arith}
use Rattle.std.specs.Prelude.{Option, Some, None}
use Rattle.std.proofs.lemmas.List.{length-map, map-append}
use Rattle.sat_core.specs.declared.literal.Lit.{Lit}
use Rattle.sat_core.specs.Clauses.{SatisfiesAll}
use Rattle.sat_core.specs.Storage.{FormulaParts}
use Rattle.derivation_log.specs.declared.step.Bound.TheVariants.{AtMost}
use Rattle.cell_net.specs.Rules.{IsInstance}
use Rattle.plan_decoder.specs.Decoding.{kept_tables, SatisfiesCount}
use Rattle.sat_core.specs.Search.{Event, gives, units_of}
use Rattle.border_counter.specs.Counter.{not_at_least_lit}
use Rattle.cell_net.specs.Plans.{IsLawful}
use Rattle.cell_net.specs.declared.ids.CandidateId.{CandidateId}
use Rattle.cell_net.specs.declared.parts.InstanceParts.{InstanceParts}
use Rattle.cell_net.specs.declared.plans.Plan.{Plan}
use Rattle.clause_encoder.specs.Maps.{MapParts}
use Rattle.clause_encoder.specs.declared.task.Task.TheVariants.{Free}
use Rattle.solver_face.specs.Solving.{Solving, IsSolution, IsSound, Searched, ShowsSolution, numbers_used}
use Rattle.solver_face.proofs.SolvingLaws.{numbers_used_at_first}
use Rattle.task_driver.specs.BoundUnits.{AreUnitsOf, bounds_in}
use Rattle.task_driver.specs.Encodings.{IsBoundEncoding}
use Rattle.task_driver.specs.Questions.{Formulas}
use Rattle.task_driver.specs.TaskEnds.{AreFormulasOf}
use Rattle.task_driver.specs.Underway.{HasCounter, IsSearching, IsUnderway, last_number}
use Rattle.task_driver.specs.declared.units.BoundUnit.{BoundUnit}
use Rattle.task_driver.proofs.CounterLemmas.{IsCounted, counted_layout, counter_in, no_unit}
use Rattle.task_driver.proofs.EncodingLemmas.{FreeFormulasSay, are_formulas, clauses_are, few_clauses, formulas_in, vars_are}
use Rattle.task_driver.proofs.SessionLemmas.{begin_underway, search_underway, bound_underway, found_within, last_number-append}
use Rattle.task_driver.proofs.UnitLemmas.{units_still, unit_more}

pub begin_searching : (f : Formulas) (p : InstanceParts) (m : MapParts) (budget : ℕ) (s : Solving) → AreFormulasOf p Free f → HasCounter p f m → s.vars ≡ f.free_vars → s.formula ≡ f.free → s.events ≡ [] → IsSearching f p m budget s budget [] None
begin_searching f p m budget s are counter vars formula none = record {
  formulas = are;
  counter = counter;
  underway = begin_underway f p budget s vars formula none;
  numbered = subst (λ (e : List Event). AreUnitsOf f.unit (length f.free) e []) (sym none) tt;
}

pub searched_on : (f : Formulas) (p : InstanceParts) (m : MapParts) (budget : ℕ) (before now : Solving) (had left : ℕ) (units : List BoundUnit) (best : Option (List CandidateId × Plan))
    → IsSearching f p m budget before had units best → Searched before now had left → IsSearching f p m budget now left units best
searched_on f p m budget before now had left units best was searched = record {
  formulas = was.formulas;
  counter = was.counter;
  underway = search_underway f p budget before now had left (bounds_in units) best was.underway searched;
  numbered = subst (λ (e : List Event). AreUnitsOf f.unit (length f.free) e units) (sym searched.grew) (units_still f.unit (length f.free) before.events searched.steps units was.numbered);
}

-- how many units there are
pub units_counted : (f : Formulas) (p : InstanceParts) (m : MapParts) (budget : ℕ) (s : Solving) (left : ℕ) (units : List BoundUnit) (best : Option (List CandidateId × Plan)) → IsSearching f p m budget s left units best → length units ≡ length (units_of s.events)
units_counted f p m budget s left units best is =
    let size : length (units_of s.events) ≡ length (bounds_in units) = ap length is.underway.units ∙ length-map (bounds_in units) f.unit in
    omega (arith, size, length-map units (λ (u : BoundUnit). u.most))

-- a design was found, and the unit of one border less was given
pub given_on : (f : Formulas) (p : InstanceParts) (m : MapParts) (budget : ℕ) (before now : Solving) (left : ℕ) (units : List BoundUnit) (best : Option (List CandidateId × Plan)) (u : BoundUnit) (layout : List CandidateId) (plan : Plan)
    → IsSearching f p m budget before left units best → now.vars ≡ before.vars → now.formula ≡ before.formula → now.events ≡ before.events ++ gives (not_at_least_lit m.first_of_count m.candidates (u.most + 1)) ∷ [] → IsSound now
    → u.id.0 ≡ numbers_used before + 1 → u.most < last_number (length p.candidates) (bounds_in units) → u.most < length p.candidates → length p.kept ≤ u.most → length layout ≡ u.most + 1 → IsLawful p layout plan
    → IsSearching f p m budget now left (units ++ u ∷ []) (Some (layout, plan))
given_on f p m budget before now left units best u layout plan was vars formula events sound number below within kept count lawful =
    let given : now.events ≡ before.events ++ gives (f.unit u.most) ∷ [] = events ∙ ap (λ (l : Lit). before.events ++ gives l ∷ []) (sym (was.counter.unit u.most)) in
    let size : length before.formula ≡ length f.free = ap length was.underway.formula in
    let more : bounds_in (units ++ u ∷ []) ≡ bounds_in units ++ u.most ∷ [] = map-append (λ (b : BoundUnit). b.most) units (u ∷ []) in
    record {
      formulas = was.formulas;
      counter = was.counter;
      underway = subst (λ (bs : List ℕ). IsUnderway f p budget now left bs (Some (layout, plan))) (sym more)
          (bound_underway f p budget before now left (bounds_in units) best u.most layout plan was.underway vars formula given sound below within kept count lawful);
      numbered = subst (λ (e : List Event). AreUnitsOf f.unit (length f.free) e (units ++ u ∷ [])) (sym given)
          (unit_more f.unit (length f.free) before.events units u (omega (arith, number, size)) was.numbered);
    }

-- what holds between two calls of the solver: the search goes on over the formula of all candidates, with the last bound, and the
-- numbers of clauses have room
pub record IsOn (p : InstanceParts) (parts : FormulaParts) (m : MapParts) (budget : ℕ) (s : Solving) (left : ℕ) (units : List BoundUnit) (best : Option (List CandidateId × Plan)) (clauses most : ℕ) : Type 0 where
  pub encoding : IsBoundEncoding p (AtMost (length p.candidates)) parts m
  pub search : IsSearching (formulas_in p (AtMost (length p.candidates)) parts m encoding) p m budget s left units best
  pub most_is : most ≡ last_number (length p.candidates) (bounds_in units)
  pub some_left : 0 < left
  pub count : clauses ≡ length s.formula
  pub numbers : numbers_used s + left + most ≤ 1008000000 + length p.candidates

pub begin_on : (p : InstanceParts) (parts : FormulaParts) (m : MapParts) (budget : ℕ) (s : Solving) (clauses most : ℕ) → (e : IsBoundEncoding p (AtMost (length p.candidates)) parts m) → 0 < budget → budget ≤ 1000000000
    → s.vars ≡ parts.vars → s.formula ≡ parts.clauses → s.events ≡ [] → clauses ≡ length parts.clauses → most ≡ length p.candidates → IsOn p parts m budget s budget [] None clauses most
begin_on p parts m budget s clauses most e some few vars formula none count most_is =
    let f : Formulas = formulas_in p (AtMost (length p.candidates)) parts m e in
    let free : parts.clauses ≡ f.free = clauses_are p (AtMost (length p.candidates)) parts m e ∙ no_unit f p in
    record {
      encoding = e;
      search = begin_searching f p m budget s (are_formulas p (AtMost (length p.candidates)) parts m e) (counter_in p parts m e) (vars ∙ vars_are p (AtMost (length p.candidates)) parts m e) (formula ∙ free) none;
      most_is = most_is;
      some_left = some;
      count = count ∙ ap length (sym formula);
      numbers = omega (arith, numbers_used_at_first s parts.clauses formula none, few_clauses p (AtMost (length p.candidates)) parts m e, most_is);
    }

-- what the solver found tells a layout of no more borders than the last bound allows, and no fewer than are kept
pub found_on : (p : InstanceParts) (parts : FormulaParts) (m : MapParts) (budget : ℕ) (before now : Solving) (had left : ℕ) (units : List BoundUnit) (best : Option (List CandidateId × Plan)) (clauses most : ℕ) (values : List Bool)
    → IsOn p parts m budget before had units best clauses most → Searched before now had left → ShowsSolution now now.found → now.found ≡ Some values → (length values ≡ parts.vars) × SatisfiesAll values parts.clauses
found_on p parts m budget before now had left units best clauses most values on searched shows is =
    let solution : IsSolution now values = subst (λ (o : Option (List Bool)). ShowsSolution now o) is shows in
    let f : Formulas = formulas_in p (AtMost (length p.candidates)) parts m on.encoding in
    let free : parts.clauses ≡ f.free = clauses_are p (AtMost (length p.candidates)) parts m on.encoding ∙ no_unit f p in (
      solution.for_each ∙ (searched.same_vars ∙ (on.search.underway.vars ∙ sym (vars_are p (AtMost (length p.candidates)) parts m on.encoding))),
      subst (SatisfiesAll values) (searched.same_formula ∙ (on.search.underway.formula ∙ sym free)) solution.formula,
    )

pub layout_on : (p : InstanceParts) (parts : FormulaParts) (m : MapParts) (budget : ℕ) (before now : Solving) (had left : ℕ) (units : List BoundUnit) (best : Option (List CandidateId × Plan)) (clauses most : ℕ) (values : List Bool)
    → (on : IsOn p parts m budget before had units best clauses most) → Searched before now had left → ShowsSolution now now.found → now.found ≡ Some values → FreeFormulasSay → IsInstance p
    → (layout : List CandidateId) (plan : Plan) → IsLawful p layout plan → ((k : ℕ) → SatisfiesCount p (kept_tables p m) k values → length layout ≤ k)
    → (length layout ≤ most) × (length layout ≤ length p.candidates) × (length p.kept ≤ length layout)
layout_on p parts m budget before now had left units best clauses most values on searched shows is say rules layout plan lawful count =
    let f : Formulas = formulas_in p (AtMost (length p.candidates)) parts m on.encoding in
    let found = found_on p parts m budget before now had left units best clauses most values on searched shows is in
    let counted : IsCounted p f values layout = counted_layout p parts m on.encoding values layout plan say rules found.0 found.1 lawful count in
    let within : length layout ≤ last_number (length p.candidates) (bounds_in units) =
    found_within f p budget now left (bounds_in units) best values (length layout) (searched_on f p m budget before now had left units best on.search searched).underway shows is counted.below counted.most in
    (omega (arith, within, on.most_is), counted.most, counted.least)

-- after a design the unit of one border less was given, under the next number
pub next_on : (p : InstanceParts) (parts : FormulaParts) (m : MapParts) (budget : ℕ) (before now later : Solving) (had left : ℕ) (units : List BoundUnit) (best : Option (List CandidateId × Plan)) (clauses most k : ℕ) (u : BoundUnit) (layout : List CandidateId) (plan : Plan)
    → IsOn p parts m budget before had units best clauses most → Searched before now had left → 0 < left → numbers_used now + left ≡ numbers_used before + had
    → later.vars ≡ now.vars → later.formula ≡ now.formula → later.events ≡ now.events ++ gives (not_at_least_lit m.first_of_count m.candidates (k + 1)) ∷ [] → IsSound later → numbers_used later ≡ numbers_used now + 1
    → u.id.0 ≡ numbers_used now + 1 → u.most ≡ k → k < most → k < length p.candidates → length p.kept ≤ k → length layout ≡ k + 1 → IsLawful p layout plan
    → IsOn p parts m budget later left (units ++ u ∷ []) (Some (layout, plan)) clauses k
next_on p parts m budget before now later had left units best clauses most k u layout plan on searched some spent vars formula events sound more number bound below within kept count lawful =
    let n : ℕ = length p.candidates in
    let f : Formulas = formulas_in p (AtMost n) parts m on.encoding in
    let search : IsSearching f p m budget now left units best = searched_on f p m budget before now had left units best on.search searched in
    let given : later.events ≡ now.events ++ gives (not_at_least_lit m.first_of_count m.candidates (u.most + 1)) ∷ [] =
    events ∙ ap (λ (b : ℕ). now.events ++ gives (not_at_least_lit m.first_of_count m.candidates (b + 1)) ∷ []) (sym bound) in
    let bounds : bounds_in (units ++ u ∷ []) ≡ bounds_in units ++ u.most ∷ [] = map-append (λ (b : BoundUnit). b.most) units (u ∷ []) in
    record {
      encoding = on.encoding;
      search = given_on f p m budget now later left units best u layout plan search vars formula given sound number (omega (arith, bound, on.most_is)) (omega arith) (omega arith) (omega arith) lawful;
      most_is = sym (ap (last_number n) bounds ∙ (last_number-append n u.most (bounds_in units) ∙ bound));
      some_left = some;
      count = on.count ∙ ap length (sym (formula ∙ searched.same_formula));
      numbers = omega (arith, on.numbers);
    }
