-- Laws of a solver: how its search goes on, for its own loop, and what its answers give to its caller.
use Rattle.std.proofs.Common.{◌≡◌, ℕ, ◌+◌, ◌<◌, Bool, List, [], ◌∷◌, ◌++◌, length, map, refl, sym, ap, subst, ◌∙◌, arith}
use Rattle.std.specs.Prelude.{All, Option, Some, None}
use Rattle.std.proofs.lemmas.List.{append-nil, append_assoc, map-append}
use Rattle.std.proofs.lemmas.List.Elements.{All-contains, Contains-push}
use Rattle.sat_core.specs.declared.literal.Lit.{Lit}
use Rattle.sat_core.specs.declared.literal.ClauseId.{ClauseId}
use Rattle.sat_core.specs.Clauses.{IsTrueIn, SatisfiesAll}
use Rattle.sat_core.specs.Derivation.{DerivedStep, adds, drops}
use Rattle.sat_core.specs.Search.{Event, gives, derives, search_of, IsLearned, IsDropped, IsNext, AreNext, log_of, units_of, adds_in}
use Rattle.sat_core.proofs.SearchLaws.{AreNext-append, adds_in-append, adds_searched, units_searched}
use Rattle.solver_face.specs.Solving.{Solving, IsSound, search_now, numbers_used, ShowsSolution, BeginsWithNoDrop, Searched}

-- nothing is derived yet
pub searched_none : (s : Solving) (had : ℕ) → IsSound s → Searched s s had had
searched_none s had sound = record { same_vars = refl; same_formula = refl; steps = []; begins = tt; grew = sym (append-nil s.events); spent = omega arith; sound = sound }

pub sound_more : (now later : Solving) (event : Event) → IsSound now → IsNext (search_now now) event → later.vars ≡ now.vars → later.formula ≡ now.formula → later.events ≡ now.events ++ event ∷ [] → IsSound later
sound_more now later event sound next vars formula grew = record {
  events =
      subst (λ (e : List Event). AreNext (search_of later.vars later.formula) e) (sym grew)
      (subst (λ (v : ℕ). AreNext (search_of v later.formula) (now.events ++ event ∷ [])) (sym vars)
      (subst (λ (f : List (List Lit)). AreNext (search_of now.vars f) (now.events ++ event ∷ [])) (sym formula)
      (AreNext-append (search_of now.vars now.formula) now.events (event ∷ []) sound.events (next, tt))));
}

grew_more : (before now later : List Event) (steps : List DerivedStep) (step : DerivedStep) → now ≡ before ++ map derives steps → later ≡ now ++ derives step ∷ [] → later ≡ before ++ map derives (steps ++ step ∷ [])
grew_more before now later steps step grew more =
    more ∙ (ap (λ (e : List Event). e ++ derives step ∷ []) grew ∙ (append_assoc before (map derives steps) (derives step ∷ []) ∙ ap (λ (e : List Event). before ++ e) (sym (map-append derives steps (step ∷ [])))))

begins_more : (steps : List DerivedStep) (id : ClauseId) (lits : List Lit) (hints : List ClauseId) → BeginsWithNoDrop steps → BeginsWithNoDrop (steps ++ adds id lits hints ∷ [])
begins_more [] id lits hints begins = tt
begins_more (adds i l h ∷ steps) id lits hints begins = tt
begins_more (drops ids ∷ steps) id lits hints begins = absurd begins

begins_drop : (steps : List DerivedStep) (ids : List ClauseId) → BeginsWithNoDrop steps → 0 < adds_in steps → BeginsWithNoDrop (steps ++ drops ids ∷ [])
begins_drop [] ids begins some = absurd (omega arith)
begins_drop (adds i l h ∷ steps) ids begins some = tt
begins_drop (drops other ∷ steps) ids begins some = absurd begins

-- a conflict: one of the budget is gone, and one step is added
pub searched_add : (before now later : Solving) (had left : ℕ) (id : ClauseId) (lits : List Lit) (hints : List ClauseId) → Searched before now had (left + 1) → IsLearned (search_now now) id lits hints
    → later.vars ≡ now.vars → later.formula ≡ now.formula → later.events ≡ now.events ++ derives (adds id lits hints) ∷ [] → Searched before later had left
searched_add before now later had left id lits hints was learned vars formula grew = record {
  same_vars = vars ∙ was.same_vars;
  same_formula = formula ∙ was.same_formula;
  steps = was.steps ++ adds id lits hints ∷ [];
  begins = begins_more was.steps id lits hints was.begins;
  grew = grew_more before.events now.events later.events was.steps (adds id lits hints) was.grew grew;
  spent = let more : adds_in (was.steps ++ adds id lits hints ∷ []) ≡ adds_in was.steps + 1 = adds_in-append was.steps (adds id lits hints ∷ []) in let spent : left + 1 + adds_in was.steps ≡ had = was.spent in omega arith;
  sound = sound_more now later (derives (adds id lits hints)) was.sound learned vars formula grew;
}

begins_on : (one other : List DerivedStep) → BeginsWithNoDrop one → BeginsWithNoDrop other → BeginsWithNoDrop (one ++ other)
begins_on [] other first second = second
begins_on (adds id lits hints ∷ one) other first second = tt
begins_on (drops ids ∷ one) other first second = absurd first

-- one search after another is one
pub searched_on : (first now later : Solving) (had some left : ℕ) → Searched first now had some → Searched now later some left → Searched first later had left
searched_on first now later had some left one two = record {
  same_vars = two.same_vars ∙ one.same_vars;
  same_formula = two.same_formula ∙ one.same_formula;
  steps = one.steps ++ two.steps;
  begins = begins_on one.steps two.steps one.begins two.begins;
  grew = two.grew ∙ (ap (λ (e : List Event). e ++ map derives two.steps) one.grew ∙ (append_assoc first.events (map derives one.steps) (map derives two.steps) ∙ ap (λ (e : List Event). first.events ++ e) (sym (map-append derives one.steps two.steps))));
  spent = let more : adds_in (one.steps ++ two.steps) ≡ adds_in one.steps + adds_in two.steps = adds_in-append one.steps two.steps in let a : some + adds_in one.steps ≡ had = one.spent in let b : left + adds_in two.steps ≡ some = two.spent in omega arith;
  sound = two.sound;
}

-- a drop costs nothing, and comes behind a conflict of the same call
pub searched_drop : (before now later : Solving) (had left : ℕ) (ids : List ClauseId) → Searched before now had left → left < had → IsDropped (search_now now) ids
    → later.vars ≡ now.vars → later.formula ≡ now.formula → later.events ≡ now.events ++ derives (drops ids) ∷ [] → Searched before later had left
searched_drop before now later had left ids was less dropped vars formula grew = record {
  same_vars = vars ∙ was.same_vars;
  same_formula = formula ∙ was.same_formula;
  steps = was.steps ++ drops ids ∷ [];
  begins = begins_drop was.steps ids was.begins (let spent : left + adds_in was.steps ≡ had = was.spent in omega arith);
  grew = grew_more before.events now.events later.events was.steps (drops ids) was.grew grew;
  spent = let more : adds_in (was.steps ++ drops ids ∷ []) ≡ adds_in was.steps + 0 = adds_in-append was.steps (drops ids ∷ []) in let spent : left + adds_in was.steps ≡ had = was.spent in omega arith;
  sound = sound_more now later (derives (drops ids)) was.sound dropped vars formula grew;
}

-- a unit that is given
pub sound_unit : (now later : Solving) (lit : Lit) → IsSound now → IsNext (search_now now) (gives lit) → later.vars ≡ now.vars → later.formula ≡ now.formula → later.events ≡ now.events ++ gives lit ∷ [] → IsSound later
sound_unit now later lit sound next vars formula grew = sound_more now later (gives lit) sound next vars formula grew

-- a solver that was given a unit, or that searched, still makes a search of its formula
pub conflicts_grow : (before now : Solving) (had left : ℕ) → Searched before now had left → adds_in (log_of now.events) + left ≡ adds_in (log_of before.events) + had
conflicts_grow before now had left searched =
    let grew : adds_in (log_of now.events) ≡ adds_in (log_of before.events) + adds_in searched.steps = ap (λ e. adds_in (log_of e)) searched.grew ∙ adds_searched before.events searched.steps in
    let spent : left + adds_in searched.steps ≡ had = searched.spent in
    omega arith

-- the events of a sound solver of that formula
pub search_is : (s : Solving) (vars : ℕ) (formula : List (List Lit)) → IsSound s → s.vars ≡ vars → s.formula ≡ formula → AreNext (search_of vars formula) s.events
search_is s vars formula sound same same_formula =
    subst (λ (v : ℕ). AreNext (search_of v formula) s.events) same (subst (λ (f : List (List Lit)). AreNext (search_of s.vars f) s.events) same_formula sound.events)

pub numbers_used_at_first : (s : Solving) (formula : List (List Lit)) → s.formula ≡ formula → s.events ≡ [] → numbers_used s ≡ length formula
numbers_used_at_first s formula same none =
    let units : length (units_of s.events) ≡ 0 = rw none refl in
    let adds : adds_in (log_of s.events) ≡ 0 = rw none refl in
    let lengths : length s.formula ≡ length formula = ap length same in
    omega arith

-- the valuation that is shown satisfies the formula and the last unit
pub solution_of : (s : Solving) (formula : List (List Lit)) (front : List Lit) (lit : Lit) (found : Option (List Bool)) → s.formula ≡ formula → units_of s.events ≡ front ++ lit ∷ []
    → ShowsSolution s found → (values : List Bool) × SatisfiesAll values formula × IsTrueIn values lit
solution_of s formula front lit None same units shows = absurd shows
solution_of s formula front lit (Some values) same units shows = (
  values,
  subst (λ (f : List (List Lit)). SatisfiesAll values f) same shows.formula,
  All-contains (IsTrueIn values) (front ++ lit ∷ []) lit (subst (λ (u : List Lit). All (IsTrueIn values) u) units shows.units) (Contains-push front lit),
)

-- what a search takes of the numbers is what it spends of the budget
pub numbers_used_grows : (before now : Solving) (had left : ℕ) → Searched before now had left → numbers_used now + left ≡ numbers_used before + had
numbers_used_grows before now had left searched =
    let grew : adds_in (log_of now.events) + left ≡ adds_in (log_of before.events) + had = conflicts_grow before now had left searched in
    let units : length (units_of now.events) ≡ length (units_of before.events) = ap (λ e. length (units_of e)) searched.grew ∙ ap length (units_searched before.events searched.steps) in
    let formula : length now.formula ≡ length before.formula = ap length searched.same_formula in
    omega arith

pub units_stay : (before now : Solving) (had left : ℕ) → Searched before now had left → units_of now.events ≡ units_of before.events
units_stay before now had left searched = ap units_of searched.grew ∙ units_searched before.events searched.steps
