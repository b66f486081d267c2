-- A formula that a log refutes is unsatisfiable: a valuation that satisfies the live clauses satisfies each accepted clause.
use Rattle.std.proofs.Common.{◌≡◌, ℕ, ◌+◌, Bool, true, false, cond, not, ◌⊎◌, inl, inr, List, [], ◌∷◌, ◌++◌, length, map, refl, ap, sym, subst, ◌∙◌}
use Rattle.std.specs.Prelude.{nat_eq, Any, All, Option, Some, None, find, option_map}
use Rattle.std.specs.List.{list_any}
use Rattle.std.proofs.lemmas.List.Elements.{All-nil, All-cons, All-head, All-tail, All-push, All-filter, All-contains, Contains-push}
use Rattle.sat_core.specs.declared.literal.Lit.{Lit}
use Rattle.sat_core.specs.declared.literal.ClauseId.{ClauseId}
use Rattle.sat_core.specs.declared.step_fault.StepFault.{StepFault}
use Rattle.sat_core.specs.declared.step_fault.StepFault.TheVariants.{HintNotUnit}
use Rattle.sat_core.specs.Clauses.{negated, IsTrueIn, Satisfies, SatisfiesAll, IsUnsatisfiable}
use Rattle.sat_core.specs.Hints.{NumberedClause, clause_of, is_known, not_false, unit, fault, outcome_by, outcome_of, fault_after, hints_fault}
use Rattle.sat_core.specs.Derivation.{DerivedStep, adds, drops, ClauseDatabase, numbered_from, database_of, IsAccepted, after, AreAccepted, AddsEmptyClause, EndsInEmptyClause, Refutes}
use Rattle.sat_core.specs.Search.{Event, gives, derives, Search, search_of, after_event, IsNext, AreNext, log_of, units_of, RefutesWithUnits}
use Rattle.sat_core.proofs.AnyLemmas.{Any-none, Any-here, Any-cases, Any-filter}
use Rattle.sat_core.proofs.StepLaws.{vars_after, EndsInEmptyClause-tail}
use Rattle.sat_core.proofs.ValuationLaws.{not_both, known_is_true, clause_cases}

-- the valuation satisfies each live clause
abbrev pub IsModel : List Bool → List NumberedClause → Type 0
IsModel values live = All (λ clause. Satisfies values clause.lits) live

-- a true literal isn't false under known literals that are true
true_is_kept : (values : List Bool) (known : List Lit) → All (IsTrueIn values) known → (lit : Lit) → IsTrueIn values lit → not (is_known known (negated lit)) ≡ true
true_is_kept values known all lit holds =
    elim (is_known known (negated lit)) as (λ b. is_known known (negated lit) ≡ b → not b ≡ true) [
      | true ↦ λ found. absurd (not_both values lit holds (known_is_true values known (negated lit) found all))
      | false ↦ λ _. refl
    ] refl

pub some_not_false_is_true : (values : List Bool) (known lits : List Lit) → All (IsTrueIn values) known → Satisfies values lits → Any (IsTrueIn values) (not_false known lits)
unfolding Satisfies
some_not_false_is_true values known lits all satisfied = Any-filter (IsTrueIn values) (λ lit. not (is_known known (negated lit))) (true_is_kept values known all) lits satisfied

clause_of_model : (values : List Bool) (live : List NumberedClause) (id : ClauseId) (lits : List Lit) → IsModel values live → clause_of live id ≡ Some lits → Satisfies values lits
clause_of_model values [] id lits model found = absurd (cc)
clause_of_model values (clause ∷ live) id lits model found =
    elim (nat_eq clause.id.0 id.0) as (λ b. option_map (λ c. c.lits) (cond b (Some clause) (find (λ c. nat_eq c.id.0 id.0) live)) ≡ Some lits → Satisfies values lits) [
      | true ↦ λ here. subst (Satisfies values) (cc) (All-head (λ c. Satisfies values c.lits) clause live model)
      | false ↦ λ later. clause_of_model values live id lits (All-tail (λ c. Satisfies values c.lits) clause live model) later
    ] found

-- an outcome that no valuation can give: no literal is true where the known ones are
unit_is_true : (values : List Bool) (known rest : List Lit) (hints : List ClauseId) (others : Lit → Option StepFault) → Any (IsTrueIn values) rest → fault_after (outcome_by known rest) hints others ≡ None → (lit : Lit) × IsTrueIn values lit × (others lit ≡ None)
unit_is_true values known [] hints others any none = absurd (Any-none (IsTrueIn values) any)
unit_is_true values known (lit ∷ []) hints others any none =
    let holds : IsTrueIn values lit = elim (Any-cases (IsTrueIn values) lit [] any) [ inl here ↦ here | inr later ↦ absurd (Any-none (IsTrueIn values) later) ] in
    elim (is_known known lit) as (λ b. fault_after (cond b (fault HintNotUnit) (unit lit)) hints others ≡ None → (l : Lit) × IsTrueIn values l × (others l ≡ None)) [
      | true ↦ λ never. absurd (cc)
      | false ↦ λ fine. (lit, holds, fine)
    ] none
unit_is_true values known (lit ∷ other ∷ rest) hints others any none = absurd (cc)

-- no model of the live clauses has all known literals true, where the hints lead to a conflict
pub no_model_of_conflict : (values : List Bool) (live : List NumberedClause) (known : List Lit) (hints : List ClauseId) → IsModel values live → All (IsTrueIn values) known → hints_fault live known hints ≡ None → ⊥
no_model_of_conflict values live known [] model all none = cc
no_model_of_conflict values live known (hint ∷ hints) model all none =
    let others : Lit → Option StepFault = λ lit. hints_fault live (known ++ lit ∷ []) hints in
    elim (clause_of live hint) as (λ found. clause_of live hint ≡ found → fault_after (outcome_of known found) hints others ≡ None → ⊥) [
      | None ↦ λ is never. cc
      | Some lits ↦ λ is fine.
          let satisfied : Satisfies values lits = clause_of_model values live hint lits model is in
          let step = unit_is_true values known (not_false known lits) hints others (some_not_false_is_true values known lits all satisfied) fine in
          no_model_of_conflict values live (known ++ step.0 ∷ []) hints model (All-push (IsTrueIn values) known step.0 all step.1) step.2
    ] refl none

-- a model of the live clauses is a model of what an accepted step leaves
model_after : (values : List Bool) (database : ClauseDatabase) (step : DerivedStep) → length values ≡ database.vars → IsModel values database.live → IsAccepted database step → IsModel values (after database step).live
model_after values database (adds id lits hints) all model accepted =
    All-push (λ clause. Satisfies values clause.lits) database.live (record { id = id; lits = lits }) model
    (elim (clause_cases values lits (rw all accepted.clause.in_range)) [
      | inl satisfied ↦ satisfied
      | inr fails ↦ absurd (no_model_of_conflict values database.live (map negated lits) hints model fails accepted.conflict)
    ])
model_after values database (drops ids) all model accepted =
    All-filter (λ clause. not (list_any (λ id. nat_eq clause.id.0 id.0) ids)) (λ clause. Satisfies values clause.lits) database.live model

-- an added empty clause has no model
no_model_of_empty_clause : (values : List Bool) (database : ClauseDatabase) (step : DerivedStep) → AddsEmptyClause (Some step) → IsModel values (after database step).live → ⊥
unfolding Satisfies
no_model_of_empty_clause values database (adds id [] hints) empty model =
    let added : NumberedClause = record { id = id; lits = [] } in
    Any-none (IsTrueIn values) (All-contains (λ clause. Satisfies values clause.lits) (database.live ++ added ∷ []) added model (Contains-push database.live added))
no_model_of_empty_clause values database (adds id (lit ∷ lits) hints) empty model = absurd empty
no_model_of_empty_clause values database (drops ids) empty model = absurd empty

no_model_of_refutation : (values : List Bool) (database : ClauseDatabase) (steps : List DerivedStep) → length values ≡ database.vars → IsModel values database.live → AreAccepted database steps → EndsInEmptyClause steps → ⊥
no_model_of_refutation values database [] all model accepted ends = ends
no_model_of_refutation values database (step ∷ []) all model accepted ends = no_model_of_empty_clause values database step ends (model_after values database step all model accepted.0)
no_model_of_refutation values database (step ∷ second ∷ steps) all model accepted ends =
    no_model_of_refutation values (after database step) (second ∷ steps) (all ∙ sym (vars_after database step)) (model_after values database step all model accepted.0) accepted.1 (EndsInEmptyClause-tail step second steps ends)

model_of_formula : (values : List Bool) (first : ℕ) (clauses : List (List Lit)) → SatisfiesAll values clauses → IsModel values (numbered_from first clauses)
model_of_formula values first [] satisfied = All-nil (λ clause. Satisfies values clause.lits)
model_of_formula values first (clause ∷ clauses) satisfied =
    All-cons (λ clause. Satisfies values clause.lits) (record { id = record { 0 = first }; lits = clause }) (numbered_from (first + 1) clauses)
    (All-head (Satisfies values) clause clauses satisfied)
    (model_of_formula values (first + 1) clauses (All-tail (Satisfies values) clause clauses satisfied))

pub refuted_is_unsatisfiable : (vars : ℕ) (clauses : List (List Lit)) (steps : List DerivedStep) → Refutes vars clauses steps → IsUnsatisfiable vars clauses
unfolding IsUnsatisfiable
refuted_is_unsatisfiable vars clauses steps refutes values all satisfied =
    no_model_of_refutation values (database_of vars clauses) steps all (model_of_formula values 1 clauses satisfied) refutes.accepted refutes.empty_last

-- a true literal satisfies its clause of one literal, and is true where that is satisfied
unit_satisfied : (values : List Bool) (lit : Lit) → IsTrueIn values lit → Satisfies values (lit ∷ [])
unfolding Satisfies
unit_satisfied values lit holds = Any-here (IsTrueIn values) lit [] holds

unit_true : (values : List Bool) (lit : Lit) → Satisfies values (lit ∷ []) → IsTrueIn values lit
unfolding Satisfies
unit_true values lit satisfied = elim (Any-cases (IsTrueIn values) lit [] satisfied) [ inl here ↦ here | inr later ↦ absurd (Any-none (IsTrueIn values) later) ]

-- an event that may come next leaves a model of what was live and is given a model of what is live then
step_accepted : (s : Search) (step : DerivedStep) → IsNext s (derives step) → IsAccepted s.database step
step_accepted s (adds id lits hints) learned = learned.accepted
step_accepted s (drops ids) dropped = dropped.accepted

search_vars : (s : Search) (step : DerivedStep) → (after_event s (derives step)).database ≡ after s.database step
search_vars s (adds id lits hints) = refl
search_vars s (drops ids) = refl

-- where the log goes on, its end is that of the rest
ends_later : (step : DerivedStep) (rest : List DerivedStep) → EndsInEmptyClause (step ∷ rest) → (rest ≡ []) ⊎ EndsInEmptyClause rest
ends_later step [] ends = inl refl
ends_later step (second ∷ rest) ends = inr (EndsInEmptyClause-tail step second rest ends)

no_model_of_search : (values : List Bool) (s : Search) (events : List Event) → length values ≡ s.database.vars → IsModel values s.database.live → All (IsTrueIn values) (units_of events) → AreNext s events → EndsInEmptyClause (log_of events) → ⊥
no_model_of_search values s [] all model units next ends = ends
no_model_of_search values s (gives lit ∷ events) all model units next ends =
    no_model_of_search values (after_event s (gives lit)) events all
    (All-push (λ clause. Satisfies values clause.lits) s.database.live (record { id = record { 0 = s.database.last + 1 }; lits = lit ∷ [] }) model (unit_satisfied values lit (All-head (IsTrueIn values) lit (units_of events) units)))
    (All-tail (IsTrueIn values) lit (units_of events) units) next.1 ends
no_model_of_search values s (derives step ∷ events) all model units next ends =
    let accepted : IsAccepted s.database step = step_accepted s step next.0 in
    let model' : IsModel values (after s.database step).live = model_after values s.database step all model accepted in
    elim (ends_later step (log_of events) ends) [
      | inl last ↦ no_model_of_empty_clause values s.database step (subst (λ (rest : List DerivedStep). EndsInEmptyClause (step ∷ rest)) last ends) model'
      | inr later ↦ no_model_of_search values (after_event s (derives step)) events
          (all ∙ sym (ap (λ (d : ClauseDatabase). d.vars) (search_vars s step) ∙ vars_after s.database step))
          (subst (λ (d : ClauseDatabase). IsModel values d.live) (sym (search_vars s step)) model') units next.1 later
    ]

units_true : (values : List Bool) (units : List Lit) → SatisfiesAll values (map (λ lit. lit ∷ []) units) → All (IsTrueIn values) units
units_true values [] satisfied = All-nil (IsTrueIn values)
units_true values (lit ∷ units) satisfied = All-cons (IsTrueIn values) lit units
    (unit_true values lit (All-head (Satisfies values) (lit ∷ []) (map (λ lit. lit ∷ []) units) satisfied))
    (units_true values units (All-tail (Satisfies values) (lit ∷ []) (map (λ lit. lit ∷ []) units) satisfied))

both_parts : {X : Type 0} (P : X → Type 0) (xs ys : List X) → All P (xs ++ ys) → All P xs × All P ys
both_parts P [] ys all = (All-nil P, all)
both_parts P (x ∷ xs) ys all =
    let rest = both_parts P xs ys (All-tail P x (xs ++ ys) all) in
    (All-cons P x xs (All-head P x (xs ++ ys) all) rest.0, rest.1)

pub refuted_with_units : (vars : ℕ) (formula : List (List Lit)) (events : List Event) → RefutesWithUnits vars formula events → IsUnsatisfiable vars (formula ++ map (λ lit. lit ∷ []) (units_of events))
unfolding IsUnsatisfiable
refuted_with_units vars formula events refutes values all satisfied =
    let parts = both_parts (Satisfies values) formula (map (λ lit. lit ∷ []) (units_of events)) satisfied in
    no_model_of_search values (search_of vars formula) events all (model_of_formula values 1 formula parts.0) (units_true values (units_of events) parts.1) refutes.search refutes.empty_last
