-- What outcomes show of the formulas of an instance is true.
use Rattle.std.proofs.Common.{◌≡◌, ◌≢◌, ℕ, zero, suc, ◌+◌, ◌*◌, ◌<◌, ◌≤◌, ◌^◌, eqb, List, [], ◌∷◌, ◌++◌, length, get_or, map, refl, sym, ap, ◌∙◌, subst, ⊎_elim, arith, Some}
use Rattle.std.specs.Prelude.{AllPairs, Contains}
use Rattle.std.specs.List.{IsDistinct, AllZip}
use Rattle.std.proofs.lemmas.Bool.{cases_lt}
use Rattle.std.proofs.lemmas.Bool.Decides.{Decides-eqb}
use Rattle.std.proofs.lemmas.Cmp.{nat_eq_equiv}
use Rattle.std.proofs.lemmas.Grind.{flat_map-append}
use Rattle.std.proofs.lemmas.List.{get_or-map, length-map, append-nil}
use Rattle.std.proofs.lemmas.List.Elements.{All-contains, All-contains_itself}
use Rattle.std.proofs.lemmas.Map.Made.{IsDistinct-from_AllPairs, length-le_from_is_member}
use Rattle.std.proofs.lemmas.Map.Steps.{length-le_from_distinct_below}
use Rattle.std.proofs.lemmas.Option.{slice_get-get_or}
use Rattle.sat_core.specs.declared.literal.Lit.{Lit}
use Rattle.sat_core.specs.Clauses.{IsUnsatisfiable}
use Rattle.sat_core.specs.Derivation.{DerivedStep, Refutes}
use Rattle.vss_lists.specs.Breaks.{HoldsOfEach}
use Rattle.derivation_log.specs.declared.step.Bound.{Bound}
use Rattle.derivation_log.specs.declared.step.Bound.TheVariants.{Given, AtMost}
use Rattle.cell_net.specs.Borders.{IsLayout, RisesAt}
use Rattle.cell_net.specs.Rules.{IsInstance}
use Rattle.cell_net.specs.declared.ids.CandidateId.{CandidateId}
use Rattle.cell_net.specs.declared.parts.InstanceParts.{InstanceParts}
use Rattle.gap_clauses.specs.Gaps.{AreGaps}
use Rattle.sweep_table.specs.Sweeps.{IsTableOf}
use Rattle.sweep_table.specs.Tables.{Table}
use Rattle.clause_list.specs.BorderClauses.{most_clauses}
use Rattle.clause_list.specs.Coding.{network_of, trains_of, first_of_count, free_variables, free_task, walks_in}
use Rattle.clause_list.specs.WholeList.{counted_families, whole}
use Rattle.clause_list.proofs.ListLaws.{is_in, is_there}
use Rattle.plan_laws.specs.Satisfied.{AreTables}
use Rattle.plan_values.specs.Laws.{GivenRefutes, FreeRefutes}
use Rattle.task_driver.specs.Questions.{IsPossible, Formulas}
use Rattle.std.proofs.Math.Nat.{div-le_of_le-mul}
use Rattle.std.proofs.lemmas.Nat.{mul-le}
use Rattle.derivation_log.specs.Steps.{derived_steps}
use Rattle.border_counter.specs.Counter.{sum_to}
use Rattle.clause_encoder.specs.Plans.{GapLists}
use Rattle.clause_encoder.specs.Encoding.{task_variables}
use Rattle.clause_encoder.specs.declared.limits.TheConstants.{VARIABLES}
use Rattle.clause_encoder.specs.declared.task.Task.{Task}
use Rattle.clause_encoder.specs.declared.task.Task.TheVariants as Task
use Rattle.log_checker.specs.Verdicts.{IsVerdict}
use Rattle.log_checker.specs.declared.verdict.LogVerdict.TheVariants as verdict
use Rattle.task_driver.specs.Outcomes.{vars_of, formula_of, RefuteBound, AreComplete}
use Rattle.task_driver.specs.InstanceFormulas.{formulas_of}
use Rattle.task_driver.specs.TaskEnds.{task_of, bound_task, AreFormulasOf, OutcomesAreTrue, RefutationsAreTrue}
use Rattle.task_driver.proofs.TableLemmas.{tables_in, are_tables, swept_in}
use Rattle.task_driver.proofs.MeaningLemmas.{CountsOfLayouts, answers}

-- candidates that rise at each place rise
rising : (xs : List CandidateId) → HoldsOfEach (RisesAt xs) xs → (i j : ℕ) (d : CandidateId) → i < j → j < length xs → (get_or xs i d).0 < (get_or xs j d).0
rising xs rises i zero d less within = absurd (omega arith)
rising xs rises i (suc j) d less within =
    let step : (get_or xs j d).0 < (get_or xs (suc j) d).0 = rises.at_each (suc j) (get_or xs (suc j) d) (slice_get-get_or xs (suc j) d within) j (get_or xs j d) (omega arith) (slice_get-get_or xs j d (omega arith)) in
    ⊎_elim
    (λ before. let front : (get_or xs i d).0 < (get_or xs j d).0 = rising xs rises i j d before (omega arith) in omega arith)
    (λ here. let same : i ≡ j = omega arith in subst (λ k. (get_or xs k d).0 < (get_or xs (suc j) d).0) (sym same) step)
    (cases_lt i j)

abbrev numbers : List CandidateId → List ℕ
numbers xs = map (λ c. c.0) xs

distinct : (xs : List CandidateId) → HoldsOfEach (RisesAt xs) xs → IsDistinct eqb (numbers xs)
distinct xs rises =
    let differ : AllPairs (λ x y. x ≢ y) (numbers xs) = λ i j d less within same.
    let few : j < length xs = omega (arith, length-map xs (λ c. c.0)) in
    let c : CandidateId = record { 0 = 0 } in
    let first : get_or (numbers xs) i d ≡ (get_or xs i c).0 = get_or-map (λ c. c.0) xs i c d (omega arith) in
    let second : get_or (numbers xs) j d ≡ (get_or xs j c).0 = get_or-map (λ c. c.0) xs j c d few in
    let more : (get_or xs i c).0 < (get_or xs j c).0 = rising xs rises i j c less few in
    omega arith in
    IsDistinct-from_AllPairs Decides-eqb (numbers xs) differ

-- a number of a list is that of one of its candidates
number_of : (xs : List CandidateId) (q : ℕ) → Contains (numbers xs) q → (c : CandidateId) × Contains xs c × (c.0 ≡ q)
number_of [] q (k, within, same) = absurd (omega arith)
number_of (x ∷ xs) q (zero, within, same) = (x, (0, omega arith, refl), same)
number_of (x ∷ xs) q (suc k, within, same) = let (c, (i, inside, at), is) = number_of xs q (k, omega arith, same) in (c, (suc i, omega arith, at), is)

has_number : (xs : List CandidateId) (c : CandidateId) → Contains xs c → Contains (numbers xs) c.0
has_number [] c (k, within, same) = absurd (omega arith)
has_number (x ∷ xs) c (zero, within, same) = (0, omega arith, ap (λ (b : CandidateId). b.0) same)
has_number (x ∷ xs) c (suc k, within, same) = let (i, inside, at) = has_number xs c (k, omega arith, same) in (suc i, omega arith, at)

-- a layout has at least the kept borders, and at most all candidates
pub layout_counts : (p : InstanceParts) → IsInstance p → CountsOfLayouts p
layout_counts p rules borders layout =
    let kept_rises : HoldsOfEach (RisesAt p.kept) p.kept = record { at_each = λ k item is. (rules.kept.at_each k item is).rises } in
    let fewer : length (numbers p.kept) ≤ length (numbers borders) = length-le_from_is_member nat_eq_equiv (numbers p.kept) (numbers borders) (distinct p.kept kept_rises) (λ q found.
    let (c, inside, is) = number_of p.kept q (is_there (numbers p.kept) q found) in
    is_in (numbers borders) q (subst (Contains (numbers borders)) is (has_number borders c (All-contains (Contains borders) p.kept c layout.holds_kept inside)))) in
    let most : length (numbers borders) ≤ length p.candidates = length-le_from_distinct_below (numbers borders) (length p.candidates) (distinct borders layout.set.rising) (λ q found.
    let (c, (k, within, same), is) = number_of borders q (is_there (numbers borders) q found) in
    let low : c.0 < length p.candidates = layout.set.in_range.at_each k c (slice_get-get_or borders k c within ∙ ap Some same) in
    omega arith) in
    (omega (arith, fewer, length-map p.kept (λ c. c.0), length-map borders (λ c. c.0)), omega (arith, most, length-map borders (λ c. c.0)))

-- the kept borders are a layout
pub kept_layout : (p : InstanceParts) → IsInstance p → IsLayout p p.kept
kept_layout p rules = record {
  set = record {
    rising = record { at_each = λ k item is. (rules.kept.at_each k item is).rises };
    in_range = record { at_each = λ k item is. (rules.kept.at_each k item is).in_range };
  };
  holds_kept = All-contains_itself p.kept;
}

-- the free formula with the unit of a bound is the task of the bound
pub formula_is : (p : InstanceParts) (gaps : List (List (List (List CandidateId)))) (tables : List Table) (most : ℕ) → formula_of (formulas_of p gaps tables) p (AtMost most) ≡ free_task p gaps tables most
formula_is p gaps tables most =
    let counted : List (List (List Lit)) = counted_families (walks_in gaps) (network_of p) tables (trains_of p tables) (first_of_count p tables) in
    let bound : List (List Lit) = most_clauses (first_of_count p tables) (length p.candidates) most in
    sym (flat_map-append (λ (each : List (List Lit)). each) counted (bound ∷ []) ∙ ap (λ xs. whole counted ++ xs) (append-nil bound))

-- nothing satisfies what a log refutes
abbrev LogsAreSound : Type 0
LogsAreSound = (vars : ℕ) (clauses : List (List Lit)) (steps : List DerivedStep) → Refutes vars clauses steps → IsUnsatisfiable vars clauses

refutes_bound : (f : Formulas) (p : InstanceParts) (b : Bound) (steps : List DerivedStep) → IsVerdict (vars_of f b) (formula_of f p b) steps verdict.Refutes → RefuteBound f p b steps
refutes_bound f p b steps is = is

-- refuted bounds are impossible
is_complete : (p : InstanceParts) (gaps : List (List (List (List CandidateId)))) (tables : List Table) → IsInstance p → AreGaps p gaps → AreTables p tables → AllZip (IsTableOf p) p.trains tables → free_variables p tables < 2 ^ 32 → LogsAreSound → GivenRefutes p gaps tables p.kept → ((most : ℕ) → FreeRefutes p gaps tables most) → (b : Bound) (steps : List DerivedStep) → RefuteBound (formulas_of p gaps tables) p b steps → ¬ IsPossible p b
is_complete p gaps tables rules gap_rules are swept numbers sound given free Given steps refutes =
    given rules gap_rules are swept (kept_layout p rules) (sound _ _ steps refutes)
is_complete p gaps tables rules gap_rules are swept numbers sound given free (AtMost most) steps refutes =
    free most rules gap_rules are swept numbers (subst (IsUnsatisfiable (free_variables p tables)) (formula_is p gaps tables most) (sound (free_variables p tables) (formula_of (formulas_of p gaps tables) p (AtMost most)) steps refutes))

-- the sum of so few numbers is small
few_to : (n : ℕ) → n ≤ 512 → sum_to n ≤ 131328
unfolding sum_to
few_to n few =
    let product : n * (n + 1) ≤ 512 * 513 = mul-le n (n + 1) 512 513 few (omega arith) in
    div-le_of_le-mul 2 (omega arith)

-- a task within the sizes has a free task of few variables beside it
pub few_numbers : (p : InstanceParts) (task : Task) (tables : List Table) → IsInstance p → task_variables p tables task ≤ VARIABLES → free_variables p tables < 2 ^ 32
few_numbers p (Task.Given layout) tables rules few =
    let more : sum_to (length p.candidates) ≤ 131328 = few_to (length p.candidates) rules.few_candidates in
    omega (arith, few)
few_numbers p Task.Free tables rules few = omega (arith, few)

-- refuted bounds are impossible
pub complete : (p : InstanceParts) (task : Task) (f : Formulas) → LogsAreSound → ((gaps : GapLists) (tables : List Table) → GivenRefutes p gaps tables p.kept) → ((gaps : GapLists) (tables : List Table) (most : ℕ) → FreeRefutes p gaps tables most)
    → IsInstance p → AreFormulasOf p task f → AreComplete f p
complete p task f sound given free rules are =
    subst (λ (g : Formulas). AreComplete g p) (sym are.formulas_are)
    (is_complete p are.has.gaps (tables_in p are.has.sweeps) rules are.has.are_gaps (are_tables p are.has.sweeps are.has.are_tables) (swept_in p are.has.sweeps are.has.are_tables)
    (few_numbers p task (tables_in p are.has.sweeps) rules are.has.few.few_variables) sound (given are.has.gaps (tables_in p are.has.sweeps)) (free are.has.gaps (tables_in p are.has.sweeps)))

pub outcomes_true : (p : InstanceParts) → LogsAreSound → ((gaps : GapLists) (tables : List Table) → GivenRefutes p gaps tables p.kept) → ((gaps : GapLists) (tables : List Table) (most : ℕ) → FreeRefutes p gaps tables most) → OutcomesAreTrue p
outcomes_true p sound given free rules q budget o end =
    answers end.formulas p q budget o (complete p (task_of p q) end.formulas sound given free rules end.are) (layout_counts p rules) end.shows

pub refutations_true : (p : InstanceParts) → LogsAreSound → ((gaps : GapLists) (tables : List Table) → GivenRefutes p gaps tables p.kept) → ((gaps : GapLists) (tables : List Table) (most : ℕ) → FreeRefutes p gaps tables most) → RefutationsAreTrue p
refutations_true p sound given free rules r end =
    complete p (bound_task p r.bound) end.formulas sound given free rules end.are r.bound (derived_steps r.log.steps) (refutes_bound end.formulas p r.bound (derived_steps r.log.steps) end.is)
