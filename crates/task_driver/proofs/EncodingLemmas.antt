-- What the encoder's answer for a bound says of the formulas of the instance.
use Rattle.std.proofs.Common.{◌≡◌, ◌∙◌, ℕ, ◌+◌, ◌<◌, ◌≤◌, Bool, true, false, cond, nat_lt, List, [], ◌∷◌, ◌++◌, length, map, refl, sym, ap, subst, inl, inr, arith, min}
use Rattle.std.specs.Prelude.{All}
use Rattle.std.proofs.lemmas.List.{length-append}
use Rattle.std.proofs.lemmas.Bool.Decides.{nat_tests}
use Rattle.std.proofs.lemmas.List.Elements.{All-head, All-contains, Contains-push}
use Rattle.sat_core.specs.declared.literal.Lit.{Lit}
use Rattle.sat_core.specs.Clauses.{SatisfiesAll, IsClause, IsOver}
use Rattle.sat_core.specs.Storage.{FormulaParts}
use Rattle.cell_net.specs.Rules.{IsInstance}
use Rattle.cell_net.specs.declared.ids.CandidateId.{CandidateId}
use Rattle.cell_net.specs.declared.parts.InstanceParts.{InstanceParts}
use Rattle.derivation_log.specs.Steps.{derived_steps}
use Rattle.derivation_log.specs.declared.step.Refutation.{Refutation}
use Rattle.derivation_log.specs.declared.step.Bound.{Bound}
use Rattle.derivation_log.specs.declared.step.Bound.TheVariants.{Given, AtMost}
use Rattle.sweep_table.specs.Tables.{Table}
use Rattle.clause_encoder.specs.Plans.{GapLists}
use Rattle.clause_encoder.specs.Maps.{MapParts}
use Rattle.log_checker.specs.Verdicts.{IsVerdict}
use Rattle.log_checker.specs.declared.verdict.LogVerdict.{LogVerdict}
use Rattle.plan_decoder.specs.Decoding.{kept_tables, KeepsTables, SatisfiesCount, SatisfiesGiven, SatisfiesTask, FreeFormulaSays}
use Rattle.task_driver.specs.Questions.{Question, of_kept, of_at_most, of_fewest, IsAskedFor, first_bound, Formulas}
use Rattle.task_driver.specs.Outcomes.{vars_of, formula_of}
use Rattle.task_driver.specs.InstanceFormulas.{formulas_of}
use Rattle.task_driver.specs.TaskEnds.{task_of, bound_task, AreFormulasOf, IsVerdictOf}
use Rattle.task_driver.specs.Encodings.{IsBoundEncoding, AsksOnce}
use Rattle.task_driver.proofs.TableLemmas.{tables_in, rules_in, swept_in}
use Rattle.task_driver.proofs.Truth.{kept_layout, formula_is}

-- the formulas of the instance over the gaps and the tables of the encoding
abbrev pub formulas_in : (p : InstanceParts) (b : Bound) (f : FormulaParts) (m : MapParts) → IsBoundEncoding p b f m → Formulas
formulas_in p b f m e = formulas_of p e.encoding.gaps (tables_in p m.tables)

pub are_formulas : (p : InstanceParts) (b : Bound) (f : FormulaParts) (m : MapParts) (e : IsBoundEncoding p b f m) → AreFormulasOf p (bound_task p b) (formulas_in p b f m e)
are_formulas p b f m e = record {
  has = record { gaps = e.encoding.gaps; are_gaps = e.encoding.are_gaps; sweeps = m.tables; are_tables = e.tables; few = e.encoding.few };
  formulas_are = refl;
}

pub vars_are : (p : InstanceParts) (b : Bound) (f : FormulaParts) (m : MapParts) (e : IsBoundEncoding p b f m) → f.vars ≡ vars_of (formulas_in p b f m e) b
vars_are p Given f m e = e.encoding.variables
vars_are p (AtMost most) f m e = e.encoding.variables

pub clauses_are : (p : InstanceParts) (b : Bound) (f : FormulaParts) (m : MapParts) (e : IsBoundEncoding p b f m) → f.clauses ≡ formula_of (formulas_in p b f m e) p b
clauses_are p Given f m e = e.encoding.clauses
clauses_are p (AtMost most) f m e = e.encoding.clauses ∙ sym (formula_is p e.encoding.gaps (tables_in p m.tables) most)

-- there is a unit behind the formula, or none
few_units : (n k : ℕ) (lit : Lit) → length (cond (nat_lt k n) ((lit ∷ []) ∷ []) []) ≤ 1
few_units n k lit = one (nat_lt k n)
  where
    one : (b : Bool) → length (cond b ((lit ∷ []) ∷ []) []) ≤ 1
    one true = omega arith
    one false = omega arith

pub few_clauses : (p : InstanceParts) (b : Bound) (f : FormulaParts) (m : MapParts) → IsBoundEncoding p b f m → length f.clauses ≤ 8000000
few_clauses p Given f m e = omega (arith, e.encoding.few.few_clauses, ap length e.encoding.clauses)
few_clauses p (AtMost most) f m e =
    let formulas : Formulas = formulas_in p (AtMost most) f m e in
    let size : length f.clauses ≡ length formulas.free + length (cond (nat_lt most (length p.candidates)) ((formulas.unit most ∷ []) ∷ []) []) =
    ap length (clauses_are p (AtMost most) f m e) ∙ length-append formulas.free (cond (nat_lt most (length p.candidates)) ((formulas.unit most ∷ []) ∷ []) []) in
    omega (arith, few_units (length p.candidates) most (formulas.unit most), e.encoding.few.few_clauses)

pub keeps_tables : (p : InstanceParts) (b : Bound) (f : FormulaParts) (m : MapParts) → IsBoundEncoding p b f m → KeepsTables p m
keeps_tables p b f m e = record { for_each = e.tables.for_each; rules = rules_in p m.tables e.tables; each = swept_in p m.tables e.tables; map = e.encoding.map }

-- what `free_formulas_say` hands to its caller
abbrev pub FreeFormulasSay : Type 0
FreeFormulasSay = (values : List Bool) (p : InstanceParts) (gaps : GapLists) (tables : List Table) (most : ℕ) → FreeFormulaSays values p gaps tables most

given_satisfied : (p : InstanceParts) (f : FormulaParts) (m : MapParts) (values : List Bool) → IsInstance p → IsBoundEncoding p Given f m → SatisfiesAll values f.clauses → SatisfiesGiven p (kept_tables p m) p.kept values
given_satisfied p f m values rules e sat = record { is_layout = kept_layout p rules; gaps = e.encoding.gaps; are_gaps = e.encoding.are_gaps; clauses = subst (SatisfiesAll values) e.encoding.clauses sat }

-- what a valuation of the bound's formula satisfies
pub satisfies_task : (b : Bound) (p : InstanceParts) (f : FormulaParts) (m : MapParts) (values : List Bool) → FreeFormulasSay → IsInstance p → IsBoundEncoding p b f m → length values ≡ f.vars → SatisfiesAll values f.clauses → SatisfiesTask p (kept_tables p m) values
satisfies_task Given p f m values say rules e size sat = inr (p.kept, given_satisfied p f m values rules e sat)
satisfies_task (AtMost most) p f m values say rules e size sat =
    inl (say values p e.encoding.gaps (tables_in p m.tables) most e.encoding.are_gaps (size ∙ e.encoding.variables) (omega (arith, e.encoding.few.few_variables, e.encoding.variables)) (subst (SatisfiesAll values) e.encoding.clauses sat)).0

-- a decoded layout is within the bound
abbrev pub IsWithin : InstanceParts → Bound → List CandidateId → Type 0
IsWithin p Given layout = layout ≡ p.kept
IsWithin p (AtMost most) layout = length layout ≤ most

pub decoded_within : (b : Bound) (p : InstanceParts) (f : FormulaParts) (m : MapParts) (values : List Bool) (layout : List CandidateId) → FreeFormulasSay → IsInstance p → IsBoundEncoding p b f m → length values ≡ f.vars → SatisfiesAll values f.clauses
    → ((given : List CandidateId) → SatisfiesGiven p (kept_tables p m) given values → layout ≡ given) → ((most : ℕ) → SatisfiesCount p (kept_tables p m) most values → length layout ≤ most) → IsWithin p b layout
decoded_within Given p f m values layout say rules e size sat given count = given p.kept (given_satisfied p f m values rules e sat)
decoded_within (AtMost most) p f m values layout say rules e size sat given count =
    count most (say values p e.encoding.gaps (tables_in p m.tables) most e.encoding.are_gaps (size ∙ e.encoding.variables) (omega (arith, e.encoding.few.few_variables, e.encoding.variables)) (subst (SatisfiesAll values) e.encoding.clauses sat)).1

-- a verdict over the formula that was encoded
pub verdict_of : (p : InstanceParts) (r : Refutation) (f : FormulaParts) (m : MapParts) (v : LogVerdict) → IsBoundEncoding p r.bound f m → IsVerdict f.vars f.clauses (derived_steps r.log.steps) v → IsVerdictOf p r v
verdict_of p r f m v e is = record {
  formulas = formulas_in p r.bound f m e;
  are = are_formulas p r.bound f m e;
  is = subst (λ (cs : List (List Lit)). IsVerdict (vars_of (formulas_in p r.bound f m e) r.bound) cs (derived_steps r.log.steps) v) (clauses_are p r.bound f m e)
      (subst (λ (n : ℕ). IsVerdict n f.clauses (derived_steps r.log.steps) v) (vars_are p r.bound f m e) is);
}

-- the clauses of the formula are clauses over its variables
pub all_clauses : (p : InstanceParts) (b : Bound) (f : FormulaParts) (m : MapParts) (e : IsBoundEncoding p b f m) → All (IsClause f.vars) f.clauses → All (IsClause (vars_of (formulas_in p b f m e) b)) (formula_of (formulas_in p b f m e) p b)
all_clauses p b f m e all =
    subst (λ (cs : List (List Lit)). All (IsClause (vars_of (formulas_in p b f m e) b)) cs) (clauses_are p b f m e) (subst (λ (n : ℕ). All (IsClause n) f.clauses) (vars_are p b f m e) all)

-- a question that asks about one bound
pub first_asked : (p : InstanceParts) (q : Question) (b : Bound) → AsksOnce p q b → b ≡ first_bound p q
first_asked p of_kept b asks = asks
first_asked p (of_at_most most) b asks = asks
first_asked p of_fewest b asks = absurd asks

pub task_asked : (p : InstanceParts) (q : Question) (b : Bound) → AsksOnce p q b → bound_task p b ≡ task_of p q
task_asked p of_kept b asks = ap (bound_task p) asks
task_asked p (of_at_most most) b asks = ap (bound_task p) asks
task_asked p of_fewest b asks = absurd asks

pub within_asked : (p : InstanceParts) (q : Question) (b : Bound) (layout : List CandidateId) → AsksOnce p q b → IsWithin p b layout → IsAskedFor p q layout
within_asked p of_kept b layout asks within = subst (λ (c : Bound). IsWithin p c layout) asks within
within_asked p (of_at_most most) b layout asks within =
    let few : length layout ≤ min most (length p.candidates) = subst (λ (c : Bound). IsWithin p c layout) asks within in omega arith
within_asked p of_fewest b layout asks within = absurd asks

-- the unit of a bound below the number of candidates is over the formula's variables
pub unit_over : (p : InstanceParts) (f : Formulas) (k : ℕ) → All (IsClause f.free_vars) (formula_of f p (AtMost k)) → k < length p.candidates → IsOver f.free_vars (f.unit k)
unit_over p f k clauses below =
    let test : nat_lt k (length p.candidates) ≡ true = grind (arith, nat_tests) in
    let unit : List Lit = f.unit k ∷ [] in
    let all : All (IsClause f.free_vars) (f.free ++ unit ∷ []) = subst (λ (b : Bool). All (IsClause f.free_vars) (f.free ++ cond b (unit ∷ []) [])) test clauses in
    All-head (IsOver f.free_vars) (f.unit k) [] (All-contains (IsClause f.free_vars) (f.free ++ unit ∷ []) unit all (Contains-push f.free unit)).in_range
