-- Two ends of one task are alike.
use Rattle.std.proofs.Common.{◌≡◌, ◌≢◌, ◌∙◌, ℕ, List, map, refl, sym, ap, subst}
use Rattle.std.specs.Prelude.{Result, Ok, Err}
use Rattle.sat_core.specs.declared.literal.Lit.{Lit}
use Rattle.sat_core.specs.Derivation.{DerivedStep}
use Rattle.cell_net.specs.declared.parts.InstanceParts.{InstanceParts}
use Rattle.derivation_log.specs.Steps.{derived_steps}
use Rattle.gap_clauses.specs.Gaps.{AreGaps}
use Rattle.sweep_table.specs.Parts.{table_of}
use Rattle.sweep_table.specs.Tables.{Table}
use Rattle.clause_list.specs.Coding.{given_task}
use Rattle.clause_encoder.specs.Plans.{GapLists, counted_task}
use Rattle.clause_encoder.specs.declared.task.EncodeRefusal.{EncodeRefusal}
use Rattle.clause_encoder.specs.declared.task.EncodeRefusal.TheVariants.{Memory}
use Rattle.clause_encoder.specs.declared.task.Task.{Task}
use Rattle.clause_encoder.specs.declared.task.Task.TheVariants.{Given, Free}
use Rattle.formula_laws.specs.Laws.{ClausesAreOne, RefusalsAreOne, RefusalsExclude, TablesAreOne}
use Rattle.log_checker.specs.Verdicts.{IsVerdict}
use Rattle.log_checker.specs.declared.verdict.LogVerdict.{LogVerdict}
use Rattle.task_driver.specs.Questions.{Formulas}
use Rattle.task_driver.specs.Outcomes.{vars_of, formula_of}
use Rattle.task_driver.specs.InstanceFormulas.{formulas_of}
use Rattle.task_driver.specs.TaskEnds.{task_of, bound_task, AreFormulasOf, SearchesEndAlike, ChecksAreOne}

same_over : (p : InstanceParts) (one other : GapLists) (tables : List Table) → ClausesAreOne p → AreGaps p one → AreGaps p other → formulas_of p one tables ≡ formulas_of p other tables
same_over p one other tables clauses are also =
    let given : given_task p one tables p.kept ≡ given_task p other tables p.kept = (clauses one other are also tables (Given p.kept) 0).0 in
    let free : counted_task p one tables ≡ counted_task p other tables = (clauses one other are also tables Free 0).1 in
    ap (λ (cs : List (List Lit)). record (formulas_of p one tables) { given = cs }) given ∙ ap (λ (cs : List (List Lit)). record (formulas_of p other tables) { free = cs }) free

-- an instance has one record of formulas
pub formulas_one : (p : InstanceParts) (task : Task) (f g : Formulas) → TablesAreOne p → ClausesAreOne p → AreFormulasOf p task f → AreFormulasOf p task g → f ≡ g
formulas_one p task f g tables clauses are also =
    are.formulas_are
    ∙ (ap (formulas_of p are.has.gaps) (tables are.has.sweeps also.has.sweeps are.has.are_tables also.has.are_tables)
    ∙ (same_over p are.has.gaps also.has.gaps (map (table_of p) also.has.sweeps) clauses are.has.are_gaps also.has.are_gaps
    ∙ sym also.formulas_are))

not_starved : {X : Type 0} (refusal : EncodeRefusal) (end : Result X EncodeRefusal) → end ≡ Err refusal → end ≢ Err Memory → refusal ≢ Memory
not_starved refusal end is some same = some (is ∙ ap Err same)

pub searches_alike : (p : InstanceParts) → ((task : Task) → RefusalsAreOne p task) → ((task : Task) → RefusalsExclude p task) → SearchesEndAlike p
searches_alike p refusals none q budget budget' refusal (Ok o) some fed is other = absurd (none (task_of p q) refusal some is other.are.has)
searches_alike p refusals none q budget budget' refusal (Err why) some fed is other = ap Err (sym (refusals (task_of p q) refusal why some (not_starved why (Err why) refl fed) is other))

pub checks_one : (p : InstanceParts) → TablesAreOne p → ClausesAreOne p → ((task : Task) → RefusalsAreOne p task) → ((task : Task) → RefusalsExclude p task)
    → ((vars : ℕ) (clauses : List (List Lit)) (steps : List DerivedStep) (one other : LogVerdict) → IsVerdict vars clauses steps one → IsVerdict vars clauses steps other → one ≡ other) → ChecksAreOne p
checks_one p tables clauses refusals none verdicts r (Ok v) (Ok w) is also fed fed' =
    let same : also.formulas ≡ is.formulas = formulas_one p (bound_task p r.bound) also.formulas is.formulas tables clauses also.are is.are in
    ap Ok (verdicts (vars_of is.formulas r.bound) (formula_of is.formulas p r.bound) (derived_steps r.log.steps) v w is.is
    (subst (λ (f : Formulas). IsVerdict (vars_of f r.bound) (formula_of f p r.bound) (derived_steps r.log.steps) w) same also.is))
checks_one p tables clauses refusals none verdicts r (Ok v) (Err why) is also fed fed' = absurd (none (bound_task p r.bound) why (not_starved why (Err why) refl fed') also is.are.has)
checks_one p tables clauses refusals none verdicts r (Err why) (Ok w) is also fed fed' = absurd (none (bound_task p r.bound) why (not_starved why (Err why) refl fed) is also.are.has)
checks_one p tables clauses refusals none verdicts r (Err why) (Err other) is also fed fed' = ap Err (refusals (bound_task p r.bound) why other (not_starved why (Err why) refl fed) (not_starved other (Err other) refl fed') is also)
