-- How a task ends: with an outcome or a verdict over the formulas of its instance, or with a refusal of size.
use Rattle.std.specs.Prelude.{◌≡◌, ◌≢◌, ℕ, map, Result, Ok, Err}
use Rattle.cell_net.specs.Rules.{IsInstance}
use Rattle.cell_net.specs.declared.parts.InstanceParts.{InstanceParts}
use Rattle.derivation_log.specs.Steps.{derived_steps}
use Rattle.derivation_log.specs.declared.step.Bound.{Bound}
use Rattle.derivation_log.specs.declared.step.Bound.TheVariants as bound
use Rattle.derivation_log.specs.declared.step.Refutation.{Refutation}
use Rattle.sweep_table.specs.Parts.{table_of}
use Rattle.clause_encoder.specs.SweepTables.{IsEncodeRefusal}
use Rattle.clause_encoder.specs.declared.task.Task.{Task}
use Rattle.clause_encoder.specs.declared.task.Task.TheVariants.{Given, Free}
use Rattle.clause_encoder.specs.declared.task.EncodeRefusal.{EncodeRefusal}
use Rattle.clause_encoder.specs.declared.task.EncodeRefusal.TheVariants.{Memory}
use Rattle.formula_laws.specs.Laws.{HasFormula}
use Rattle.log_checker.specs.Verdicts.{IsVerdict}
use Rattle.log_checker.specs.declared.verdict.LogVerdict.{LogVerdict}
use Rattle.log_checker.specs.declared.verdict.LogVerdict.TheVariants as verdict
use Rattle.task_driver.specs.Questions.{Question, of_kept, of_at_most, of_fewest, IsPossible, Formulas}
use Rattle.task_driver.specs.Outcomes.{Shows, Answers, vars_of, formula_of}
use Rattle.task_driver.specs.InstanceFormulas.{formulas_of}
use Rattle.vss_report.specs.declared.outcome.Outcome.{Outcome}

-- the task whose formula asks the question, and the one whose formula a bound's log refutes
abbrev pub task_of : InstanceParts → Question → Task
task_of p of_kept = Given p.kept
task_of p (of_at_most most) = Free
task_of p of_fewest = Free

abbrev pub bound_task : InstanceParts → Bound → Task
bound_task p bound.Given = Given p.kept
bound_task p (bound.AtMost most) = Free

-- these are the formulas of the instance, over its gaps and the tables of its trains, and that of the task is within the sizes
pub record AreFormulasOf (p : InstanceParts) (task : Task) (f : Formulas) : Type 0 where
  pub has : HasFormula p task
  pub formulas_are : f ≡ formulas_of p has.gaps (map (table_of p) has.sweeps)

-- the outcome shows what it tells, over the formulas of the instance
pub record IsOutcomeOf (p : InstanceParts) (q : Question) (budget : ℕ) (o : Outcome) : Type 0 where
  pub formulas : Formulas
  pub are : AreFormulasOf p (task_of p q) formulas
  pub shows : Shows formulas p q budget o

-- the verdict is that on the log, over the formula of its bound
pub record IsVerdictOf (p : InstanceParts) (r : Refutation) (v : LogVerdict) : Type 0 where
  pub formulas : Formulas
  pub are : AreFormulasOf p (bound_task p r.bound) formulas
  pub is : IsVerdict (vars_of formulas r.bound) (formula_of formulas p r.bound) (derived_steps r.log.steps) v

-- a search for the answer to a question, with a budget of conflicts, ends so; where there is a refusal of size, it is the first one
-- that there is, and want of memory has no cause
abbrev pub IsSearchEnd : InstanceParts → Question → ℕ → Result Outcome EncodeRefusal → Type 0
IsSearchEnd p q budget (Ok o) = IsOutcomeOf p q budget o
IsSearchEnd p q budget (Err refusal) = IsEncodeRefusal p (task_of p q) refusal

-- a check of a refutation ends so
abbrev pub IsCheckEnd : InstanceParts → Refutation → Result LogVerdict EncodeRefusal → Type 0
IsCheckEnd p r (Ok v) = IsVerdictOf p r v
IsCheckEnd p r (Err refusal) = IsEncodeRefusal p (bound_task p r.bound) refusal

-- what a search answers is true of layouts and plans
abbrev pub OutcomesAreTrue : InstanceParts → Type 0
OutcomesAreTrue p = IsInstance p → (q : Question) (budget : ℕ) (o : Outcome) → IsSearchEnd p q budget (Ok o) → Answers p q o

-- where a check ends with a log that refutes, nothing within its bound is feasible
abbrev pub RefutationsAreTrue : InstanceParts → Type 0
RefutationsAreTrue p = IsInstance p → (r : Refutation) → IsCheckEnd p r (Ok verdict.Refutes) → ¬ IsPossible p r.bound

-- any two ends are the same, but where there was want of memory
abbrev pub AreSameEnd : {X : Type 0} → Result X EncodeRefusal → Result X EncodeRefusal → Type 0
AreSameEnd one other = one ≢ Err Memory → other ≢ Err Memory → one ≡ other

-- of two searches for one answer, with any budgets, both are refused alike for size or none is
abbrev pub SearchesEndAlike : InstanceParts → Type 0
SearchesEndAlike p = (q : Question) (budget budget' : ℕ) (refusal : EncodeRefusal) (other : Result Outcome EncodeRefusal) → refusal ≢ Memory → other ≢ Err Memory →
    IsSearchEnd p q budget (Err refusal) → IsSearchEnd p q budget' other → other ≡ Err refusal

-- two checks of one refutation end alike
abbrev pub ChecksAreOne : InstanceParts → Type 0
ChecksAreOne p = (r : Refutation) (one other : Result LogVerdict EncodeRefusal) → IsCheckEnd p r one → IsCheckEnd p r other → AreSameEnd one other
