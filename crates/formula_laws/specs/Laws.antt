-- A task of an instance has one formula, or one refusal of its size.
use Rattle.std.specs.Prelude.{◌≡◌, ◌≢◌, ℕ, List, length, map}
use Rattle.cell_net.specs.declared.parts.InstanceParts.{InstanceParts}
use Rattle.gap_clauses.specs.Gaps.{AreGaps}
use Rattle.sweep_table.specs.Parts.{SweepParts, table_of}
use Rattle.sweep_table.specs.Tables.{Table}
use Rattle.clause_encoder.specs.Encoding.{HasFewOfAll, task_clauses, task_variables, sized_clauses, sized_units}
use Rattle.clause_encoder.specs.Plans.{GapLists}
use Rattle.clause_encoder.specs.SweepTables.{HaveTables, IsEncodeRefusal}
use Rattle.clause_encoder.specs.declared.task.EncodeRefusal.{EncodeRefusal}
use Rattle.clause_encoder.specs.declared.task.EncodeRefusal.TheVariants.{Memory}
use Rattle.clause_encoder.specs.declared.task.Task.{Task}

-- the task has a formula: gaps, tables of all trains, and over them a list within the sizes
pub record HasFormula (p : InstanceParts) (task : Task) : Type 0 where
  pub gaps : GapLists
  pub are_gaps : AreGaps p gaps
  pub sweeps : List SweepParts
  pub are_tables : HaveTables p (length p.trains) sweeps
  pub few : HasFewOfAll p (task_variables p (map (table_of p) sweeps) task) (sized_clauses p (map (table_of p) sweeps) task gaps) (sized_units task)

-- all lists of the trains' tables are the same tables of moves
abbrev pub TablesAreOne : InstanceParts → Type 0
TablesAreOne p = (one other : List SweepParts) → HaveTables p (length p.trains) one → HaveTables p (length p.trains) other → map (table_of p) one ≡ map (table_of p) other

-- over tables, a task has one list of clauses, and one list that is counted
abbrev pub ClausesAreOne : InstanceParts → Type 0
ClausesAreOne p = (one other : GapLists) → AreGaps p one → AreGaps p other → (tables : List Table) (task : Task) (bound : ℕ) →
    (task_clauses p one tables task bound ≡ task_clauses p other tables task bound) × (sized_clauses p tables task one ≡ sized_clauses p tables task other)

-- but for want of memory, a task has one refusal at most
abbrev pub RefusalsAreOne : InstanceParts → Task → Type 0
RefusalsAreOne p task = (one other : EncodeRefusal) → one ≢ Memory → other ≢ Memory → IsEncodeRefusal p task one → IsEncodeRefusal p task other → one ≡ other

-- and none where it has a formula
abbrev pub RefusalsExclude : InstanceParts → Task → Type 0
RefusalsExclude p task = (refusal : EncodeRefusal) → refusal ≢ Memory → IsEncodeRefusal p task refusal → ¬ HasFormula p task
