-- What an encoding of a task is, and why there is none.
use Rattle.std.specs.Prelude.{◌≡◌, ◌<◌, ◌≤◌, ◌+◌, ◌-◌, ℕ, List, [], ◌∷◌, true, false, length, Some, slice_get}
use Rattle.sat_core.specs.declared.literal.Lit.{Lit}
use Rattle.sat_core.specs.Storage.{FormulaParts}
use Rattle.cell_net.specs.declared.parts.InstanceParts.{InstanceParts}
use Rattle.sweep_table.specs.Tables.{Table}
use Rattle.gap_clauses.specs.Gaps.{AreGaps}
use Rattle.gap_clauses.specs.Crowds.{IsCrowded}
use Rattle.border_counter.specs.Counter.{at_least_lit, not_at_least_lit}
use Rattle.clause_list.specs.Coding.{given_task, base_task, free_task, given_variables, free_variables, first_of_count}
use Rattle.clause_encoder.specs.declared.task.EncodeRefusal.{EncodeRefusal}
use Rattle.clause_encoder.specs.declared.task.EncodeRefusal.TheVariants.{TooManySweeps, TooManyWalks, TooManyVariables, TooManyClauses, TooManyLiterals, Memory}
use Rattle.clause_encoder.specs.declared.task.Task.{Task}
use Rattle.clause_encoder.specs.declared.task.Task.TheVariants.{Given, Free}
use Rattle.clause_encoder.specs.declared.limits.TheConstants.{VARIABLES, CLAUSES, LITERALS}
use Rattle.clause_encoder.specs.Writing.{literal_count}
use Rattle.clause_encoder.specs.Maps.{MapParts, IsMapOf}
use Rattle.clause_encoder.specs.Plans.{GapLists, HasFewWalks, counted_task}

-- how many variables a task has
abbrev pub task_variables : InstanceParts → List Table → Task → ℕ
task_variables p tables (Given layout) = given_variables p tables
task_variables p tables Free = free_variables p tables

-- the clauses of a task, of at most so many borders where it is free
abbrev pub task_clauses : InstanceParts → GapLists → List Table → Task → ℕ → List (List Lit)
task_clauses p gaps tables (Given layout) bound = given_task p gaps tables layout
task_clauses p gaps tables Free bound = free_task p gaps tables bound

-- the clauses that are counted, and how many units with them: a free task counts the unit of its bound whatever the bound is
abbrev pub sized_clauses : InstanceParts → List Table → Task → GapLists → List (List Lit)
sized_clauses p tables (Given layout) gaps = given_task p gaps tables layout
sized_clauses p tables Free gaps = counted_task p gaps tables

abbrev pub sized_units : Task → ℕ
sized_units (Given layout) = 0
sized_units Free = 1

-- the list has few walks, variables, clauses and literals: so many variables, and these clauses with so many units more
pub record HasFewOfAll (p : InstanceParts) (variables : ℕ) (clauses : List (List Lit)) (units : ℕ) : Type 0 where
  pub walks : HasFewWalks p
  pub few_variables : variables ≤ VARIABLES
  pub few_clauses : length clauses + units ≤ CLAUSES
  pub few_literals : literal_count clauses + units ≤ LITERALS

-- there are too many clauses of the list, or literals
pub record HasManyClauses (p : InstanceParts) (variables : ℕ) (clauses : GapLists → List (List Lit)) (units : ℕ) : Type 0 where
  pub gaps : GapLists
  pub are_gaps : AreGaps p gaps
  pub walks : HasFewWalks p
  pub few_variables : variables ≤ VARIABLES
  pub many : CLAUSES < length (clauses gaps) + units

pub record HasManyLiterals (p : InstanceParts) (variables : ℕ) (clauses : GapLists → List (List Lit)) (units : ℕ) : Type 0 where
  pub gaps : GapLists
  pub are_gaps : AreGaps p gaps
  pub walks : HasFewWalks p
  pub few_variables : variables ≤ VARIABLES
  pub few_clauses : length (clauses gaps) + units ≤ CLAUSES
  pub many : LITERALS < literal_count (clauses gaps) + units

-- the first section that has two cells with more than 64 walks between them
pub record IsFirstCrowded (p : InstanceParts) (section : ℕ) : Type 0 where
  pub crowded : IsCrowded p section
  pub first : (r : ℕ) → r < section → ¬ IsCrowded p r

-- Why there is no list of so many variables and these clauses, over given tables: the first that is too much, in this order;
-- want of memory has no cause.
abbrev pub IsListRefusal : InstanceParts → ℕ → (GapLists → List (List Lit)) → ℕ → EncodeRefusal → Type 0
IsListRefusal p variables clauses units (TooManySweeps train) = ⊥
IsListRefusal p variables clauses units (TooManyWalks section) = IsFirstCrowded p section.0
IsListRefusal p variables clauses units TooManyVariables = HasFewWalks p × (VARIABLES < variables)
IsListRefusal p variables clauses units TooManyClauses = HasManyClauses p variables clauses units
IsListRefusal p variables clauses units TooManyLiterals = HasManyLiterals p variables clauses units
IsListRefusal p variables clauses units Memory = Unit {0}

-- the clauses of the counter's order stand where the map says, and its variables begin there
pub record IsCounted (p : InstanceParts) (tables : List Table) (clauses : List (List Lit)) (m : MapParts) : Type 0 where
  pub counts : m.counts ≡ true
  pub first : m.first_of_count ≡ first_of_count p tables
  pub order : (j : ℕ) → 1 ≤ j → j < length p.candidates → slice_get clauses (m.before_order + j - 1) ≡ Some (not_at_least_lit m.first_of_count (length p.candidates) (j + 1) ∷ at_least_lit m.first_of_count (length p.candidates) j ∷ [])

-- the map of a task has the counter exactly where the task is free
abbrev pub IsTaskMap : InstanceParts → List Table → List (List Lit) → Task → MapParts → Type 0
IsTaskMap p tables clauses (Given layout) m = m.counts ≡ false
IsTaskMap p tables clauses Free m = IsCounted p tables clauses m

-- the formula is the list of the task, over these tables, and the map tells its variables
pub record IsEncoding (p : InstanceParts) (tables : List Table) (task : Task) (bound : ℕ) (f : FormulaParts) (m : MapParts) : Type 0 where
  pub gaps : GapLists
  pub are_gaps : AreGaps p gaps
  pub variables : f.vars ≡ task_variables p tables task
  pub clauses : f.clauses ≡ task_clauses p gaps tables task bound
  pub map : IsMapOf p tables m
  pub counter : IsTaskMap p tables f.clauses task m
  pub few : HasFewOfAll p (task_variables p tables task) (sized_clauses p tables task gaps) (sized_units task)

-- the clauses that are counted of a free task without its counter and its bound
abbrev pub base_sized : InstanceParts → List Table → GapLists → List (List Lit)
base_sized p tables gaps = base_task p gaps tables

-- the formula is the list of a free task without its counter and its bound, with so many variables more
pub record IsBaseEncoding (p : InstanceParts) (tables : List Table) (more : ℕ) (f : FormulaParts) (m : MapParts) : Type 0 where
  pub gaps : GapLists
  pub are_gaps : AreGaps p gaps
  pub variables : f.vars ≡ given_variables p tables + more
  pub clauses : f.clauses ≡ base_task p gaps tables
  pub map : IsMapOf p tables m
  pub counter : m.counts ≡ false
  pub few : HasFewOfAll p (given_variables p tables + more) (base_task p gaps tables) 0
