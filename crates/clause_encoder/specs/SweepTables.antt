-- The tables of the sweeps of an instance's trains.
use Rattle.std.specs.Prelude.{◌≡◌, ◌<◌, ◌≤◌, ◌+◌, ℕ, List, length, map, Some, slice_get, slice_index_or}
use Rattle.cell_net.specs.declared.parts.InstanceParts.{InstanceParts}
use Rattle.cell_net.specs.declared.trains.TrainSpec.{TrainSpec}
use Rattle.sweep_table.specs.Tables.{IsTable}
use Rattle.sweep_table.specs.Parts.{SweepParts, table_of}
use Rattle.cell_net.specs.declared.ids.TrainId.{TrainId}
use Rattle.sweep_table.specs.declared.refusal.TableRefusal.{TableRefusal}
use Rattle.sweep_table.specs.declared.refusal.TableRefusal.TheVariants as table_refusal
use Rattle.sweep_table.specs.Sweeps.{IsTableOf, HasTooManySweeps}
use Rattle.sat_core.specs.Storage.{FormulaParts}
use Rattle.clause_list.specs.Coding.{given_variables}
use Rattle.clause_encoder.specs.Maps.{MapParts}
use Rattle.clause_encoder.specs.Encoding.{IsEncoding, IsBaseEncoding, IsListRefusal, base_sized, task_variables, sized_clauses, sized_units}
use Rattle.clause_encoder.specs.declared.task.Task.{Task}
use Rattle.clause_encoder.specs.declared.task.EncodeRefusal.{EncodeRefusal}
use Rattle.clause_encoder.specs.declared.task.EncodeRefusal.TheVariants.{TooManySweeps, TooManyWalks, TooManyVariables, TooManyClauses, TooManyLiterals, Memory}

-- the table is that of the train's sweeps, which are 50,000 at most
pub record IsSweepTable (p : InstanceParts) (train : ℕ) (sweeps : SweepParts) : Type 0 where
  pub rules : IsTable p (table_of p sweeps)
  pub few : length sweeps.sweeps ≤ 50000
  pub of_train : (t : TrainSpec) → slice_get p.trains train ≡ Some t → IsTableOf p t (table_of p sweeps)

-- these are the tables of the first so many trains
pub record HaveTables (p : InstanceParts) (count : ℕ) (tables : List SweepParts) : Type 0 where
  pub for_each : length tables ≡ count
  pub each : (i : ℕ) (d : SweepParts) → i < count → IsSweepTable p i (slice_index_or tables i d)

-- the first train that has more than 50,000 sweeps: those before it have tables
pub record IsFirstManySwept (p : InstanceParts) (train : ℕ) : Type 0 where
  pub spec : TrainSpec
  pub is : slice_get p.trains train ≡ Some spec
  pub many : HasTooManySweeps p spec
  pub tables : List SweepParts
  pub first : HaveTables p train tables

-- why there is no formula, where a train has no table
abbrev pub swept_refusal : TableRefusal → TrainId → EncodeRefusal
swept_refusal table_refusal.TooManySweeps train = TooManySweeps train
swept_refusal table_refusal.Memory train = Memory

-- why not all trains have tables; want of memory has no cause
abbrev pub IsSweepRefusal : InstanceParts → EncodeRefusal → Type 0
IsSweepRefusal p (TooManySweeps train) = IsFirstManySwept p train.0
IsSweepRefusal p (TooManyWalks section) = ⊥
IsSweepRefusal p TooManyVariables = ⊥
IsSweepRefusal p TooManyClauses = ⊥
IsSweepRefusal p TooManyLiterals = ⊥
IsSweepRefusal p Memory = Unit {0}

-- the formula and the map are those of the task over the tables of all trains' sweeps, which the map keeps
pub record IsSweepEncoding (p : InstanceParts) (task : Task) (bound : ℕ) (f : FormulaParts) (m : MapParts) : Type 0 where
  pub tables : HaveTables p (length p.trains) m.tables
  pub encoding : IsEncoding p (map (table_of p) m.tables) task bound f m

-- all trains have tables, and there is no list over these
pub record IsRefusedOver (p : InstanceParts) (task : Task) (refusal : EncodeRefusal) : Type 0 where
  pub tables : List SweepParts
  pub are : HaveTables p (length p.trains) tables
  pub why : IsListRefusal p (task_variables p (map (table_of p) tables) task) (sized_clauses p (map (table_of p) tables) task) (sized_units task) refusal

-- Why there is no formula: the first of the causes, in their order; want of memory has no cause.
abbrev pub IsEncodeRefusal : InstanceParts → Task → EncodeRefusal → Type 0
IsEncodeRefusal p task (TooManySweeps train) = IsFirstManySwept p train.0
IsEncodeRefusal p task (TooManyWalks section) = IsRefusedOver p task (TooManyWalks section)
IsEncodeRefusal p task TooManyVariables = IsRefusedOver p task TooManyVariables
IsEncodeRefusal p task TooManyClauses = IsRefusedOver p task TooManyClauses
IsEncodeRefusal p task TooManyLiterals = IsRefusedOver p task TooManyLiterals
IsEncodeRefusal p task Memory = Unit {0}

-- the same for the list of a free task without its counter and its bound, with so many variables more
pub record IsSweepBase (p : InstanceParts) (more : ℕ) (f : FormulaParts) (m : MapParts) : Type 0 where
  pub tables : HaveTables p (length p.trains) m.tables
  pub encoding : IsBaseEncoding p (map (table_of p) m.tables) more f m

pub record IsBaseRefusedOver (p : InstanceParts) (more : ℕ) (refusal : EncodeRefusal) : Type 0 where
  pub tables : List SweepParts
  pub are : HaveTables p (length p.trains) tables
  pub why : IsListRefusal p (given_variables p (map (table_of p) tables) + more) (base_sized p (map (table_of p) tables)) 0 refusal

abbrev pub IsBaseRefusal : InstanceParts → ℕ → EncodeRefusal → Type 0
IsBaseRefusal p more (TooManySweeps train) = IsFirstManySwept p train.0
IsBaseRefusal p more (TooManyWalks section) = IsBaseRefusedOver p more (TooManyWalks section)
IsBaseRefusal p more TooManyVariables = IsBaseRefusedOver p more TooManyVariables
IsBaseRefusal p more TooManyClauses = IsBaseRefusedOver p more TooManyClauses
IsBaseRefusal p more TooManyLiterals = IsBaseRefusedOver p more TooManyLiterals
IsBaseRefusal p more Memory = Unit {0}
