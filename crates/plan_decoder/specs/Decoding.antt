-- What the map keeps and a valuation satisfies that is decoded.
use Rattle.std.specs.Prelude.{◌≡◌, ◌<◌, ◌^◌, ◌⊎◌, ℕ, Bool, List, length, All}
use Rattle.std.specs.List.{AllZip}
use Rattle.sat_core.specs.Clauses.{SatisfiesAll}
use Rattle.border_counter.specs.Counter.{counter_clauses}
use Rattle.cell_net.specs.Borders.{IsLayout}
use Rattle.cell_net.specs.declared.ids.CandidateId.{CandidateId}
use Rattle.cell_net.specs.declared.parts.InstanceParts.{InstanceParts}
use Rattle.gap_clauses.specs.Gaps.{AreGaps}
use Rattle.sweep_table.specs.Parts.{SweepParts, table_of}
use Rattle.sweep_table.specs.Sweeps.{IsTableOf}
use Rattle.sweep_table.specs.Tables.{Table, IsTable}
use Rattle.clause_list.specs.BorderClauses.{border_lits, most_clauses}
use Rattle.clause_list.specs.Coding.{base_task, given_task, free_task, first_of_count, free_variables}
use Rattle.clause_encoder.specs.Maps.{MapParts, IsMapOf}
use Rattle.clause_encoder.specs.TableLists.{tables_of}

-- the clauses of a free task over these tables, without those of its count
pub record SatisfiesFree (p : InstanceParts) (tables : List Table) (values : List Bool) : Type 0 where
  pub gaps : List (List (List (List CandidateId)))
  pub are_gaps : AreGaps p gaps
  pub clauses : SatisfiesAll values (base_task p gaps tables)

-- the clauses of the task of a layout
pub record SatisfiesGiven (p : InstanceParts) (tables : List Table) (layout : List CandidateId) (values : List Bool) : Type 0 where
  pub is_layout : IsLayout p layout
  pub gaps : List (List (List (List CandidateId)))
  pub are_gaps : AreGaps p gaps
  pub clauses : SatisfiesAll values (given_task p gaps tables layout)

-- the clauses of one of these tasks
abbrev pub SatisfiesTask : InstanceParts → List Table → List Bool → Type 0
SatisfiesTask p tables values = SatisfiesFree p tables values ⊎ ((layout : List CandidateId) × SatisfiesGiven p tables layout values)

-- with the variables of the count, the clauses of the counter and those of at most so many borders
pub record SatisfiesCount (p : InstanceParts) (tables : List Table) (most : ℕ) (values : List Bool) : Type 0 where
  pub variables : length values ≡ free_variables p tables
  pub few : length values < 2 ^ 32
  pub counter : SatisfiesAll values (counter_clauses (border_lits (length p.candidates)) (first_of_count p tables) (length p.candidates))
  pub bound : SatisfiesAll values (most_clauses (first_of_count p tables) (length p.candidates) most)

-- the tables of sweeps that the map keeps, on the instance
abbrev pub sweep_table_on : SweepParts → InstanceParts → Table
sweep_table_on sweeps p = table_of p sweeps

abbrev pub kept_tables : InstanceParts → MapParts → List Table
kept_tables p m = tables_of sweep_table_on p m.tables

-- the map is of that instance over them, and they are those of the trains' sweeps
pub record KeepsTables (p : InstanceParts) (m : MapParts) : Type 0 where
  pub for_each : length m.tables ≡ length p.trains
  pub rules : All (IsTable p) (kept_tables p m)
  pub each : AllZip (IsTableOf p) p.trains (kept_tables p m)
  pub map : IsMapOf p (kept_tables p m) m

-- a valuation that satisfies the list of a free task of at most so many borders satisfies both of these parts of it
abbrev pub FreeFormulaSays : List Bool → InstanceParts → List (List (List (List CandidateId))) → List Table → ℕ → Type 0
FreeFormulaSays values p gaps tables most = AreGaps p gaps → length values ≡ free_variables p tables → length values < 2 ^ 32 → SatisfiesAll values (free_task p gaps tables most) →
    SatisfiesFree p tables values × SatisfiesCount p tables most values
