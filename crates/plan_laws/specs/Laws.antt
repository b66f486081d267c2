-- Laws of valuations, which the functions of `laws.rt` hand to their callers.
use Rattle.std.specs.Prelude.{◌≡◌, ◌<◌, ◌≤◌, ◌^◌, ℕ, Bool, List, length, All}
use Rattle.std.specs.List.{AllZip}
use Rattle.sat_core.specs.Clauses.{SatisfiesAll}
use Rattle.border_counter.specs.Counter.{counter_clauses}
use Rattle.cell_net.specs.Borders.{IsLayout}
use Rattle.cell_net.specs.Plans.{IsLawful}
use Rattle.cell_net.specs.Rules.{IsInstance}
use Rattle.cell_net.specs.declared.ids.CandidateId.{CandidateId}
use Rattle.cell_net.specs.declared.plans.Plan.{Plan}
use Rattle.cell_net.specs.declared.parts.InstanceParts.{InstanceParts}
use Rattle.gap_clauses.specs.Gaps.{AreGaps}
use Rattle.sweep_table.specs.Sweeps.{IsTableOf}
use Rattle.sweep_table.specs.Tables.{Table, IsTable}
use Rattle.clause_list.specs.BorderClauses.{border_lits, most_clauses}
use Rattle.clause_list.specs.Coding.{trains_of, first_of_count, free_variables, base_task, given_task}
use Rattle.clause_list.specs.WholeList.{table_at, train_at}
use Rattle.plan_laws.specs.Chains.{AreChains}
use Rattle.plan_laws.specs.Satisfied.{AreTables}
use Rattle.plan_laws.specs.Telling.{IsInside, told_layout, told_plan}

-- what the valuation tells are chains, any two of them apart under the borders that stand, and of items of their tables
pub record TellsChains (values : List Bool) (p : InstanceParts) (tables : List Table) : Type 0 where
  pub chains : AreChains p (told_layout values (length p.candidates)) tables (told_plan values tables (trains_of p tables))
  pub inside : (i : ℕ) → i < length p.trains → IsInside values (table_at tables i) (train_at (trains_of p tables) i)

-- one that satisfies the clauses of a free task, without those of its count, tells chains
abbrev pub FreeTaskTells : List Bool → InstanceParts → List (List (List (List CandidateId))) → List Table → Type 0
FreeTaskTells values p gaps tables = IsInstance p → AreGaps p gaps → AreTables p tables → SatisfiesAll values (base_task p gaps tables) → TellsChains values p tables

-- one that satisfies the clauses of the task of a layout tells chains, and that layout
abbrev pub GivenTaskTells : List Bool → InstanceParts → List (List (List (List CandidateId))) → List Table → List CandidateId → Type 0
GivenTaskTells values p gaps tables layout = IsInstance p → AreGaps p gaps → AreTables p tables → IsLayout p layout → SatisfiesAll values (given_task p gaps tables layout) →
    TellsChains values p tables × (told_layout values (length p.candidates) ≡ layout)

-- one that satisfies the clauses of the counter and of a bound tells no more borders than that
abbrev pub CountTells : List Bool → InstanceParts → List Table → ℕ → Type 0
CountTells values p tables most = length values ≡ free_variables p tables → length values < 2 ^ 32 →
    SatisfiesAll values (counter_clauses (border_lits (length p.candidates)) (first_of_count p tables) (length p.candidates)) →
    SatisfiesAll values (most_clauses (first_of_count p tables) (length p.candidates) most) →
    length (told_layout values (length p.candidates)) ≤ most

-- chains in the tables of the trains' sweeps are a lawful plan
abbrev pub ChainsAreLawful : InstanceParts → List CandidateId → List Table → Plan → Type 0
ChainsAreLawful p borders tables plan = All (IsTable p) tables → AllZip (IsTableOf p) p.trains tables → AreChains p borders tables plan → IsLawful p borders plan
