-- Laws of plans, which the functions of `laws.rt` hand to their callers.
use Rattle.std.specs.Prelude.{◌≡◌, ◌<◌, ◌≤◌, ◌↔◌, ◌^◌, ℕ, Bool, List, ◌++◌, length}
use Rattle.std.specs.List.{AllZip}
use Rattle.sat_core.specs.declared.literal.Lit.{Lit}
use Rattle.sat_core.specs.Clauses.{SatisfiesAll, IsUnsatisfiable}
use Rattle.cell_net.specs.Borders.{IsLayout}
use Rattle.cell_net.specs.Plans.{IsFeasible, IsPossibleWithin}
use Rattle.cell_net.specs.Rules.{IsInstance}
use Rattle.cell_net.specs.declared.ids.CandidateId.{CandidateId}
use Rattle.cell_net.specs.declared.plans.Plan.{Plan}
use Rattle.cell_net.specs.declared.parts.InstanceParts.{InstanceParts}
use Rattle.gap_clauses.specs.Gaps.{AreGaps}
use Rattle.sweep_table.specs.Sweeps.{IsTableOf}
use Rattle.sweep_table.specs.Tables.{Table}
use Rattle.clause_list.specs.Coding.{given_variables, free_variables, given_task, free_task}
use Rattle.plan_laws.specs.Chains.{AreChains}
use Rattle.plan_laws.specs.Satisfied.{AreTables}
use Rattle.plan_values.specs.Meanings.{AllMean, AreChainsOfRuns}
use Rattle.plan_values.specs.Values.{ChainItems, given_values, free_values}

-- the values are one for each of so many variables, and satisfy the clauses
abbrev pub AreSolution : ℕ → List (List Lit) → List Bool → Type 0
AreSolution vars clauses values = (length values ≡ vars) × SatisfiesAll values clauses

-- some valuation of so many variables satisfies the clauses
abbrev pub IsSatisfiable : ℕ → List (List Lit) → Type 0
IsSatisfiable vars clauses = (values : List Bool) × AreSolution vars clauses values

-- where chains, any two of them apart under a layout, are there, their values satisfy the clauses of the task of that layout
abbrev pub ChainsSatisfyGiven : InstanceParts → List (List (List (List CandidateId))) → List Table → List CandidateId → Plan → List ChainItems → Type 0
ChainsSatisfyGiven p gaps tables borders plan chains = IsInstance p → AreGaps p gaps → AreTables p tables → AreChains p borders tables plan → AreChainsOfRuns p tables plan chains →
    AreSolution (given_variables p tables) (given_task p gaps tables borders) (given_values p gaps tables borders chains)

-- and, with those of the counter, the clauses of a free task of at least so many borders
abbrev pub ChainsSatisfyFree : InstanceParts → List (List (List (List CandidateId))) → List Table → List CandidateId → Plan → List ChainItems → ℕ → Type 0
ChainsSatisfyFree p gaps tables borders plan chains most = IsInstance p → AreGaps p gaps → AreTables p tables → AreChains p borders tables plan → AreChainsOfRuns p tables plan chains →
    length borders ≤ most → free_variables p tables < 2 ^ 32 → AreSolution (free_variables p tables) (free_task p gaps tables most) (free_values p gaps tables borders chains)

-- in each valuation that begins with these values, each variable has the value of its meaning
abbrev pub ValuesMean : InstanceParts → List (List (List (List CandidateId))) → List Table → List CandidateId → Plan → List ChainItems → List Bool → Type 0
ValuesMean p gaps tables borders plan chains more = IsInstance p → AreGaps p gaps → AreTables p tables → AreChains p borders tables plan → AreChainsOfRuns p tables plan chains →
    AllMean (given_values p gaps tables borders chains ++ more) p gaps tables borders chains

-- there are chains of the runs
abbrev pub RunsHaveChains : InstanceParts → List Table → List CandidateId → Plan → Type 0
RunsHaveChains p tables borders plan = AreChains p borders tables plan → (chains : List ChainItems) × AreChainsOfRuns p tables plan chains

-- the clauses of the task of a layout can be satisfied exactly where chains are, any two of them apart under it
abbrev pub GivenHasChains : InstanceParts → List (List (List (List CandidateId))) → List Table → List CandidateId → Type 0
GivenHasChains p gaps tables borders = IsInstance p → AreGaps p gaps → AreTables p tables → IsLayout p borders →
    IsSatisfiable (given_variables p tables) (given_task p gaps tables borders) ↔ (plan : Plan) × AreChains p borders tables plan

-- those of a free task exactly where they are under some layout of no more borders than its bound
abbrev pub FreeHasChains : InstanceParts → List (List (List (List CandidateId))) → List Table → ℕ → Type 0
FreeHasChains p gaps tables most = IsInstance p → AreGaps p gaps → AreTables p tables → free_variables p tables < 2 ^ 32 →
    IsSatisfiable (free_variables p tables) (free_task p gaps tables most) ↔ (borders : List CandidateId) × (plan : Plan) × AreChains p borders tables plan × (length borders ≤ most)

-- the clauses of the task of a layout can be satisfied exactly where the layout is feasible
abbrev pub GivenIsExact : InstanceParts → List (List (List (List CandidateId))) → List Table → List CandidateId → Type 0
GivenIsExact p gaps tables borders = IsInstance p → AreGaps p gaps → AreTables p tables → AllZip (IsTableOf p) p.trains tables → IsLayout p borders →
    IsSatisfiable (given_variables p tables) (given_task p gaps tables borders) ↔ IsFeasible p borders

-- those of a free task exactly where some feasible layout has no more borders than its bound
abbrev pub FreeIsExact : InstanceParts → List (List (List (List CandidateId))) → List Table → ℕ → Type 0
FreeIsExact p gaps tables most = IsInstance p → AreGaps p gaps → AreTables p tables → AllZip (IsTableOf p) p.trains tables → free_variables p tables < 2 ^ 32 →
    IsSatisfiable (free_variables p tables) (free_task p gaps tables most) ↔ IsPossibleWithin p most

-- where no valuation satisfies the clauses of the task of a layout, the layout is not feasible
abbrev pub GivenRefutes : InstanceParts → List (List (List (List CandidateId))) → List Table → List CandidateId → Type 0
GivenRefutes p gaps tables borders = IsInstance p → AreGaps p gaps → AreTables p tables → AllZip (IsTableOf p) p.trains tables → IsLayout p borders →
    IsUnsatisfiable (given_variables p tables) (given_task p gaps tables borders) → ¬ IsFeasible p borders

-- where none satisfies those of a free task, no layout of so many borders is feasible
abbrev pub FreeRefutes : InstanceParts → List (List (List (List CandidateId))) → List Table → ℕ → Type 0
FreeRefutes p gaps tables most = IsInstance p → AreGaps p gaps → AreTables p tables → AllZip (IsTableOf p) p.trains tables → free_variables p tables < 2 ^ 32 →
    IsUnsatisfiable (free_variables p tables) (free_task p gaps tables most) → ¬ IsPossibleWithin p most
