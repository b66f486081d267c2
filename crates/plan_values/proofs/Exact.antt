-- Tasks can be satisfied exactly where layouts are feasible.
use Rattle.std.proofs.Common.{ℕ, Bool, List, [], ◌∷◌, ◌++◌, length, subst, arith}
use Rattle.std.proofs.lemmas.Grind.{flat_map-append}
use Rattle.sat_core.specs.declared.literal.Lit.{Lit}
use Rattle.sat_core.specs.Clauses.{SatisfiesAll, IsUnsatisfiable}
use Rattle.border_counter.specs.Counter.{counter_clauses}
use Rattle.cell_net.specs.Plans.{IsFeasible, IsPossibleWithin}
use Rattle.cell_net.specs.declared.ids.CandidateId.{CandidateId}
use Rattle.cell_net.specs.declared.parts.InstanceParts.{InstanceParts}
use Rattle.cell_net.specs.declared.plans.Plan.{Plan}
use Rattle.sweep_table.specs.Tables.{Table}
use Rattle.clause_list.specs.BorderClauses.{border_lits, most_clauses}
use Rattle.clause_list.specs.Coding.{network_of, trains_of, first_of_count, walks_in}
use Rattle.clause_list.specs.WholeList.{base_families, counted_families, whole}
use Rattle.clause_list.proofs.ReadingLaws.{sat_front, sat_back}
use Rattle.plan_laws.specs.Chains.{AreChains}
use Rattle.plan_laws.specs.Laws.{ChainsAreLawful, CountTells, FreeTaskTells, GivenTaskTells}
use Rattle.plan_laws.specs.Telling.{told_layout, told_plan}
use Rattle.plan_values.specs.Values.{ChainItems, given_values, free_values}
use Rattle.plan_values.specs.Laws.{ChainsSatisfyGiven, ChainsSatisfyFree, RunsHaveChains, GivenHasChains, FreeHasChains, GivenIsExact, FreeIsExact, GivenRefutes, FreeRefutes}
use Rattle.plan_values.proofs.Naming.{lawful_is_chains}

pub given_has_chains : (p : InstanceParts) (gaps : List (List (List (List CandidateId)))) (tables : List Table) (borders : List CandidateId) → ((values : List Bool) → GivenTaskTells values p gaps tables borders) → ((plan : Plan) → RunsHaveChains p tables borders plan) → ((plan : Plan) (chains : List ChainItems) → ChainsSatisfyGiven p gaps tables borders plan chains) → GivenHasChains p gaps tables borders
given_has_chains p gaps tables borders tells named satisfy rules gap_rules are layout = (
  λ some.
      let (values, (size, holds)) = some in
      let (told, same) = tells values rules gap_rules are layout holds in
      let plan : Plan = told_plan values tables (trains_of p tables) in
      (plan, subst (λ bs. AreChains p bs tables plan) same told.chains),
  λ there.
      let (plan, chains) = there in
      let (items, of_runs) = named plan chains in
      (given_values p gaps tables borders items, satisfy plan items rules gap_rules are chains of_runs),
)

pub given_is_exact : (p : InstanceParts) (gaps : List (List (List (List CandidateId)))) (tables : List Table) (borders : List CandidateId) → GivenHasChains p gaps tables borders → ((plan : Plan) → ChainsAreLawful p borders tables plan) → GivenIsExact p gaps tables borders
unfolding IsFeasible
given_is_exact p gaps tables borders exact lawful rules gap_rules are swept layout = (
  λ some. let (plan, chains) = (exact rules gap_rules are layout).0 some in (plan, lawful plan are.each swept chains),
  λ feasible. let (plan, is_lawful) = feasible in (exact rules gap_rules are layout).1 (plan, lawful_is_chains p borders tables plan swept is_lawful),
)

-- the families of a list, and the last of them
family_before : (values : List Bool) (families : List (List (List Lit))) (family : List (List Lit)) → SatisfiesAll values (whole (families ++ family ∷ [])) → SatisfiesAll values (whole families)
family_before values families family all = sat_front values (whole families) (whole (family ∷ [])) (subst (SatisfiesAll values) (flat_map-append (λ (each : List (List Lit)). each) families (family ∷ [])) all)

family_last : (values : List Bool) (families : List (List (List Lit))) (family : List (List Lit)) → SatisfiesAll values (whole (families ++ family ∷ [])) → SatisfiesAll values family
family_last values families family all = sat_front values family [] (sat_back values (whole families) (whole (family ∷ [])) (subst (SatisfiesAll values) (flat_map-append (λ (each : List (List Lit)). each) families (family ∷ [])) all))

pub free_has_chains : (p : InstanceParts) (gaps : List (List (List (List CandidateId)))) (tables : List Table) (most : ℕ) → ((values : List Bool) → FreeTaskTells values p gaps tables) → ((values : List Bool) → CountTells values p tables most) → ((borders : List CandidateId) (plan : Plan) → RunsHaveChains p tables borders plan) → ((borders : List CandidateId) (plan : Plan) (chains : List ChainItems) → ChainsSatisfyFree p gaps tables borders plan chains most) → FreeHasChains p gaps tables most
free_has_chains p gaps tables most tells counts named satisfy rules gap_rules are numbers = (
  λ some.
      let (values, (size, holds)) = some in
      let n : ℕ = length p.candidates in
      let first : ℕ = first_of_count p tables in
      let counted : List (List (List Lit)) = counted_families (walks_in gaps) (network_of p) tables (trains_of p tables) first in
      let base : List (List (List Lit)) = base_families (walks_in gaps) (network_of p) tables (trains_of p tables) in
      let bound : SatisfiesAll values (most_clauses first n most) = family_last values counted (most_clauses first n most) holds in
      let rest : SatisfiesAll values (whole counted) = family_before values counted (most_clauses first n most) holds in
      let counter : SatisfiesAll values (counter_clauses (border_lits n) first n) = family_last values base (counter_clauses (border_lits n) first n) rest in
      let told = tells values rules gap_rules are (family_before values base (counter_clauses (border_lits n) first n) rest) in
      (told_layout values n, told_plan values tables (trains_of p tables), told.chains, counts values size (omega (arith, size, numbers)) counter bound),
  λ there.
      let (borders, plan, chains, few) = there in
      let (items, of_runs) = named borders plan chains in
      (free_values p gaps tables borders items, satisfy borders plan items rules gap_rules are chains of_runs few numbers),
)

pub free_is_exact : (p : InstanceParts) (gaps : List (List (List (List CandidateId)))) (tables : List Table) (most : ℕ) → FreeHasChains p gaps tables most → ((borders : List CandidateId) (plan : Plan) → ChainsAreLawful p borders tables plan) → FreeIsExact p gaps tables most
unfolding IsFeasible IsPossibleWithin
free_is_exact p gaps tables most exact lawful rules gap_rules are swept numbers = (
  λ some. let (borders, plan, chains, few) = (exact rules gap_rules are numbers).0 some in (borders, (plan, lawful borders plan are.each swept chains), few),
  λ possible.
      let (borders, feasible, few) = possible in
      let (plan, is_lawful) = feasible in
      (exact rules gap_rules are numbers).1 (borders, plan, lawful_is_chains p borders tables plan swept is_lawful, few),
)

pub given_refutes : (p : InstanceParts) (gaps : List (List (List (List CandidateId)))) (tables : List Table) (borders : List CandidateId) → GivenIsExact p gaps tables borders → GivenRefutes p gaps tables borders
unfolding IsUnsatisfiable
given_refutes p gaps tables borders exact rules gap_rules are swept layout none feasible =
    let (values, (size, holds)) = (exact rules gap_rules are swept layout).1 feasible in none values size holds

pub free_refutes : (p : InstanceParts) (gaps : List (List (List (List CandidateId)))) (tables : List Table) (most : ℕ) → FreeIsExact p gaps tables most → FreeRefutes p gaps tables most
unfolding IsUnsatisfiable
free_refutes p gaps tables most exact rules gap_rules are swept numbers none possible =
    let (values, (size, holds)) = (exact rules gap_rules are swept numbers).1 possible in none values size holds
