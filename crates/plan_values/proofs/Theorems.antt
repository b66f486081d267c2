-- Chains that are apart under a layout satisfy the clauses of its task, and of a free task of as many borders.
use Rattle.std.proofs.Common.{◌≡◌, ℕ, ◌≤◌, Bool, List, [], ◌∷◌, ◌++◌, length, sym, ap, ◌∙◌, subst, arith}
use Rattle.std.proofs.lemmas.List.Concat.{flat_map-append}
use Rattle.std.proofs.lemmas.List.{append-nil}
use Rattle.std.proofs.lemmas.List.Elements.{All-nil, All-append}
use Rattle.sat_core.specs.declared.literal.Lit.{Lit}
use Rattle.sat_core.specs.Clauses.{Satisfies, SatisfiesAll}
use Rattle.border_counter.specs.Counter.{counter_clauses, counted}
use Rattle.cell_net.specs.declared.ids.CandidateId.{CandidateId}
use Rattle.cell_net.specs.declared.parts.InstanceParts.{InstanceParts}
use Rattle.cell_net.specs.declared.plans.Plan.{Plan}
use Rattle.gap_clauses.specs.Gaps.{AreGaps}
use Rattle.gap_clauses.specs.Laws.{CandidatesSeparate}
use Rattle.sweep_table.specs.Tables.{Table}
use Rattle.clause_list.specs.BorderClauses.{border_lits, most_clauses}
use Rattle.clause_list.specs.Coding.{network_of, trains_of, first_of_count, free_variables, free_task, walks_in}
use Rattle.clause_list.specs.Numbers.{first_of_trains}
use Rattle.clause_list.specs.WholeList.{base_families, counted_families, whole}
use Rattle.clause_list.proofs.BorderLaws.{length-border_lits}
use Rattle.clause_list.proofs.CodedLaws.{behind_grows}
use Rattle.plan_laws.specs.Laws.{GivenTaskTells}
use Rattle.plan_laws.specs.Telling.{told_layout}
use Rattle.plan_values.specs.Laws.{AreSolution, ChainsSatisfyGiven, ChainsSatisfyFree, ValuesMean}
use Rattle.plan_values.specs.Values.{ChainItems, given_values, free_values}
use Rattle.plan_values.proofs.PartLaws.{IsPart, whole_part, front_part}
use Rattle.plan_values.proofs.Counting.{counter_holds, most_holds}
use Rattle.plan_values.proofs.Satisfying.{satisfied}

pub given_satisfied : (p : InstanceParts) (gaps : List (List (List (List CandidateId)))) (tables : List Table) (borders : List CandidateId) (plan : Plan) (chains : List ChainItems) → (AreGaps p gaps → CandidatesSeparate p borders gaps) → ChainsSatisfyGiven p gaps tables borders plan chains
given_satisfied p gaps tables borders plan chains law rules gap_rules are are_chains of_runs =
    let by = satisfied p gaps tables borders plan chains rules gap_rules are are_chains of_runs (law gap_rules) in
    let base : List Bool = given_values p gaps tables borders chains in
    (by.size, by.given base (whole_part base))

pub values_mean : (p : InstanceParts) (gaps : List (List (List (List CandidateId)))) (tables : List Table) (borders : List CandidateId) (plan : Plan) (chains : List ChainItems) (more : List Bool) → (AreGaps p gaps → CandidatesSeparate p borders gaps) → ValuesMean p gaps tables borders plan chains more
values_mean p gaps tables borders plan chains more law rules gap_rules are are_chains of_runs =
    let base : List Bool = given_values p gaps tables borders chains in
    (satisfied p gaps tables borders plan chains rules gap_rules are are_chains of_runs (law gap_rules)).mean (base ++ more) (front_part (base ++ more) 1 base more (whole_part (base ++ more)))

-- a family more behind others
family_more : (values : List Bool) (families : List (List (List Lit))) (family : List (List Lit)) → SatisfiesAll values (whole families) → SatisfiesAll values family → SatisfiesAll values (whole (families ++ family ∷ []))
family_more values families family all this =
    subst (SatisfiesAll values) (sym (flat_map-append (λ (each : List (List Lit)). each) families (family ∷ []))) (All-append (Satisfies values) (whole families) (whole (family ∷ [])) all (All-append (Satisfies values) family [] this (All-nil (Satisfies values))))

pub free_satisfied : (p : InstanceParts) (gaps : List (List (List (List CandidateId)))) (tables : List Table) (borders : List CandidateId) (plan : Plan) (chains : List ChainItems) (most : ℕ) → (AreGaps p gaps → CandidatesSeparate p borders gaps) → ((values : List Bool) → GivenTaskTells values p gaps tables borders) → ChainsSatisfyFree p gaps tables borders plan chains most
free_satisfied p gaps tables borders plan chains most law tells rules gap_rules are are_chains of_runs few numbers =
    let by = satisfied p gaps tables borders plan chains rules gap_rules are are_chains of_runs (law gap_rules) in
    let n : ℕ = length p.candidates in
    let first : ℕ = first_of_count p tables in
    let inputs : List Lit = border_lits n in
    let base : List Bool = given_values p gaps tables borders chains in
    let these : List Bool = counted base inputs (length inputs) in
    let values : List Bool = base ++ these ++ [] in
    let named : values ≡ free_values p gaps tables borders chains = append-nil (base ++ these) ∙ ap (λ m. base ++ counted base inputs m) (length-border_lits n) in
    let more : first_of_trains (network_of p) ≤ first = behind_grows p (first_of_trains (network_of p)) tables p.trains in
    let (fits, counter, total) = counter_holds base n first by.size (omega arith) (omega arith) in
    let part : IsPart values 1 base = front_part values 1 base these (front_part values 1 (base ++ these) [] (whole_part values)) in
    let told : told_layout values n ≡ borders = (tells values rules gap_rules are are_chains.layout (by.given values part)).1 in
    let bound : SatisfiesAll values (most_clauses first n most) = most_holds values n first most (omega arith) fits counter (omega (arith, ap length told, few)) in
    let counter_too : SatisfiesAll values (counter_clauses inputs first n) = subst (λ m. SatisfiesAll values (counter_clauses inputs first m)) (length-border_lits n) counter in
    subst (AreSolution (free_variables p tables) (free_task p gaps tables most)) named
    (total, family_more values (counted_families (walks_in gaps) (network_of p) tables (trains_of p tables) first) (most_clauses first n most) (family_more values (base_families (walks_in gaps) (network_of p) tables (trains_of p tables)) (counter_clauses inputs first n) (by.free values part) counter_too) bound)
