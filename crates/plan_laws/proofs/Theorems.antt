-- The laws of `laws.rt`, put together.
use Rattle.std.proofs.Common.{◌≡◌, ℕ, ◌+◌, ◌-◌, ◌≤◌, Bool, List, [], ◌∷◌, length, get_or, sym, ◌∙◌, subst, arith}
use Rattle.std.specs.Prelude.{All}
use Rattle.std.proofs.lemmas.List.{length-map}
use Rattle.std.proofs.lemmas.List.Elements.{All-map}
use Rattle.sat_core.specs.declared.literal.Lit.{Lit}
use Rattle.sat_core.specs.Clauses.{IsOver, SatisfiesAll}
use Rattle.border_counter.specs.Counter.{sum_to}
use Rattle.cell_net.specs.Borders.{IsLayout}
use Rattle.cell_net.specs.declared.ids.CandidateId.{CandidateId}
use Rattle.cell_net.specs.declared.parts.InstanceParts.{InstanceParts}
use Rattle.cell_net.specs.declared.trains.TrainSpec.{TrainSpec}
use Rattle.gap_clauses.specs.Gaps.{AreGaps}
use Rattle.gap_clauses.specs.Laws.{CandidatesSeparate}
use Rattle.sweep_table.specs.Tables.{Table}
use Rattle.clause_list.specs.Ranges.{below}
use Rattle.clause_list.specs.BorderClauses.{kept_clauses, given_clauses, border_lits}
use Rattle.clause_list.specs.Coding.{coded, coded_from, behind_all, first_of_count, network_of, trains_of, walks_in}
use Rattle.clause_list.specs.Numbers.{is, border, behind_train, first_of_trains}
use Rattle.clause_list.specs.WholeList.{plan_families, whole}
use Rattle.clause_list.proofs.ListLaws.{at_below, length-below}
use Rattle.clause_list.proofs.ReadingLaws.{sat_front, sat_back}
use Rattle.plan_laws.specs.Laws.{CountTells, FreeTaskTells, GivenTaskTells}
use Rattle.plan_laws.specs.Telling.{told_layout}
use Rattle.plan_laws.proofs.Borders.{kept_is_layout, given_is_told, at_most}
use Rattle.plan_laws.proofs.Runs.{plan_inside, plan_of_chains}

-- cells are separated exactly where each walk between them has a border among its candidates
abbrev pub Separates : Type 0
Separates = (p : InstanceParts) (borders : List CandidateId) (gaps : List (List (List (List CandidateId)))) → AreGaps p gaps → CandidatesSeparate p borders gaps

pub free_task_tells : Separates → (values : List Bool) (p : InstanceParts) (gaps : List (List (List (List CandidateId)))) (tables : List Table) → FreeTaskTells values p gaps tables
free_task_tells law values p gaps tables rules are_gaps are all =
    let others : List (List Lit) = whole (plan_families (walks_in gaps) (network_of p) tables (trains_of p tables)) in
    let rest : SatisfiesAll values others = sat_back values (kept_clauses (network_of p)) others all in
    record {
      chains = plan_of_chains values p gaps tables (law p (told_layout values (length p.candidates)) gaps are_gaps) rules are_gaps are
          (kept_is_layout values p rules (sat_front values (kept_clauses (network_of p)) others all)) rest;
      inside = plan_inside values p gaps tables rules are rest;
    }

pub given_task_tells : Separates → (values : List Bool) (p : InstanceParts) (gaps : List (List (List (List CandidateId)))) (tables : List Table) (layout : List CandidateId) → GivenTaskTells values p gaps tables layout
given_task_tells law values p gaps tables layout rules are_gaps are is_layout all =
    let others : List (List Lit) = whole (plan_families (walks_in gaps) (network_of p) tables (trains_of p tables)) in
    let same : told_layout values (length p.candidates) ≡ layout = given_is_told values p layout is_layout.set (sat_front values (given_clauses (network_of p) layout) others all) in
    let rest : SatisfiesAll values others = sat_back values (given_clauses (network_of p) layout) others all in (
      record {
        chains = plan_of_chains values p gaps tables (law p (told_layout values (length p.candidates)) gaps are_gaps) rules are_gaps are
            (subst (λ borders. IsLayout p borders) (sym same) is_layout) rest;
        inside = plan_inside values p gaps tables rules are rest;
      },
      same,
    )

-- the numbers of trains only grow
behind_one : (p : InstanceParts) (first : ℕ) (table : Table) (train : TrainSpec) → first ≤ behind_train (coded p first table train)
behind_one p first table train = omega arith

behind_more : (p : InstanceParts) (first : ℕ) (tables : List Table) (trains : List TrainSpec) → first ≤ behind_all first (coded_from p first tables trains)
behind_more p first [] trains = omega arith
behind_more p first (t ∷ ts) [] = omega arith
behind_more p first (t ∷ ts) (r ∷ rs) =
    let one : first ≤ behind_train (coded p first t r) = behind_one p first t r in
    let rest : behind_train (coded p first t r) ≤ behind_all (behind_train (coded p first t r)) (coded_from p (behind_train (coded p first t r)) ts rs) = behind_more p (behind_train (coded p first t r)) ts rs in
    omega arith

lits_before : (n last : ℕ) → n ≤ last → All (IsOver last) (border_lits n)
lits_before n last few = All-map (IsOver last) (λ c. is (border c)) (below n) (λ k d within.
    let size : length (below n) ≡ n = length-below n in
    let at : get_or (below n) k d ≡ k = at_below n k d (omega arith) in
    (omega arith, omega arith))

size_lits : (n : ℕ) → length (border_lits n) ≡ n
size_lits n = length-map (below n) (λ c. is (border c)) ∙ length-below n

pub count_tells : (values : List Bool) (p : InstanceParts) (tables : List Table) (most : ℕ) → CountTells values p tables most
count_tells values p tables most size few counter bound =
    let n : ℕ = length p.candidates in
    let first : ℕ = first_of_count p tables in
    let trains : first_of_trains (network_of p) ≤ first = behind_more p (first_of_trains (network_of p)) tables p.trains in
    let after : n + 1 ≤ first_of_trains (network_of p) = omega arith in
    let inputs : length (border_lits n) ≡ n = size_lits n in
    let total : first + sum_to n ≤ length values + 1 = omega arith in
    at_most values n first most (record {
      inputs_before = lits_before n (first - 1) (omega arith);
      within = subst (λ m. first + sum_to m ≤ length values + 1) (sym inputs) total;
      numbers = few;
    }) counter bound
