-- Each clause of each family of a task is a clause.
use Rattle.std.proofs.Common.{ℕ, ◌+◌, ◌<◌, ◌≤◌, List, [], ◌∷◌, length, arith}
use Rattle.std.specs.Prelude.{All}
use Rattle.std.specs.List.{flat_map}
use Rattle.std.proofs.lemmas.List.Elements.{All-nil, All-append}
use Rattle.sat_core.specs.declared.literal.Lit.{Lit}
use Rattle.sat_core.specs.Clauses.{IsClause}
use Rattle.cell_net.specs.declared.ids.CandidateId.{CandidateId}
use Rattle.sweep_table.specs.Tables.{Table}
use Rattle.clause_list.specs.Ranges.{below, from_below}
use Rattle.clause_list.specs.Numbers.{CodedTrain, Network, first_of_trains}
use Rattle.clause_list.specs.RunClauses.{enter_clauses, go_on_clauses, stay_ended_clauses, gone_clauses, touch_clauses}
use Rattle.clause_list.specs.StopClauses.{stop_met_clauses, stop_in_run_clauses, stand_clauses, stop_after_entry_clauses}
use Rattle.clause_list.specs.BorderClauses.{kept_clauses, given_clauses, gap_clauses}
use Rattle.clause_list.specs.WholeList.{table_at, train_at, of_train, of_each_train, by_train, by_each_train, apart_of_two, apart_of, apart_of_all, plan_families, base_families, given_families, whole}
use Rattle.clause_list.specs.Orders.{AreAllNumbered, AreWalksOver}
use Rattle.clause_list.proofs.ListLaws.{in_range_is}
use Rattle.clause_list.proofs.ClauseLaws.{all_each}
use Rattle.clause_list.proofs.RunLaws.{enter_are_clauses, go_on_are_clauses, stay_ended_are_clauses, gone_are_clauses, touch_are_clauses}
use Rattle.clause_list.proofs.StopLaws.{stop_met_are_clauses, stop_in_run_are_clauses, stand_are_clauses, stop_after_entry_are_clauses}
use Rattle.clause_list.proofs.BorderLaws.{kept_are_clauses, given_are_clauses, gap_are_clauses, apart_are_clauses}

-- a family of each train
pub each_train : (vars : ℕ) (family : Table → CodedTrain → List (List Lit)) (tables : List Table) (trains : List CodedTrain) → ((i : ℕ) → i < length trains → All (IsClause vars) (family (table_at tables i) (train_at trains i))) → All (IsClause vars) (of_each_train family tables trains)
unfolding of_each_train of_train
each_train vars family tables trains each = all_each (IsClause vars) (of_train family tables trains) (below (length trains)) (λ i inside. each i (in_range_is 0 (length trains) i inside).1)

pub each_numbers : (vars : ℕ) (family : CodedTrain → List (List Lit)) (trains : List CodedTrain) → ((i : ℕ) → i < length trains → All (IsClause vars) (family (train_at trains i))) → All (IsClause vars) (by_each_train family trains)
unfolding by_each_train by_train
each_numbers vars family trains each = all_each (IsClause vars) (by_train family trains) (below (length trains)) (λ i inside. each i (in_range_is 0 (length trains) i inside).1)

-- of every two trains
pub all_apart_are_clauses : (vars : ℕ) (net : Network) (tables : List Table) (trains : List CodedTrain) → AreAllNumbered vars net tables trains → All (IsClause vars) (apart_of_all net trains)
unfolding apart_of_all apart_of apart_of_two
all_apart_are_clauses vars net tables trains numbered =
    all_each (IsClause vars) (apart_of net trains) (below (length trains)) (λ i one.
    all_each (IsClause vars) (apart_of_two net trains i) (from_below (i + 1) (length trains)) (λ j other.
    let (after, within) = in_range_is (i + 1) (length trains) j other in
    apart_are_clauses vars net (train_at trains i) (train_at trains j) (numbered.behind_borders i (omega arith)) (numbered.behind_others i j (omega arith) within) (numbered.each j within).within (numbered.cells i (omega arith)) (numbered.cells j within)))

both : {A : Type 0} (P : A → Type 0) (family : List A) (families : List (List A)) → All P family → All P (flat_map (λ each. each) families) → All P (flat_map (λ each. each) (family ∷ families))
both P family families one others = All-append P family (flat_map (λ each. each) families) one others

-- the families of gaps and trains
pub plan_are_clauses : (vars : ℕ) (walks : ℕ → ℕ → List (List CandidateId)) (net : Network) (tables : List Table) (trains : List CodedTrain) → AreAllNumbered vars net tables trains → AreWalksOver net walks → All (IsClause vars) (whole (plan_families walks net tables trains))
plan_are_clauses vars walks net tables trains numbered over =
    let each = numbered.each in
    let fit = numbered.fit in
    let from_after_entry : List (List (List Lit)) = by_each_train stop_after_entry_clauses trains ∷ [] in
    let from_stands : List (List (List Lit)) = of_each_train stand_clauses tables trains ∷ from_after_entry in
    let from_in_runs : List (List (List Lit)) = by_each_train stop_in_run_clauses trains ∷ from_stands in
    let from_mets : List (List (List Lit)) = by_each_train stop_met_clauses trains ∷ from_in_runs in
    let from_aparts : List (List (List Lit)) = apart_of_all net trains ∷ from_mets in
    let from_touched : List (List (List Lit)) = of_each_train touch_clauses tables trains ∷ from_aparts in
    let from_gones : List (List (List Lit)) = by_each_train gone_clauses trains ∷ from_touched in
    let from_stays : List (List (List Lit)) = by_each_train stay_ended_clauses trains ∷ from_gones in
    let from_goes : List (List (List Lit)) = of_each_train go_on_clauses tables trains ∷ from_stays in
    let from_enters : List (List (List Lit)) = of_each_train enter_clauses tables trains ∷ from_goes in
    both (IsClause vars) (gap_clauses walks net) from_enters (gap_are_clauses vars walks net numbered.borders over)
    (both (IsClause vars) (of_each_train enter_clauses tables trains) from_goes (each_train vars enter_clauses tables trains (λ i within. enter_are_clauses vars (table_at tables i) (train_at trains i) (each i within)))
    (both (IsClause vars) (of_each_train go_on_clauses tables trains) from_stays (each_train vars go_on_clauses tables trains (λ i within. go_on_are_clauses vars (table_at tables i) (train_at trains i) (each i within) (fit i within)))
    (both (IsClause vars) (by_each_train stay_ended_clauses trains) from_gones (each_numbers vars stay_ended_clauses trains (λ i within. stay_ended_are_clauses vars (train_at trains i) (each i within)))
    (both (IsClause vars) (by_each_train gone_clauses trains) from_touched (each_numbers vars gone_clauses trains (λ i within. gone_are_clauses vars (train_at trains i) (each i within)))
    (both (IsClause vars) (of_each_train touch_clauses tables trains) from_aparts (each_train vars touch_clauses tables trains (λ i within. touch_are_clauses vars (table_at tables i) (train_at trains i) (each i within) (fit i within)))
    (both (IsClause vars) (apart_of_all net trains) from_mets (all_apart_are_clauses vars net tables trains numbered)
    (both (IsClause vars) (by_each_train stop_met_clauses trains) from_in_runs (each_numbers vars stop_met_clauses trains (λ i within. stop_met_are_clauses vars (train_at trains i) (each i within)))
    (both (IsClause vars) (by_each_train stop_in_run_clauses trains) from_stands (each_numbers vars stop_in_run_clauses trains (λ i within. stop_in_run_are_clauses vars (train_at trains i) (each i within)))
    (both (IsClause vars) (of_each_train stand_clauses tables trains) from_after_entry (each_train vars stand_clauses tables trains (λ i within. stand_are_clauses vars (table_at tables i) (train_at trains i) (each i within)))
    (both (IsClause vars) (by_each_train stop_after_entry_clauses trains) [] (each_numbers vars stop_after_entry_clauses trains (λ i within. stop_after_entry_are_clauses vars (train_at trains i) (each i within)))
    (All-nil (IsClause vars))))))))))))

few_borders : (vars : ℕ) (net : Network) → first_of_trains net ≤ vars + 1 → net.candidates ≤ vars
few_borders vars net last = omega arith

-- of a free task, but for its counter and its bound
pub base_are_clauses : (vars : ℕ) (walks : ℕ → ℕ → List (List CandidateId)) (net : Network) (tables : List Table) (trains : List CodedTrain) → AreAllNumbered vars net tables trains → AreWalksOver net walks → All (IsClause vars) (whole (base_families walks net tables trains))
base_are_clauses vars walks net tables trains numbered over =
    both (IsClause vars) (kept_clauses net) (plan_families walks net tables trains) (kept_are_clauses vars net (few_borders vars net numbered.borders) numbered.kept) (plan_are_clauses vars walks net tables trains numbered over)

-- of the task of a given layout
pub given_task_are_clauses : (vars : ℕ) (walks : ℕ → ℕ → List (List CandidateId)) (net : Network) (tables : List Table) (trains : List CodedTrain) (layout : List CandidateId) → AreAllNumbered vars net tables trains → AreWalksOver net walks → All (IsClause vars) (whole (given_families walks net tables trains layout))
given_task_are_clauses vars walks net tables trains layout numbered over =
    both (IsClause vars) (given_clauses net layout) (plan_families walks net tables trains) (given_are_clauses vars net layout (few_borders vars net numbered.borders)) (plan_are_clauses vars walks net tables trains numbered over)
