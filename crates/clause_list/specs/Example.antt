-- An example: a section of four cells in a row with three candidates between them, and a train that has no entry.
use Rattle.std.specs.Prelude.{◌≡◌, ℕ, List, [], ◌∷◌, ◌++◌, map, refl}
use Rattle.sat_core.specs.declared.literal.Lit.{Lit}
use Rattle.cell_net.specs.declared.ids.CandidateId.{CandidateId}
use Rattle.border_counter.specs.Counter.{sum_to, gate_at, row_clauses, gates_of, order_at, order_clauses}
use Rattle.clause_list.specs.Ranges.{from_below}
use Rattle.clause_list.specs.Numbers.{CodedTrain, Network, is, is_not, behind_train, first_of_trains}
use Rattle.clause_list.specs.Cones.{cone_at, cones_of}
use Rattle.clause_list.specs.RunClauses.{enter, enter_clauses, go_on_clauses, goes_on_at, stay_ended_clauses, gone_clauses, gone_at, touch_clauses, touches_at}
use Rattle.clause_list.specs.StopClauses.{stop_met_clauses, stop_in_run_clauses, stand_clauses, stop_after_entry_clauses}
use Rattle.clause_list.specs.BorderClauses.{kept_clauses, given, given_clauses, border_on_walk, borders_between, borders_from, gap_clauses}
use Rattle.clause_list.specs.WholeList.{no_table, of_train, of_each_train, by_train, by_each_train, apart_of, apart_of_all, whole, free_families, given_families}

abbrev pub row : Network
row = record { sections = 0 ∷ 0 ∷ 0 ∷ 0 ∷ []; candidates = 3; kept = [] }

-- it may be there at the steps 0 and 1, and has no item at any
abbrev pub lost : CodedTrain
lost = record { start = 0; latest = 0; by = 1; stops = []; cells = 4; first = first_of_trains row; cones = cones_of no_table 0 1 }

-- between two cells of the row lies one walk, over the candidates from the one to the other
abbrev pub one_walk : ℕ → ℕ → List (List CandidateId)
one_walk e f = map (λ c. record { 0 = c }) (from_below e f) ∷ []

abbrev pub free_clauses : ℕ → List (List Lit)
free_clauses most = whole (free_families one_walk row (no_table ∷ []) (lost ∷ []) (behind_train lost) most)

-- borders on walks, the entry that can't be met, and the counter
abbrev pub expected : List (List Lit)
expected =
    (is_not 4 ∷ is 1 ∷ [])
    ∷ (is_not 5 ∷ is 1 ∷ is 2 ∷ [])
    ∷ (is_not 6 ∷ is 1 ∷ is 2 ∷ is 3 ∷ [])
    ∷ (is_not 7 ∷ is 2 ∷ [])
    ∷ (is_not 8 ∷ is 2 ∷ is 3 ∷ [])
    ∷ (is_not 9 ∷ is 3 ∷ [])
    ∷ []
    ∷ (is_not 1 ∷ is 19 ∷ [])
    ∷ (is_not 19 ∷ is 1 ∷ [])
    ∷ (is_not 19 ∷ is 20 ∷ [])
    ∷ (is_not 2 ∷ is 20 ∷ [])
    ∷ (is_not 20 ∷ is 19 ∷ is 2 ∷ [])
    ∷ (is_not 2 ∷ is_not 19 ∷ is 21 ∷ [])
    ∷ (is_not 21 ∷ is 2 ∷ [])
    ∷ (is_not 21 ∷ is 19 ∷ [])
    ∷ (is_not 20 ∷ is 22 ∷ [])
    ∷ (is_not 3 ∷ is 22 ∷ [])
    ∷ (is_not 22 ∷ is 20 ∷ is 3 ∷ [])
    ∷ (is_not 21 ∷ is 23 ∷ [])
    ∷ (is_not 3 ∷ is_not 20 ∷ is 23 ∷ [])
    ∷ (is_not 23 ∷ is 21 ∷ is 3 ∷ [])
    ∷ (is_not 23 ∷ is 21 ∷ is 20 ∷ [])
    ∷ (is_not 3 ∷ is_not 21 ∷ is 24 ∷ [])
    ∷ (is_not 24 ∷ is 3 ∷ [])
    ∷ (is_not 24 ∷ is 21 ∷ [])
    ∷ (is_not 23 ∷ is 22 ∷ [])
    ∷ (is_not 24 ∷ is 23 ∷ [])
    ∷ []

pub twenty_seven_clauses : free_clauses 3 ≡ expected
unfolding from_below cone_at sum_to enter enter_clauses go_on_clauses goes_on_at stay_ended_clauses gone_clauses gone_at touch_clauses touches_at stop_met_clauses stop_in_run_clauses stand_clauses stop_after_entry_clauses kept_clauses border_on_walk borders_between borders_from gap_clauses of_train of_each_train by_train by_each_train apart_of apart_of_all gate_at row_clauses gates_of order_at order_clauses
twenty_seven_clauses = refl

-- with at most two borders there is one clause more
pub one_more : free_clauses 2 ≡ expected ++ (is_not 24 ∷ []) ∷ []
unfolding from_below cone_at sum_to enter enter_clauses go_on_clauses goes_on_at stay_ended_clauses gone_clauses gone_at touch_clauses touches_at stop_met_clauses stop_in_run_clauses stand_clauses stop_after_entry_clauses kept_clauses border_on_walk borders_between borders_from gap_clauses of_train of_each_train by_train by_each_train apart_of apart_of_all gate_at row_clauses gates_of order_at order_clauses
one_more = refl

-- the task of the empty layout
pub of_empty_layout : whole (given_families one_walk row (no_table ∷ []) (lost ∷ []) []) ≡
    (is_not 1 ∷ []) ∷ (is_not 2 ∷ []) ∷ (is_not 3 ∷ [])
    ∷ (is_not 4 ∷ is 1 ∷ [])
    ∷ (is_not 5 ∷ is 1 ∷ is 2 ∷ [])
    ∷ (is_not 6 ∷ is 1 ∷ is 2 ∷ is 3 ∷ [])
    ∷ (is_not 7 ∷ is 2 ∷ [])
    ∷ (is_not 8 ∷ is 2 ∷ is 3 ∷ [])
    ∷ (is_not 9 ∷ is 3 ∷ [])
    ∷ []
    ∷ []
unfolding from_below cone_at enter enter_clauses go_on_clauses goes_on_at stay_ended_clauses gone_clauses gone_at touch_clauses touches_at stop_met_clauses stop_in_run_clauses stand_clauses stop_after_entry_clauses given given_clauses border_on_walk borders_between borders_from gap_clauses of_train of_each_train by_train by_each_train apart_of apart_of_all
of_empty_layout = refl

-- the variables end where they are to
pub variables_end : behind_train lost ≡ 19
unfolding from_below cone_at
variables_end = refl
