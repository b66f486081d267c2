-- The clauses of a task, family by family, over the numbers of the network and of the trains.
use Rattle.std.specs.Prelude.{ℕ, ◌+◌, List, [], ◌∷◌, ◌++◌, length, slice_index_or}
use Rattle.std.specs.List.{flat_map}
use Rattle.sat_core.specs.declared.literal.Lit.{Lit}
use Rattle.cell_net.specs.declared.ids.CandidateId.{CandidateId}
use Rattle.sweep_table.specs.Tables.{Table}
use Rattle.border_counter.specs.Counter.{counter_clauses}
use Rattle.clause_list.specs.Ranges.{below, from_below}
use Rattle.clause_list.specs.Numbers.{Network, CodedTrain}
use Rattle.clause_list.specs.RunClauses.{enter_clauses, go_on_clauses, stay_ended_clauses, gone_clauses, touch_clauses}
use Rattle.clause_list.specs.PairClauses.{apart_clauses}
use Rattle.clause_list.specs.StopClauses.{stop_met_clauses, stop_in_run_clauses, stand_clauses, stop_after_entry_clauses}
use Rattle.clause_list.specs.BorderClauses.{kept_clauses, given_clauses, gap_clauses, border_lits, most_clauses}

-- stand for a table and a train where there is none
abbrev pub no_table : Table
no_table = record { cells = []; next = []; prev = []; entries = []; goals = []; stands = λ station. [] }

abbrev pub no_train : CodedTrain
no_train = record { start = 0; latest = 0; by = 0; stops = []; cones = []; cells = 0; first = 0 }

-- the table and the numbers of the train of that place
abbrev pub table_at : List Table → ℕ → Table
table_at tables i = slice_index_or tables i no_table

abbrev pub train_at : List CodedTrain → ℕ → CodedTrain
train_at trains i = slice_index_or trains i no_train

-- a family of each train, by its table and its numbers
unfoldable pub of_train : (Table → CodedTrain → List (List Lit)) → List Table → List CodedTrain → ℕ → List (List Lit)
of_train family tables trains i = family (table_at tables i) (train_at trains i)

unfoldable pub of_each_train : (Table → CodedTrain → List (List Lit)) → List Table → List CodedTrain → List (List Lit)
of_each_train family tables trains = flat_map (of_train family tables trains) (below (length trains))

-- a family of each train, by its numbers alone
unfoldable pub by_train : (CodedTrain → List (List Lit)) → List CodedTrain → ℕ → List (List Lit)
by_train family trains i = family (train_at trains i)

unfoldable pub by_each_train : (CodedTrain → List (List Lit)) → List CodedTrain → List (List Lit)
by_each_train family trains = flat_map (by_train family trains) (below (length trains))

-- of every two trains, by the first, then by the second
unfoldable pub apart_of_two : Network → List CodedTrain → ℕ → ℕ → List (List Lit)
apart_of_two net trains i j = apart_clauses net (train_at trains i) (train_at trains j)

unfoldable pub apart_of : Network → List CodedTrain → ℕ → List (List Lit)
apart_of net trains i = flat_map (apart_of_two net trains i) (from_below (i + 1) (length trains))

unfoldable pub apart_of_all : Network → List CodedTrain → List (List Lit)
apart_of_all net trains = flat_map (apart_of net trains) (below (length trains))

-- the families of gaps and trains, in their order
abbrev pub plan_families : (ℕ → ℕ → List (List CandidateId)) → Network → List Table → List CodedTrain → List (List (List Lit))
plan_families walks net tables trains =
    gap_clauses walks net
    ∷ of_each_train enter_clauses tables trains
    ∷ of_each_train go_on_clauses tables trains
    ∷ by_each_train stay_ended_clauses trains
    ∷ by_each_train gone_clauses trains
    ∷ of_each_train touch_clauses tables trains
    ∷ apart_of_all net trains
    ∷ by_each_train stop_met_clauses trains
    ∷ by_each_train stop_in_run_clauses trains
    ∷ of_each_train stand_clauses tables trains
    ∷ by_each_train stop_after_entry_clauses trains
    ∷ []

-- all clauses of some families
abbrev pub whole : List (List (List Lit)) → List (List Lit)
whole families = flat_map (λ family. family) families

-- of a free task, without its counter and its bound
abbrev pub base_families : (ℕ → ℕ → List (List CandidateId)) → Network → List Table → List CodedTrain → List (List (List Lit))
base_families walks net tables trains = kept_clauses net ∷ plan_families walks net tables trains

-- with the counter, where the number of its first variable is given
abbrev pub counted_families : (ℕ → ℕ → List (List CandidateId)) → Network → List Table → List CodedTrain → ℕ → List (List (List Lit))
counted_families walks net tables trains first =
    base_families walks net tables trains ++ counter_clauses (border_lits net.candidates) first net.candidates ∷ []

-- and with at most so many borders
abbrev pub free_families : (ℕ → ℕ → List (List CandidateId)) → Network → List Table → List CodedTrain → ℕ → ℕ → List (List (List Lit))
free_families walks net tables trains first most =
    counted_families walks net tables trains first ++ most_clauses first net.candidates most ∷ []

-- of the task of a given layout
abbrev pub given_families : (ℕ → ℕ → List (List CandidateId)) → Network → List Table → List CodedTrain → List CandidateId → List (List (List Lit))
given_families walks net tables trains layout = given_clauses net layout ∷ plan_families walks net tables trains
