-- The clauses of one train's stops.
use Rattle.std.specs.Prelude.{ℕ, ◌+◌, ◌-◌, List, [], ◌∷◌, not, nat_lt, map, filter, length, slice_index_or}
use Rattle.std.specs.List.{flat_map}
use Rattle.sat_core.specs.declared.literal.Lit.{Lit}
use Rattle.cell_net.specs.declared.trains.StopSpec.{StopSpec}
use Rattle.sweep_table.specs.Tables.{Table, stands_in}
use Rattle.clause_list.specs.Ranges.{one_each, below, from_below}
use Rattle.clause_list.specs.Numbers.{CodedTrain, is, is_not, cone, sweep, run_ended, beginnings, met, waits}

-- stands for a stop where there is none
abbrev pub no_stop : StopSpec
no_stop = record { station = record { 0 = 0 }; from = 0; until = 0; dwell = 0 }

-- the stop of that place
abbrev pub stop_at : CodedTrain → ℕ → StopSpec
stop_at a i = slice_index_or a.stops i no_stop

-- the places of the stops
abbrev pub stop_places : CodedTrain → List ℕ
stop_places a = below (length a.stops)

-- the variable of meeting the stop of that place from a step on
abbrev pub meets : CodedTrain → ℕ → ℕ → ℕ
meets a i s = met a i (stop_at a i) s

-- Stop met: each stop is met from some step on.
unfoldable pub stop_met : CodedTrain → ℕ → List Lit
stop_met a i = map (λ s. is (meets a i s)) (beginnings a (stop_at a i))

unfoldable pub stop_met_clauses : CodedTrain → List (List Lit)
stop_met_clauses a = one_each (stop_met a) (stop_places a)

-- the last step of a stop that begins at a step
abbrev pub last_of_stop : CodedTrain → ℕ → ℕ → ℕ
last_of_stop a i s = s + (stop_at a i).dwell - 1

-- Not ended while stopping: at the last step of a stop the run has not ended.
unfoldable pub stop_in_run : CodedTrain → ℕ → ℕ → List Lit
stop_in_run a i s = is_not (meets a i s) ∷ is_not (run_ended a (last_of_stop a i s)) ∷ []

unfoldable pub stops_in_run : CodedTrain → ℕ → List (List Lit)
stops_in_run a i = one_each (stop_in_run a i) (filter (λ s. nat_lt a.start (last_of_stop a i s)) (beginnings a (stop_at a i)))

unfoldable pub stop_in_run_clauses : CodedTrain → List (List Lit)
stop_in_run_clauses a = flat_map (stops_in_run a) (stop_places a)

-- Stand while stopping: while a stop is met, no item that does not stand in the station.
abbrev pub not_standing : Table → CodedTrain → ℕ → ℕ → List ℕ
not_standing table a i t = filter (λ w. not (stands_in table (stop_at a i).station.0 w)) (cone a t)

unfoldable pub stand : CodedTrain → ℕ → ℕ → ℕ → ℕ → List Lit
stand a i s t w = is_not (meets a i s) ∷ is_not (sweep a t w) ∷ []

unfoldable pub stands_at : Table → CodedTrain → ℕ → ℕ → ℕ → List (List Lit)
stands_at table a i s t = one_each (stand a i s t) (not_standing table a i t)

unfoldable pub stands_from : Table → CodedTrain → ℕ → ℕ → List (List Lit)
stands_from table a i s = flat_map (stands_at table a i s) (from_below s (s + (stop_at a i).dwell))

unfoldable pub stands_while : Table → CodedTrain → ℕ → List (List Lit)
stands_while table a i = flat_map (stands_from table a i) (beginnings a (stop_at a i))

unfoldable pub stand_clauses : Table → CodedTrain → List (List Lit)
stand_clauses table a = flat_map (stands_while table a) (stop_places a)

-- Entered before stopping: a stop is not met from a step on after which the run begins.
unfoldable pub entered : CodedTrain → ℕ → ℕ → List Lit
entered a i s = is_not (meets a i s) ∷ is_not (waits a s) ∷ []

unfoldable pub entered_before : CodedTrain → ℕ → List (List Lit)
entered_before a i = one_each (entered a i) (filter (λ s. nat_lt s a.latest) (beginnings a (stop_at a i)))

unfoldable pub stop_after_entry_clauses : CodedTrain → List (List Lit)
stop_after_entry_clauses a = flat_map (entered_before a) (stop_places a)
