-- The clauses of a train's stops are clauses.
use Rattle.std.proofs.Common.{ℕ, ◌+◌, ◌-◌, ◌<◌, ◌≤◌, List, [], ◌∷◌, length, get_or, filter, arith}
use Rattle.std.specs.Prelude.{All, Contains, not, nat_lt, max, min}
use Rattle.std.proofs.lemmas.Bool.{ltb-true}
use Rattle.std.proofs.lemmas.List.Elements.{Contains-get_or}
use Rattle.sat_core.specs.Clauses.{IsClause}
use Rattle.sweep_table.specs.Tables.{Table, stands_in}
use Rattle.clause_list.specs.Ranges.{from_below}
use Rattle.clause_list.specs.Numbers.{CodedTrain, is_not, cone, sweep, run_ended, waits, beginnings, behind_train}
use Rattle.clause_list.specs.StopClauses.{stop_at, stop_places, meets, last_of_stop, stop_met, stop_met_clauses, stop_in_run, stops_in_run, stop_in_run_clauses, not_standing, stand, stands_at, stands_from, stands_while, stand_clauses, entered, entered_before, stop_after_entry_clauses}
use Rattle.clause_list.specs.Orders.{IsNumbered}
use Rattle.clause_list.proofs.ListLaws.{in_range_is, filter_is, range_rises}
use Rattle.clause_list.proofs.ClauseLaws.{two_literals, items_clause, all_each, all_one}
use Rattle.clause_list.proofs.NumberLaws.{sweep_bounds, ended_bounds, met_bounds, waits_bounds, beginning_is}

place_within : (a : CodedTrain) (i : ℕ) → Contains (stop_places a) i → i < length a.stops
place_within a i inside = (in_range_is 0 (length a.stops) i inside).1

pub stop_met_are_clauses : (vars : ℕ) (a : CodedTrain) → IsNumbered vars a → All (IsClause vars) (stop_met_clauses a)
unfolding stop_met_clauses stop_met
stop_met_are_clauses vars a numbered =
    all_each (IsClause vars) (λ i. stop_met a i ∷ []) (stop_places a) (λ i stop. all_one (IsClause vars) (stop_met a i) (
    let last : behind_train a ≤ vars + 1 = numbered.within in
    let one : 1 ≤ a.first = numbered.from_one in
    let steps : List ℕ = beginnings a (stop_at a i) in
    items_clause vars (meets a i) steps
    (λ s inside. let (low, high) = met_bounds a i s (place_within a i stop) inside in (omega arith, omega arith))
    (λ j k d less within.
    let earlier : get_or steps j d < get_or steps k d = range_rises (max (stop_at a i).from a.start) (min (stop_at a i).until (a.by + 1) + 1 - (stop_at a i).dwell) j k d less within in
    let from : max (stop_at a i).from a.start ≤ get_or steps j d = (beginning_is a (stop_at a i) (get_or steps j d) (Contains-get_or steps j d (omega arith))).0 in
    omega arith)))

pub stop_in_run_are_clauses : (vars : ℕ) (a : CodedTrain) → IsNumbered vars a → All (IsClause vars) (stop_in_run_clauses a)
unfolding stop_in_run_clauses stops_in_run stop_in_run
stop_in_run_are_clauses vars a numbered =
    all_each (IsClause vars) (stops_in_run a) (stop_places a) (λ i stop.
    all_each (IsClause vars) (λ s. stop_in_run a i s ∷ []) (filter (λ s. nat_lt a.start (last_of_stop a i s)) (beginnings a (stop_at a i))) (λ s kept. all_one (IsClause vars) (stop_in_run a i s) (
    let within : behind_train a ≤ vars + 1 = numbered.within in
    let one : 1 ≤ a.first = numbered.from_one in
    let (test, inside) = filter_is (λ s. nat_lt a.start (last_of_stop a i s)) (beginnings a (stop_at a i)) s kept in
    let after : a.start < last_of_stop a i s = ltb-true a.start (last_of_stop a i s) test in
    let (first, start, from, by, until, place) = beginning_is a (stop_at a i) s inside in
    let (low, high) = met_bounds a i s (place_within a i stop) inside in
    let (over, under) = ended_bounds a (last_of_stop a i s) after (omega arith) in
    two_literals vars (is_not (meets a i s)) (is_not (run_ended a (last_of_stop a i s))) (omega arith, omega arith) (omega arith, omega arith) (omega arith))))

stand_clause : (vars : ℕ) (a : CodedTrain) (i s t w : ℕ) → IsNumbered vars a → i < length a.stops → Contains (beginnings a (stop_at a i)) s → s ≤ t → t < s + (stop_at a i).dwell → Contains (cone a t) w → IsClause vars (stand a i s t w)
unfolding stand
stand_clause vars a i s t w numbered stop inside h k there =
    let last : behind_train a ≤ vars + 1 = numbered.within in
    let one : 1 ≤ a.first = numbered.from_one in
    let (first, start, from, by, until, place) = beginning_is a (stop_at a i) s inside in
    let (low, high) = met_bounds a i s stop inside in
    let (over, under, least, most) = sweep_bounds vars a t w numbered (omega arith) (omega arith) there in
    two_literals vars (is_not (meets a i s)) (is_not (sweep a t w)) (omega arith, omega arith) (omega arith, omega arith) (omega arith)

pub stand_are_clauses : (vars : ℕ) (table : Table) (a : CodedTrain) → IsNumbered vars a → All (IsClause vars) (stand_clauses table a)
unfolding stand_clauses stands_while stands_from stands_at
stand_are_clauses vars table a numbered =
    all_each (IsClause vars) (stands_while table a) (stop_places a) (λ i stop.
    all_each (IsClause vars) (stands_from table a i) (beginnings a (stop_at a i)) (λ s inside.
    all_each (IsClause vars) (stands_at table a i s) (from_below s (s + (stop_at a i).dwell)) (λ t step. let (h, k) = in_range_is s (s + (stop_at a i).dwell) t step in
    all_each (IsClause vars) (λ w. stand a i s t w ∷ []) (not_standing table a i t) (λ w kept. all_one (IsClause vars) (stand a i s t w)
    (stand_clause vars a i s t w numbered (place_within a i stop) inside h k (filter_is (λ w. not (stands_in table (stop_at a i).station.0 w)) (cone a t) w kept).1)))))

pub stop_after_entry_are_clauses : (vars : ℕ) (a : CodedTrain) → IsNumbered vars a → All (IsClause vars) (stop_after_entry_clauses a)
unfolding stop_after_entry_clauses entered_before entered
stop_after_entry_are_clauses vars a numbered =
    all_each (IsClause vars) (entered_before a) (stop_places a) (λ i stop.
    all_each (IsClause vars) (λ s. entered a i s ∷ []) (filter (λ s. nat_lt s a.latest) (beginnings a (stop_at a i))) (λ s kept. all_one (IsClause vars) (entered a i s) (
    let last : behind_train a ≤ vars + 1 = numbered.within in
    let one : 1 ≤ a.first = numbered.from_one in
    let (test, inside) = filter_is (λ s. nat_lt s a.latest) (beginnings a (stop_at a i)) s kept in
    let before : s < a.latest = ltb-true s a.latest test in
    let (first, start, from, by, until, place) = beginning_is a (stop_at a i) s inside in
    let (low, high) = met_bounds a i s (place_within a i stop) inside in
    let (over, under) = waits_bounds a s start before in
    two_literals vars (is_not (meets a i s)) (is_not (waits a s)) (omega arith, omega arith) (omega arith, omega arith) (omega arith))))
