-- The values of a chain satisfy the clauses of a train's stops.
use Rattle.std.proofs.Common.{◌≡◌, ℕ, zero, suc, ◌+◌, ◌-◌, ◌<◌, ◌≤◌, Bool, true, List, [], ◌∷◌, length, get_or, filter, sym, ap, ◌∙◌, subst, arith}
use Rattle.std.specs.Prelude.{Contains, not, nat_lt, nat_le, slice_index, max, min}
use Rattle.std.specs.List.{list_all}
use Rattle.std.proofs.lemmas.Bool.{leb-true, ltb-true, false≢true, false_from_ne_true}
use Rattle.sat_core.specs.Clauses.{SatisfiesAll}
use Rattle.cell_net.specs.declared.trains.StopSpec.{StopSpec}
use Rattle.sweep_table.specs.Tables.{Table, stands_in}
use Rattle.clause_list.specs.Ranges.{from_below}
use Rattle.clause_list.specs.Numbers.{CodedTrain, cone, sweep, run_ended, waits, beginnings}
use Rattle.clause_list.specs.StopClauses.{stop_at, stop_places, meets, last_of_stop, stop_met, stop_met_clauses, stop_in_run, stops_in_run, stop_in_run_clauses, not_standing, stand, stands_at as stand_at_clauses, stands_from, stands_while, stand_clauses, entered, entered_before, stop_after_entry_clauses}
use Rattle.clause_list.proofs.ListLaws.{in_range_is, in_range, filter_is, both_true}
use Rattle.clause_list.proofs.NumberLaws.{beginning_is}
use Rattle.plan_values.specs.Values.{has_step, has, stands_at_step, is_met, is_over, is_waiting}
use Rattle.plan_values.specs.Meanings.{Means, IsChainOf}
use Rattle.plan_values.proofs.Making.{make_true, make_each, make_one, make_any, not_both}
use Rattle.plan_values.proofs.Running.{has_says, not_over}

place_within : (a : CodedTrain) (i : ℕ) → Contains (stop_places a) i → i < length a.stops
place_within a i inside = (in_range_is 0 (length a.stops) i inside).1

-- what a test of each says of one
all_says : (test : ℕ → Bool) (xs : List ℕ) (x : ℕ) → list_all test xs ≡ true → Contains xs x → test x ≡ true
all_says test [] x all (k, within, same) = absurd (omega arith)
all_says test (y ∷ ys) x all (zero, within, same) = subst (λ z. test z ≡ true) same (both_true (test y) (list_all test ys) all).0
all_says test (y ∷ ys) x all (suc k, within, same) = all_says test ys x (both_true (test y) (list_all test ys) all).1 (k, omega arith, same)

-- while a stop is met the chain has an item, which stands in the station
met_says : (table : Table) (x : ℕ) (items : List ℕ) (stop : StopSpec) (s t : ℕ) → is_met table x items stop s ≡ true → s ≤ t → t < s + stop.dwell → (x ≤ t) × (t - x < length items) × (stands_in table stop.station.0 (get_or items (t - x) 0) ≡ true)
met_says table x items stop s t met h k =
    let here = all_says (stands_at_step table x items stop.station.0) (from_below s (s + stop.dwell)) t met (in_range s (s + stop.dwell) t h k) in
    let (step, stands) = both_true (has_step x items t) (stands_in table stop.station.0 (slice_index items (t - x))) here in
    let (begun, there) = both_true (nat_le x t) (nat_lt (t - x) (length items)) step in
    (leb-true x t begun, ltb-true (t - x) (length items) there, stands)

max_least : (m n k : ℕ) → m ≤ k → n ≤ k → max m n ≤ k
max_least m n k h l = omega arith

-- the steps at which a stop is met are such that it can begin to be met there
met_begins : (table : Table) (a : CodedTrain) (x : ℕ) (items : List ℕ) (stop : StopSpec) (s : ℕ) → IsChainOf table a x items → 0 < stop.dwell → stop.from ≤ s → s + stop.dwell ≤ stop.until → is_met table x items stop s ≡ true → Contains (beginnings a stop) s
met_begins table a x items stop s chain some from until met =
    let early : a.start ≤ x = chain.not_early in
    let end : x + length items ≤ a.by + 1 = chain.in_time in
    let (begun, there, stands) = met_says table x items stop s s met (omega arith) (omega arith) in
    let (begun_too, there_too, stands_too) = met_says table x items stop s (s + stop.dwell - 1) met (omega arith) (omega arith) in
    in_range (max stop.from a.start) (min stop.until (a.by + 1) + 1 - stop.dwell) s (omega arith) (omega arith)

pub stop_met_holds : (values : List Bool) (table : Table) (a : CodedTrain) (x : ℕ) (items : List ℕ) → Means values table a x items → IsChainOf table a x items → ((i : ℕ) → i < length a.stops → 0 < (stop_at a i).dwell) → SatisfiesAll values (stop_met_clauses a)
unfolding stop_met_clauses stop_met
stop_met_holds values table a x items means chain dwells =
    make_each values (λ i. stop_met a i ∷ []) (stop_places a) (λ i stop. make_one values (stop_met a i) (
    let within : i < length a.stops = place_within a i stop in
    let (s, from, until, met) = chain.stops i within in
    let inside : Contains (beginnings a (stop_at a i)) s = met_begins table a x items (stop_at a i) s chain (dwells i within) from until met in
    make_any values (meets a i) (beginnings a (stop_at a i)) s inside (make_true values (meets a i s) (is_met table x items (stop_at a i) s) (means.met i s within inside) met)))

pub stop_in_run_holds : (values : List Bool) (table : Table) (a : CodedTrain) (x : ℕ) (items : List ℕ) → Means values table a x items → ((i : ℕ) → i < length a.stops → 0 < (stop_at a i).dwell) → SatisfiesAll values (stop_in_run_clauses a)
unfolding stop_in_run_clauses stops_in_run stop_in_run
stop_in_run_holds values table a x items means dwells =
    make_each values (stops_in_run a) (stop_places a) (λ i stop.
    make_each values (λ s. stop_in_run a i s ∷ []) (filter (λ s. nat_lt a.start (last_of_stop a i s)) (beginnings a (stop_at a i))) (λ s kept. make_one values (stop_in_run a i s) (
    let within : i < length a.stops = place_within a i stop in
    let (test, inside) = filter_is (λ s. nat_lt a.start (last_of_stop a i s)) (beginnings a (stop_at a i)) s kept in
    let after : a.start < last_of_stop a i s = ltb-true a.start (last_of_stop a i s) test in
    let (first, start, from, by, until, place) = beginning_is a (stop_at a i) s inside in
    let some : 0 < (stop_at a i).dwell = dwells i within in
    not_both values (meets a i s) (run_ended a (last_of_stop a i s)) (is_met table x items (stop_at a i) s) (is_over x items (last_of_stop a i s)) (means.met i s within inside) (means.ended (last_of_stop a i s) after (omega arith))
    (λ met. let (begun, there, stands) = met_says table x items (stop_at a i) s (last_of_stop a i s) met (omega arith) (omega arith) in not_over x items (last_of_stop a i s) (omega arith)))))

pub stand_holds : (values : List Bool) (table : Table) (a : CodedTrain) (x : ℕ) (items : List ℕ) → Means values table a x items → SatisfiesAll values (stand_clauses table a)
unfolding stand_clauses stands_while stands_from stand_at_clauses stand
stand_holds values table a x items means =
    make_each values (stands_while table a) (stop_places a) (λ i stop.
    make_each values (stands_from table a i) (beginnings a (stop_at a i)) (λ s inside.
    make_each values (stand_at_clauses table a i s) (from_below s (s + (stop_at a i).dwell)) (λ t step.
    make_each values (λ w. stand a i s t w ∷ []) (not_standing table a i t) (λ w kept. make_one values (stand a i s t w) (
    let within : i < length a.stops = place_within a i stop in
    let (h, k) = in_range_is s (s + (stop_at a i).dwell) t step in
    let (test, there) = filter_is (λ w. not (stands_in table (stop_at a i).station.0 w)) (cone a t) w kept in
    let (first, start, from, by, until, place) = beginning_is a (stop_at a i) s inside in
    not_both values (meets a i s) (sweep a t w) (is_met table x items (stop_at a i) s) (has x items t w) (means.met i s within inside) (means.sweep t w (omega arith) (omega arith) there)
    (λ met. false_from_ne_true (has x items t w) (λ holds.
    let (begun, some, stands) = met_says table x items (stop_at a i) s t met h k in
    let (begun_too, some_too, is_w) = has_says x items t w holds in
    let standing : stands_in table (stop_at a i).station.0 w ≡ true = subst (λ v. stands_in table (stop_at a i).station.0 v ≡ true) is_w stands in
    false≢true (sym (ap not standing) ∙ test))))))))

pub stop_after_entry_holds : (values : List Bool) (table : Table) (a : CodedTrain) (x : ℕ) (items : List ℕ) → Means values table a x items → ((i : ℕ) → i < length a.stops → 0 < (stop_at a i).dwell) → SatisfiesAll values (stop_after_entry_clauses a)
unfolding stop_after_entry_clauses entered_before entered
stop_after_entry_holds values table a x items means dwells =
    make_each values (entered_before a) (stop_places a) (λ i stop.
    make_each values (λ s. entered a i s ∷ []) (filter (λ s. nat_lt s a.latest) (beginnings a (stop_at a i))) (λ s kept. make_one values (entered a i s) (
    let within : i < length a.stops = place_within a i stop in
    let (test, inside) = filter_is (λ s. nat_lt s a.latest) (beginnings a (stop_at a i)) s kept in
    let before : s < a.latest = ltb-true s a.latest test in
    let (first, start, from, by, until, place) = beginning_is a (stop_at a i) s inside in
    let some : 0 < (stop_at a i).dwell = dwells i within in
    not_both values (meets a i s) (waits a s) (is_met table x items (stop_at a i) s) (is_waiting x s) (means.met i s within inside) (means.waits s start before)
    (λ met. false_from_ne_true (is_waiting x s) (λ waits.
    let less : s < x = ltb-true s x waits in
    let (begun, there, stands) = met_says table x items (stop_at a i) s s met (omega arith) (omega arith) in
    omega arith)))))
