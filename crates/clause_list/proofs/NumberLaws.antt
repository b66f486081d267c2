-- The order and the bounds of the numbers of variables.
use Rattle.std.proofs.Common.{◌≡◌, ℕ, ◌+◌, ◌-◌, ◌*◌, ◌<◌, ◌≤◌, [], length, get_or, take, ap, arith}
use Rattle.std.specs.Prelude.{Contains, nat_eq, max, min}
use Rattle.std.specs.List.{sum_by, position_or_len}
use Rattle.std.proofs.lemmas.List.Sums.{sum_by_more_le, sum_by_more}
use Rattle.std.proofs.Math.Nat.{mul-le-mul_right, le-max_left, le-max_right, min-le_left, min-le_right}
use Rattle.cell_net.specs.declared.trains.StopSpec.{StopSpec}
use Rattle.clause_list.specs.Ranges.{below}
use Rattle.clause_list.specs.Numbers.{CodedTrain, Network, cone, sweep, sweeps_before, touch, run_ended, waits, beginnings, first_touch, first_ended, first_met, first_waits, behind_train, above, gap, gaps_below, first_of_trains}
use Rattle.clause_list.specs.StopClauses.{stop_at, meets, no_stop}
use Rattle.clause_list.specs.Orders.{IsNumbered}
use Rattle.clause_list.proofs.ListLaws.{first_place, places_rise, in_range_is, length-from_below, length-below, below_take, at_below}

-- the numbers of a step's items lie between those of the steps around it, and before the touches
pub sweep_bounds : (vars : ℕ) (a : CodedTrain) (t w : ℕ) → IsNumbered vars a → a.start ≤ t → t ≤ a.by → Contains (cone a t) w → (a.first + sweeps_before a t ≤ sweep a t w) × (sweep a t w < a.first + sweeps_before a (t + 1)) × (a.first ≤ sweep a t w) × (sweep a t w < first_touch a)
sweep_bounds vars a t w numbered h k inside =
    let steps : length a.cones ≡ a.by + 1 - a.start = numbered.for_each_step in
    let place : position_or_len (nat_eq w) (cone a t) < length (cone a t) = (first_place (cone a t) w inside).0 in
    let next : t + 1 - a.start ≡ t - a.start + 1 = omega arith in
    let more : sum_by length (take (t - a.start + 1) a.cones) ≡ sum_by length (take (t - a.start) a.cones) + length (cone a t) = sum_by_more length a.cones (t - a.start) [] (omega arith) in
    let total : sum_by length (take (t - a.start) a.cones) + length (cone a t) ≤ sum_by length a.cones = sum_by_more_le length a.cones (t - a.start) [] (omega arith) in
    let behind : sweeps_before a (t + 1) ≡ sum_by length (take (t - a.start + 1) a.cones) = ap (λ n. sum_by length (take n a.cones)) next in
    (omega arith, omega arith, omega arith, omega arith)

-- the numbers of a step's items rise as the items do
pub sweeps_rise : (vars : ℕ) (a : CodedTrain) (t v w : ℕ) → IsNumbered vars a → a.start ≤ t → t ≤ a.by → Contains (cone a t) v → Contains (cone a t) w → v < w → sweep a t v < sweep a t w
sweeps_rise vars a t v w numbered h k one other less =
    let places : position_or_len (nat_eq v) (cone a t) < position_or_len (nat_eq w) (cone a t) = places_rise (cone a t) v w (numbered.cones_rise t h k) one other less in
    omega arith

pub touch_bounds : (a : CodedTrain) (t e : ℕ) → a.start ≤ t → t ≤ a.by → e < a.cells → (first_touch a ≤ touch a t e) × (touch a t e < first_ended a)
touch_bounds a t e h k few =
    let row : (t - a.start + 1) * a.cells ≤ (a.by + 1 - a.start) * a.cells = mul-le-mul_right a.cells (omega arith) in
    let split : (t - a.start + 1) * a.cells ≡ (t - a.start) * a.cells + a.cells = omega arith in
    (omega arith, omega arith)

pub ended_bounds : (a : CodedTrain) (t : ℕ) → a.start < t → t ≤ a.by → (first_ended a ≤ run_ended a t) × (run_ended a t < first_met a)
ended_bounds a t h k = (omega arith, omega arith)

-- the steps at which a stop can begin to be met are steps of the train, and so are all at which it then is
pub beginning_is : (a : CodedTrain) (stop : StopSpec) (s : ℕ) → Contains (beginnings a stop) s → (max stop.from a.start ≤ s) × (a.start ≤ s) × (stop.from ≤ s) × (s + stop.dwell ≤ a.by + 1) × (s + stop.dwell ≤ stop.until) × (s - max stop.from a.start < length (beginnings a stop))
beginning_is a stop s inside =
    let from : ℕ = max stop.from a.start in
    let end : ℕ = min stop.until (a.by + 1) + 1 - stop.dwell in
    let (h, k) = in_range_is from end s inside in
    let one : stop.from ≤ from = le-max_left stop.from a.start in
    let other : a.start ≤ from = le-max_right stop.from a.start in
    let until : min stop.until (a.by + 1) ≤ stop.until = min-le_left stop.until (a.by + 1) in
    let last : min stop.until (a.by + 1) ≤ a.by + 1 = min-le_right stop.until (a.by + 1) in
    let count : length (beginnings a stop) ≡ end - from = length-from_below from end in
    (h, omega arith, omega arith, omega arith, omega arith, omega arith)

pub met_bounds : (a : CodedTrain) (i s : ℕ) → i < length a.stops → Contains (beginnings a (stop_at a i)) s → (first_met a ≤ meets a i s) × (meets a i s < first_waits a)
met_bounds a i s stop inside =
    let total : sum_by (λ other. length (beginnings a other)) (take i a.stops) + length (beginnings a (stop_at a i)) ≤ sum_by (λ other. length (beginnings a other)) a.stops = sum_by_more_le (λ other. length (beginnings a other)) a.stops i no_stop stop in
    let (first, after, from, before, until, place) = beginning_is a (stop_at a i) s inside in
    (omega arith, omega arith)

pub waits_bounds : (a : CodedTrain) (t : ℕ) → a.start ≤ t → t < a.latest → (first_waits a ≤ waits a t) × (waits a t < behind_train a)
waits_bounds a t h k = (omega arith, omega arith)

-- the gap of two cells of a section is behind the borders and before the trains
pub gap_bounds : (net : Network) (e f : ℕ) → e < length net.sections → Contains (above net e) f → (net.candidates < gap net e f) × (gap net e f < first_of_trains net)
gap_bounds net e f within inside =
    let count : ℕ → ℕ = λ d. length (above net d) in
    let cells : ℕ = length net.sections in
    let place : position_or_len (nat_eq f) (above net e) < length (above net e) = (first_place (above net e) f inside).0 in
    let total : sum_by count (take e (below cells)) + count (get_or (below cells) e 0) ≤ sum_by count (below cells) = sum_by_more_le count (below cells) e 0 (omega (arith, length-below cells)) in
    let front : sum_by count (take e (below cells)) ≡ gaps_below net e = ap (sum_by count) (below_take e cells (omega arith)) in
    let this : count (get_or (below cells) e 0) ≡ count e = ap count (at_below cells e 0 within) in
    (omega arith, omega arith)
