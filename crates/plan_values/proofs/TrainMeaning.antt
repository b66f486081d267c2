-- The variables of a train have the values of their meanings, where its values stand in the valuation.
use Rattle.std.proofs.Common.{◌≡◌, ℕ, zero, suc, ◌+◌, ◌-◌, ◌*◌, ◌<◌, ◌≤◌, Bool, List, [], ◌∷◌, ◌++◌, length, take, get_or, map, refl, ap, ◌∙◌, arith, length-append}
use Rattle.std.specs.Prelude.{Contains, max, min, nat_eq}
use Rattle.std.specs.List.{sum_by, position_or_len}
use Rattle.std.proofs.lemmas.List.{get_or-map, length-map}
use Rattle.std.proofs.lemmas.List.FromFn.{get_or-range_with_len}
use Rattle.std.proofs.lemmas.List.Sums.{sum_by-cons}
use Rattle.cell_net.specs.declared.trains.StopSpec.{StopSpec}
use Rattle.sweep_table.specs.Tables.{Table}
use Rattle.clause_list.specs.Ranges.{below, from_below, from_to}
use Rattle.clause_list.specs.Rows.{rows}
use Rattle.clause_list.specs.Numbers.{CodedTrain, cone, steps, sweep, touch, run_ended, waits, beginnings, first_touch, first_ended, first_met, first_waits, behind_train}
use Rattle.clause_list.specs.StopClauses.{stop_at, meets, no_stop}
use Rattle.clause_list.specs.Orders.{IsNumbered}
use Rattle.clause_list.proofs.ListLaws.{first_place, length-from_below, length-below, at_below, in_range_is}
use Rattle.clause_list.proofs.RowLaws.{length-rows}
use Rattle.plan_values.specs.Values.{has, touches, is_over, is_met, is_met_at, with_beginnings, is_waiting, train_values}
use Rattle.plan_values.specs.Meanings.{Is, Means}
use Rattle.plan_values.proofs.PartLaws.{IsPart, front_part, back_part, part_at, row_part, map_part, is_as}

at_from : (from end k d : ℕ) → k < end - from → get_or (from_below from end) k d ≡ from + k
unfolding from_below
at_from from end k d h = get_or-range_with_len from (end - from) k d h

-- so many rows of one length
even_rows : (ts : List ℕ) (n k : ℕ) → k ≤ length ts → sum_by length (take k (map (λ t. below n) ts)) ≡ k * n
even_rows ts n zero h = omega arith
even_rows [] n (suc k) h = absurd (omega arith)
even_rows (t ∷ ts) n (suc k) h =
    let others : sum_by length (take k (map (λ u. below n) ts)) ≡ k * n = even_rows ts n k (omega arith) in
    let split : sum_by length (below n ∷ take k (map (λ u. below n) ts)) ≡ length (below n) + sum_by length (take k (map (λ u. below n) ts)) = sum_by-cons length (below n) (take k (map (λ u. below n) ts)) in
    omega (arith, length-below n)

all_rows : (ts : List ℕ) (n : ℕ) → sum_by length (map (λ t. below n) ts) ≡ length ts * n
all_rows [] n = omega arith
all_rows (t ∷ ts) n =
    let others : sum_by length (map (λ u. below n) ts) ≡ length ts * n = all_rows ts n in
    let split : sum_by length (below n ∷ map (λ u. below n) ts) ≡ length (below n) + sum_by length (map (λ u. below n) ts) = sum_by-cons length (below n) (map (λ u. below n) ts) in
    omega (arith, length-below n)

length-with : (a : CodedTrain) (stop : StopSpec) → length (with_beginnings a stop) ≡ length (beginnings a stop)
length-with a stop = let pair : ℕ → StopSpec × ℕ = λ s. (stop, s) in length-map (beginnings a stop) pair

-- the lengths of rows that are made of items
sums_front : (a : CodedTrain) (stops : List StopSpec) (i : ℕ) → sum_by length (take i (map (with_beginnings a) stops)) ≡ sum_by (λ stop. length (beginnings a stop)) (take i stops)
sums_front a stops zero = refl
sums_front a [] (suc i) = refl
sums_front a (stop ∷ stops) (suc i) =
    let others : sum_by length (take i (map (with_beginnings a) stops)) ≡ sum_by (λ other. length (beginnings a other)) (take i stops) = sums_front a stops i in
    let one : sum_by length (with_beginnings a stop ∷ take i (map (with_beginnings a) stops)) ≡ length (with_beginnings a stop) + sum_by length (take i (map (with_beginnings a) stops)) = sum_by-cons length (with_beginnings a stop) (take i (map (with_beginnings a) stops)) in
    let other : sum_by (λ other. length (beginnings a other)) (stop ∷ take i stops) ≡ length (beginnings a stop) + sum_by (λ other. length (beginnings a other)) (take i stops) = sum_by-cons (λ other. length (beginnings a other)) stop (take i stops) in
    omega (arith, length-with a stop)

sums_all : (a : CodedTrain) (stops : List StopSpec) → sum_by length (map (with_beginnings a) stops) ≡ sum_by (λ stop. length (beginnings a stop)) stops
sums_all a [] = refl
sums_all a (stop ∷ stops) =
    let others : sum_by length (map (with_beginnings a) stops) ≡ sum_by (λ other. length (beginnings a other)) stops = sums_all a stops in
    let one : sum_by length (with_beginnings a stop ∷ map (with_beginnings a) stops) ≡ length (with_beginnings a stop) + sum_by length (map (with_beginnings a) stops) = sum_by-cons length (with_beginnings a stop) (map (with_beginnings a) stops) in
    let other : sum_by (λ other. length (beginnings a other)) (stop ∷ stops) ≡ length (beginnings a stop) + sum_by (λ other. length (beginnings a other)) stops = sum_by-cons (λ other. length (beginnings a other)) stop stops in
    omega (arith, length-with a stop)

-- the values of each kind stand from the first number of their kind on
record AreParts (values : List Bool) (table : Table) (a : CodedTrain) (x : ℕ) (items : List ℕ) : Type 0 where
  sweeps : IsPart values a.first (rows (has x items) a.start a.cones)
  touching : IsPart values (first_touch a) (rows (touches table x items) a.start (map (λ t. below a.cells) (steps a)))
  endings : IsPart values (first_ended a) (map (is_over x items) (from_to (a.start + 1) a.by))
  meetings : IsPart values (first_met a) (rows (is_met_at table x items) 0 (map (with_beginnings a) a.stops))
  waiting : IsPart values (first_waits a) (map (is_waiting x) (from_below a.start a.latest))

parts_of : (values : List Bool) (table : Table) (a : CodedTrain) (x : ℕ) (items : List ℕ) (vars : ℕ) → IsNumbered vars a → IsPart values a.first (train_values table a x items) → AreParts values table a x items
parts_of values table a x items vars numbered part =
    let lists : List (List ℕ) = map (λ t. below a.cells) (steps a) in
    let sweeps : List Bool = rows (has x items) a.start a.cones in
    let touching : List Bool = rows (touches table x items) a.start lists in
    let endings : List Bool = map (is_over x items) (from_to (a.start + 1) a.by) in
    let meetings : List Bool = rows (is_met_at table x items) 0 (map (with_beginnings a) a.stops) in
    let waiting : List Bool = map (is_waiting x) (from_below a.start a.latest) in
    let sweep_count : length sweeps ≡ sum_by length a.cones = length-rows (has x items) a.start a.cones in
    let touch_count : length touching ≡ (a.by + 1 - a.start) * a.cells = length-rows (touches table x items) a.start lists ∙ (all_rows (steps a) a.cells ∙ ap (λ n. n * a.cells) (length-from_below a.start (a.by + 1))) in
    let end_count : length endings ≡ a.by - a.start = length-map (from_to (a.start + 1) a.by) (is_over x items) ∙ (length-from_below (a.start + 1) (a.by + 1) ∙ omega arith) in
    let met_count : length meetings ≡ sum_by (λ stop. length (beginnings a stop)) a.stops = length-rows (is_met_at table x items) 0 (map (with_beginnings a) a.stops) ∙ sums_all a a.stops in
    let behind_sweeps : IsPart values (first_touch a) (touching ++ (endings ++ (meetings ++ waiting))) = part_at values (a.first + length sweeps) (first_touch a) (touching ++ (endings ++ (meetings ++ waiting))) (omega arith) (back_part values a.first sweeps (touching ++ (endings ++ (meetings ++ waiting))) part) in
    let behind_touching : IsPart values (first_ended a) (endings ++ (meetings ++ waiting)) = part_at values (first_touch a + length touching) (first_ended a) (endings ++ (meetings ++ waiting)) (omega arith) (back_part values (first_touch a) touching (endings ++ (meetings ++ waiting)) behind_sweeps) in
    let behind_endings : IsPart values (first_met a) (meetings ++ waiting) = part_at values (first_ended a + length endings) (first_met a) (meetings ++ waiting) (omega arith) (back_part values (first_ended a) endings (meetings ++ waiting) behind_touching) in
    record {
      sweeps = front_part values a.first sweeps (touching ++ (endings ++ (meetings ++ waiting))) part;
      touching = front_part values (first_touch a) touching (endings ++ (meetings ++ waiting)) behind_sweeps;
      endings = front_part values (first_ended a) endings (meetings ++ waiting) behind_touching;
      meetings = front_part values (first_met a) meetings waiting behind_endings;
      waiting = part_at values (first_met a + length meetings) (first_waits a) waiting (omega arith) (back_part values (first_met a) meetings waiting behind_endings);
    }

-- how many values there are
pub length-train_values : (table : Table) (a : CodedTrain) (x : ℕ) (items : List ℕ) (vars : ℕ) → IsNumbered vars a → a.first + length (train_values table a x items) ≡ behind_train a
length-train_values table a x items vars numbered =
    let lists : List (List ℕ) = map (λ t. below a.cells) (steps a) in
    let sweeps : List Bool = rows (has x items) a.start a.cones in
    let touching : List Bool = rows (touches table x items) a.start lists in
    let endings : List Bool = map (is_over x items) (from_to (a.start + 1) a.by) in
    let meetings : List Bool = rows (is_met_at table x items) 0 (map (with_beginnings a) a.stops) in
    let waiting : List Bool = map (is_waiting x) (from_below a.start a.latest) in
    let sweep_count : length sweeps ≡ sum_by length a.cones = length-rows (has x items) a.start a.cones in
    let touch_count : length touching ≡ (a.by + 1 - a.start) * a.cells = length-rows (touches table x items) a.start lists ∙ (all_rows (steps a) a.cells ∙ ap (λ n. n * a.cells) (length-from_below a.start (a.by + 1))) in
    let end_count : length endings ≡ a.by - a.start = length-map (from_to (a.start + 1) a.by) (is_over x items) ∙ (length-from_below (a.start + 1) (a.by + 1) ∙ omega arith) in
    let met_count : length meetings ≡ sum_by (λ stop. length (beginnings a stop)) a.stops = length-rows (is_met_at table x items) 0 (map (with_beginnings a) a.stops) ∙ sums_all a a.stops in
    let wait_count : length waiting ≡ a.latest - a.start = length-map (from_below a.start a.latest) (is_waiting x) ∙ length-from_below a.start a.latest in
    omega (arith, length-append sweeps (touching ++ (endings ++ (meetings ++ waiting))), length-append touching (endings ++ (meetings ++ waiting)), length-append endings (meetings ++ waiting), length-append meetings waiting)

sweep_is : (values : List Bool) (a : CodedTrain) (x : ℕ) (items : List ℕ) (t w vars : ℕ) → IsNumbered vars a → IsPart values a.first (rows (has x items) a.start a.cones) → a.start ≤ t → t ≤ a.by → Contains (cone a t) w → Is values (sweep a t w) (has x items t w)
sweep_is values a x items t w vars numbered part h k inside =
    let count : length a.cones ≡ a.by + 1 - a.start = numbered.for_each_step in
    let (within, at) = first_place (cone a t) w inside in
    let now : a.start + (t - a.start) ≡ t = omega arith in
    let place : ℕ = position_or_len (nat_eq w) (cone a t) in
    is_as values (sweep a t w) (sweep a t w) (has x items (a.start + (t - a.start)) (get_or (cone a t) place 0)) (has x items t w) refl (ap (λ u. has x items u (get_or (cone a t) place 0)) now ∙ ap (has x items t) at)
    (row_part values a.first (has x items) a.start a.cones (t - a.start) place 0 part (omega arith) within)

touch_is : (values : List Bool) (table : Table) (a : CodedTrain) (x : ℕ) (items : List ℕ) (t e : ℕ) → IsPart values (first_touch a) (rows (touches table x items) a.start (map (λ t. below a.cells) (steps a))) → a.start ≤ t → t ≤ a.by → e < a.cells → Is values (touch a t e) (touches table x items t e)
touch_is values table a x items t e part h k few =
    let row : ℕ = t - a.start in
    let lists : List (List ℕ) = map (λ u. below a.cells) (steps a) in
    let count : length (steps a) ≡ a.by + 1 - a.start = length-from_below a.start (a.by + 1) in
    let size : length lists ≡ length (steps a) = length-map (steps a) (λ u. below a.cells) in
    let this : get_or lists row [] ≡ below a.cells = get_or-map (λ u. below a.cells) (steps a) row 0 [] (omega arith) in
    let front : sum_by length (take row lists) ≡ row * a.cells = even_rows (steps a) a.cells row (omega arith) in
    let long : length (get_or lists row []) ≡ a.cells = ap length this ∙ length-below a.cells in
    let now : a.start + row ≡ t = omega arith in
    is_as values (first_touch a + sum_by length (take row lists) + e) (touch a t e) (touches table x items (a.start + row) (get_or (get_or lists row []) e 0)) (touches table x items t e) (omega arith)
    (ap (λ u. touches table x items u (get_or (get_or lists row []) e 0)) now ∙ ap (touches table x items t) (ap (λ c. get_or c e 0) this ∙ at_below a.cells e 0 few))
    (row_part values (first_touch a) (touches table x items) a.start lists row e 0 part (omega arith) (omega arith))

ended_is : (values : List Bool) (a : CodedTrain) (x : ℕ) (items : List ℕ) (t : ℕ) → IsPart values (first_ended a) (map (is_over x items) (from_to (a.start + 1) a.by)) → a.start < t → t ≤ a.by → Is values (run_ended a t) (is_over x items t)
ended_is values a x items t part h k =
    let place : ℕ = t - (a.start + 1) in
    let at : get_or (from_to (a.start + 1) a.by) place 0 ≡ t = at_from (a.start + 1) (a.by + 1) place 0 (omega arith) ∙ omega arith in
    is_as values (run_ended a t) (run_ended a t) (is_over x items (get_or (from_to (a.start + 1) a.by) place 0)) (is_over x items t) refl (ap (is_over x items) at)
    (map_part values (first_ended a) (is_over x items) (from_to (a.start + 1) a.by) place 0 part (omega (arith, length-from_below (a.start + 1) (a.by + 1))))

met_is : (values : List Bool) (table : Table) (a : CodedTrain) (x : ℕ) (items : List ℕ) (i s : ℕ) → IsPart values (first_met a) (rows (is_met_at table x items) 0 (map (with_beginnings a) a.stops)) → i < length a.stops → Contains (beginnings a (stop_at a i)) s → Is values (meets a i s) (is_met table x items (stop_at a i) s)
met_is values table a x items i s part within inside =
    let stop : StopSpec = stop_at a i in
    let from : ℕ = max stop.from a.start in
    let end : ℕ = min stop.until (a.by + 1) + 1 - stop.dwell in
    let (h, k) = in_range_is from end s inside in
    let place : ℕ = s - from in
    let lists : List (List (StopSpec × ℕ)) = map (with_beginnings a) a.stops in
    let this : get_or lists i [] ≡ with_beginnings a stop = get_or-map (with_beginnings a) a.stops i no_stop [] within in
    let with_step : ℕ → StopSpec × ℕ = λ n. (stop, n) in
    let long : length (get_or lists i []) ≡ end - from = ap length this ∙ (length-with a stop ∙ length-from_below from end) in
    let at : get_or (beginnings a stop) place 0 ≡ s = at_from from end place 0 (omega arith) ∙ omega arith in
    let pair : get_or (get_or lists i []) place (no_stop, 0) ≡ (stop, s) = ap (λ c. get_or c place (no_stop, 0)) this ∙ (get_or-map with_step (beginnings a stop) place 0 (no_stop, 0) (omega (arith, length-from_below from end)) ∙ ap with_step at) in
    let front : sum_by length (take i lists) ≡ sum_by (λ other. length (beginnings a other)) (take i a.stops) = sums_front a a.stops i in
    is_as values (first_met a + sum_by length (take i lists) + place) (meets a i s) (is_met_at table x items (0 + i) (get_or (get_or lists i []) place (no_stop, 0))) (is_met table x items stop s) (omega arith)
    (ap (is_met_at table x items (0 + i)) pair)
    (row_part values (first_met a) (is_met_at table x items) 0 lists i place (no_stop, 0) part (omega (arith, length-map a.stops (with_beginnings a))) (omega arith))

waits_is : (values : List Bool) (a : CodedTrain) (x t : ℕ) → IsPart values (first_waits a) (map (is_waiting x) (from_below a.start a.latest)) → a.start ≤ t → t < a.latest → Is values (waits a t) (is_waiting x t)
waits_is values a x t part h k =
    let place : ℕ = t - a.start in
    let at : get_or (from_below a.start a.latest) place 0 ≡ t = at_from a.start a.latest place 0 (omega arith) ∙ omega arith in
    is_as values (waits a t) (waits a t) (is_waiting x (get_or (from_below a.start a.latest) place 0)) (is_waiting x t) refl (ap (is_waiting x) at)
    (map_part values (first_waits a) (is_waiting x) (from_below a.start a.latest) place 0 part (omega (arith, length-from_below a.start a.latest)))

pub train_means : (values : List Bool) (table : Table) (a : CodedTrain) (x : ℕ) (items : List ℕ) (vars : ℕ) → IsNumbered vars a → IsPart values a.first (train_values table a x items) → Means values table a x items
train_means values table a x items vars numbered part =
    let parts = parts_of values table a x items vars numbered part in
    record {
      sweep = λ t w h k inside. sweep_is values a x items t w vars numbered parts.sweeps h k inside;
      touch = λ t e h k few. touch_is values table a x items t e parts.touching h k few;
      ended = λ t h k. ended_is values a x items t parts.endings h k;
      met = λ i s within inside. met_is values table a x items i s parts.meetings within inside;
      waits = λ t h k. waits_is values a x t parts.waiting h k;
    }
