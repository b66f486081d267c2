-- How the numbers of a train's variables are stored.
use Rattle.std.specs.Prelude.{◌≡◌, ◌<◌, ◌≤◌, ◌^◌, ◌+◌, ◌-◌, ℕ, List, length, min, max, take, All, AllPairs, slice_index, slice_index_or}
use Rattle.std.specs.List.{sum_by}
use Rattle.cell_net.specs.declared.trains.StopSpec.{StopSpec}
use Rattle.clause_list.specs.Ranges.{from_below}
use Rattle.clause_list.specs.Numbers.{CodedTrain, first_touch, first_ended, first_met, first_waits, behind_train}

-- rising, so no number twice
abbrev pub IsRising : List ℕ → Type 0
IsRising xs = AllPairs (λ x y. x < y) xs

-- the number of the first variable of the items of a step, counted from the train's first step
abbrev pub step_number : ℕ → List (List ℕ) → ℕ → ℕ
step_number first cones k = first + sum_by length (take k cones)

abbrev pub first_of_step : CodedTrain → ℕ → ℕ
first_of_step a k = step_number a.first a.cones k

-- from how many steps on a train of these steps can meet the stop
abbrev pub beginning_count : ℕ → ℕ → StopSpec → ℕ
beginning_count start by stop = length (from_below (max stop.from start) (min stop.until (by + 1) + 1 - stop.dwell))

-- the number of the first variable of the stop of that place
abbrev pub stop_number : ℕ → ℕ → ℕ → List StopSpec → ℕ → ℕ
stop_number start by first stops i = first + sum_by (beginning_count start by) (take i stops)

abbrev pub first_of_stop : CodedTrain → ℕ → ℕ
first_of_stop a i = stop_number a.start a.by (first_met a) a.stops i

-- what the numbers of every train keep: they are numbers of 32 bits, a train has few steps, and cones rise
pub record IsKeptTrain (a : CodedTrain) : Type 0 where
  pub window : a.start ≤ a.latest
  pub in_order : a.latest ≤ a.by
  pub few_steps : a.by < 400
  pub for_each_step : length a.cones ≡ a.by + 1 - a.start
  pub rising : All IsRising a.cones
  pub few : behind_train a < 2 ^ 32

-- the numbers at which the variables of each step, of each stop and of each kind begin
pub record IsTrainStore (a : CodedTrain) (of_steps of_stops : List ℕ) (touches endings waiting behind : ℕ) : Type 0 where
  pub kept : IsKeptTrain a
  pub step_for_each : length of_steps ≡ length a.cones
  pub steps_are : (k d : ℕ) → k < length a.cones → slice_index_or of_steps k d ≡ first_of_step a k
  pub stop_for_each : length of_stops ≡ length a.stops
  pub stops_are : (i d : ℕ) → i < length a.stops → slice_index_or of_stops i d ≡ first_of_stop a i
  pub touches_are : touches ≡ first_touch a
  pub endings_are : endings ≡ first_ended a
  pub waiting_is : waiting ≡ first_waits a
  pub behind_is : behind ≡ behind_train a

-- a search for the item in a rising list has come to these bounds
pub record IsSearched (items : List ℕ) (item low high : ℕ) : Type 0 where
  pub order : low ≤ high
  pub within : high ≤ length items
  pub below : (k : ℕ) → k < low → slice_index items k < item
  pub above : (k : ℕ) → high ≤ k → k < length items → item ≤ slice_index items k
