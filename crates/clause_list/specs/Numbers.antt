-- The numbers of the variables.
use Rattle.std.specs.Prelude.{ℕ, ◌+◌, ◌-◌, ◌*◌, min, max, List, Bool, true, false, ◌&&◌, nat_eq, nat_lt, filter, length, take, slice_index, slice_index_or, []}
use Rattle.std.specs.List.{sum_by, position_or_len}
use Rattle.sat_core.specs.declared.literal.Lit.{Lit}
use Rattle.cell_net.specs.declared.ids.CandidateId.{CandidateId}
use Rattle.cell_net.specs.declared.trains.StopSpec.{StopSpec}
use Rattle.clause_list.specs.Ranges.{below, from_below, from_to}

-- the variable of that number, and its negation
abbrev pub is : ℕ → Lit
is v = record { var = record { 0 = v }; positive = true }

abbrev pub is_not : ℕ → Lit
is_not v = record { var = record { 0 = v }; positive = false }

-- A train: the first step at which it may enter and the last, the last step at which it may be there, its stops, the items that
-- it can have at each step from the first on, the number of cells that there are, and the number of the first of its variables.
-- Items are those of the train's table.
pub record CodedTrain : Type 0 where
  pub start : ℕ
  pub latest : ℕ
  pub by : ℕ
  pub stops : List StopSpec
  pub cones : List (List ℕ)
  pub cells : ℕ
  pub first : ℕ

-- the steps at which the train may be there
abbrev pub steps : CodedTrain → List ℕ
steps a = from_to a.start a.by

-- the items that the train can have at a step
abbrev pub cone : CodedTrain → ℕ → List ℕ
cone a t = slice_index_or a.cones (t - a.start) []

-- "the train has the item at the step": step by step, an item of its cone after another
abbrev pub sweeps_before : CodedTrain → ℕ → ℕ
sweeps_before a t = sum_by length (take (t - a.start) a.cones)

abbrev pub sweep : CodedTrain → ℕ → ℕ → ℕ
sweep a t w = a.first + sweeps_before a t + position_or_len (nat_eq w) (cone a t)

-- "the train touches the cell at the step": behind these, step by step, every cell
abbrev pub first_touch : CodedTrain → ℕ
first_touch a = a.first + sum_by length a.cones

abbrev pub touch : CodedTrain → ℕ → ℕ → ℕ
touch a t e = first_touch a + (t - a.start) * a.cells + e

-- "the train's run ended before the step": behind these, from the second step on
abbrev pub first_ended : CodedTrain → ℕ
first_ended a = first_touch a + (a.by + 1 - a.start) * a.cells

abbrev pub run_ended : CodedTrain → ℕ → ℕ
run_ended a t = first_ended a + (t - (a.start + 1))

-- the steps at which the train may begin to meet a stop
abbrev pub beginnings : CodedTrain → StopSpec → List ℕ
beginnings a stop = from_below (max stop.from a.start) (min stop.until (a.by + 1) + 1 - stop.dwell)

-- "the train meets the stop of that place from the step on": behind these, stop by stop, each beginning
abbrev pub first_met : CodedTrain → ℕ
first_met a = first_ended a + (a.by - a.start)

abbrev pub met : CodedTrain → ℕ → StopSpec → ℕ → ℕ
met a place stop s = first_met a + sum_by (λ other. length (beginnings a other)) (take place a.stops) + (s - max stop.from a.start)

-- "the train's run begins after the step": behind these, from the first step to the one before the last at which it may enter
abbrev pub first_waits : CodedTrain → ℕ
first_waits a = first_met a + sum_by (λ stop. length (beginnings a stop)) a.stops

abbrev pub waits : CodedTrain → ℕ → ℕ
waits a t = first_waits a + (t - a.start)

-- the number behind those of the train
abbrev pub behind_train : CodedTrain → ℕ
behind_train a = first_waits a + (a.latest - a.start)

-- the network: the section of each cell, how many candidates there are, and those whose border is kept
pub record Network : Type 0 where
  pub sections : List ℕ
  pub candidates : ℕ
  pub kept : List CandidateId

abbrev pub is_same_section : Network → ℕ → ℕ → Bool
is_same_section net e f = nat_eq (slice_index net.sections e) (slice_index net.sections f)

-- the cells of the cell's section
abbrev pub section_of : Network → ℕ → List ℕ
section_of net e = filter (is_same_section net e) (below (length net.sections))

-- the cells of its section above it
abbrev pub above : Network → ℕ → List ℕ
above net e = filter (λ f. nat_lt e f && is_same_section net e f) (below (length net.sections))

-- "a border stands at the candidate": the first numbers of all
abbrev pub border : ℕ → ℕ
border c = c + 1

-- "a border stands on each walk between the two cells", of which the first is the lower one: behind the borders, by the lower
-- cell, then by the other
abbrev pub gaps_below : Network → ℕ → ℕ
gaps_below net e = sum_by (λ d. length (above net d)) (below e)

abbrev pub gap : Network → ℕ → ℕ → ℕ
gap net e f = net.candidates + 1 + gaps_below net e + position_or_len (nat_eq f) (above net e)

-- the number of the first variable of the first train
abbrev pub first_of_trains : Network → ℕ
first_of_trains net = net.candidates + 1 + gaps_below net (length net.sections)
