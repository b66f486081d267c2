-- The values that a layout and chains of trains give to the variables of a task.
use Rattle.std.specs.Prelude.{ℕ, ◌+◌, ◌-◌, Bool, ◌&&◌, nat_le, nat_lt, nat_eq, List, [], ◌∷◌, ◌++◌, length, map, slice_index, slice_index_or}
use Rattle.std.specs.List.{list_any, list_all}
use Rattle.border_counter.specs.Counter.{counted}
use Rattle.cell_net.specs.declared.ids.CandidateId.{CandidateId}
use Rattle.cell_net.specs.declared.parts.InstanceParts.{InstanceParts}
use Rattle.cell_net.specs.declared.trains.StopSpec.{StopSpec}
use Rattle.sweep_table.specs.Tables.{Table, cells_of, stands_in}
use Rattle.clause_list.specs.BorderClauses.{border_lits}
use Rattle.clause_list.specs.Coding.{network_of, trains_of, walks_in}
use Rattle.clause_list.specs.Ranges.{below, from_below, from_to}
use Rattle.clause_list.specs.Numbers.{CodedTrain, Network, above, beginnings, steps}
use Rattle.clause_list.specs.Rows.{rows}

-- Items of a chain, by their numbers, stand at the steps from x on.

-- there is one at the step
abbrev pub has_step : ℕ → List ℕ → ℕ → Bool
has_step x items t = nat_le x t && nat_lt (t - x) (length items)

-- it is this one
abbrev pub has : ℕ → List ℕ → ℕ → ℕ → Bool
has x items t w = has_step x items t && nat_eq (slice_index items (t - x)) w

-- the cells of an item, by their numbers
abbrev pub touched : Table → ℕ → List ℕ
touched table w = map (λ d. d.cell.0) (cells_of table w)

-- it touches the cell
abbrev pub touches : Table → ℕ → List ℕ → ℕ → ℕ → Bool
touches table x items t e = has_step x items t && list_any (nat_eq e) (touched table (slice_index items (t - x)))

-- all of them come before the step
abbrev pub is_over : ℕ → List ℕ → ℕ → Bool
is_over x items t = nat_le (x + length items) t

-- it stands in the station
abbrev pub stands_at_step : Table → ℕ → List ℕ → ℕ → ℕ → Bool
stands_at_step table x items station t = has_step x items t && stands_in table station (slice_index items (t - x))

-- the stop is met from the step on
abbrev pub is_met : Table → ℕ → List ℕ → StopSpec → ℕ → Bool
is_met table x items stop s = list_all (stands_at_step table x items stop.station.0) (from_below s (s + stop.dwell))

abbrev pub is_met_at : Table → ℕ → List ℕ → ℕ → StopSpec × ℕ → Bool
is_met_at table x items place pair = is_met table x items pair.0 pair.1

-- a stop with each step at which the train may begin to meet it
abbrev pub with_beginnings : CodedTrain → StopSpec → List (StopSpec × ℕ)
with_beginnings a stop = map (λ s. (stop, s)) (beginnings a stop)

-- they begin after the step
abbrev pub is_waiting : ℕ → ℕ → Bool
is_waiting x t = nat_lt t x

-- the values of a train's variables, in their order
abbrev pub train_values : Table → CodedTrain → ℕ → List ℕ → List Bool
train_values table a x items =
    rows (has x items) a.start a.cones
    ++ (rows (touches table x items) a.start (map (λ t. below a.cells) (steps a))
    ++ (map (is_over x items) (from_to (a.start + 1) a.by)
    ++ (rows (is_met_at table x items) 0 (map (with_beginnings a) a.stops)
    ++ map (is_waiting x) (from_below a.start a.latest))))

-- a border stands at the candidate
abbrev pub stands : List CandidateId → ℕ → Bool
stands borders c = list_any (λ b. nat_eq c b.0) borders

abbrev pub border_values : Network → List CandidateId → List Bool
border_values net borders = map (stands borders) (below net.candidates)

-- a border stands on each walk between the cells
abbrev pub is_cut : (ℕ → ℕ → List (List CandidateId)) → List CandidateId → ℕ → ℕ → Bool
is_cut walks borders e f = list_all (λ walk. list_any (λ c. stands borders c.0) walk) (walks e f)

abbrev pub gap_values : (ℕ → ℕ → List (List CandidateId)) → Network → List CandidateId → List Bool
gap_values walks net borders = rows (is_cut walks borders) 0 (map (above net) (below (length net.sections)))

-- the first step of a chain, and the numbers of its items
pub record ChainItems : Type 0 where
  pub from : ℕ
  pub items : List ℕ

-- stands for a chain where there is none
abbrev pub no_chain : ChainItems
no_chain = record { from = 0; items = [] }

-- the chain of the train of that place
abbrev pub chain_at : List ChainItems → ℕ → ChainItems
chain_at chains i = slice_index_or chains i no_chain

-- the values of the trains' variables, train by train
abbrev pub values_of_trains : List Table → List CodedTrain → List ChainItems → List Bool
values_of_trains [] trains chains = []
values_of_trains (table ∷ tables) [] chains = []
values_of_trains (table ∷ tables) (a ∷ trains) [] = []
values_of_trains (table ∷ tables) (a ∷ trains) (c ∷ chains) = train_values table a c.from c.items ++ values_of_trains tables trains chains

-- the values of all variables, but for those of the counter
abbrev pub base_values : (ℕ → ℕ → List (List CandidateId)) → Network → List Table → List CodedTrain → List CandidateId → List ChainItems → List Bool
base_values walks net tables trains borders chains = border_values net borders ++ (gap_values walks net borders ++ values_of_trains tables trains chains)

-- the values of all variables of the task of a layout
abbrev pub given_values : InstanceParts → List (List (List (List CandidateId))) → List Table → List CandidateId → List ChainItems → List Bool
given_values p gaps tables borders chains = base_values (walks_in gaps) (network_of p) tables (trains_of p tables) borders chains

-- and of a free task: behind them those of the counter, row by row
abbrev pub free_values : InstanceParts → List (List (List (List CandidateId))) → List Table → List CandidateId → List ChainItems → List Bool
free_values p gaps tables borders chains = given_values p gaps tables borders chains ++ counted (given_values p gaps tables borders chains) (border_lits (length p.candidates)) (length p.candidates)
