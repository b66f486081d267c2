-- The layout and the plan that a valuation tells.
use Rattle.std.specs.Prelude.{ℕ, zero, suc, ◌+◌, ◌-◌, ◌<◌, ◌≤◌, All, Bool, ◌&&◌, cond, nat_eq, List, [], ◌∷◌, filter, length, map, slice_index_or}
use Rattle.std.specs.List.{list_any}
use Rattle.cell_net.specs.declared.ids.CandidateId.{CandidateId}
use Rattle.cell_net.specs.declared.plans.TrainRun.{TrainRun}
use Rattle.cell_net.specs.declared.plans.Plan.{Plan}
use Rattle.sweep_table.specs.declared.ids.SweepId.{SweepId}
use Rattle.sweep_table.specs.Tables.{Table, next_of, is_entry}
use Rattle.clause_list.specs.Ranges.{below}
use Rattle.clause_list.specs.Numbers.{CodedTrain, cone, sweep, run_ended, waits, border}
use Rattle.clause_list.specs.Values.{value}
use Rattle.clause_list.specs.WholeList.{table_at, train_at}
use Rattle.plan_laws.specs.Chains.{sweep_of}

-- stands for an item where there is none
abbrev pub no_item : SweepId
no_item = record { 0 = 0 }

-- the item is in the cone of the step, and its variable is true
unfoldable pub is_told : List Bool → CodedTrain → ℕ → ℕ → Bool
is_told values a t w = list_any (nat_eq w) (cone a t) && value values (sweep a t w)

-- the first of these items for which that holds
abbrev pub first_told : List Bool → CodedTrain → ℕ → List SweepId → SweepId
first_told values a t items = slice_index_or (filter (λ v. is_told values a t v.0) items) 0 no_item

-- what comes after an item of a step, for so many steps at most: nothing where the run has ended after it, else the first of
-- the next ones that is told, and what comes after that
abbrev pub follow : List Bool → Table → CodedTrain → ℕ → ℕ → SweepId → List SweepId
follow values table a zero t v = []
follow values table a (suc more) t v = cond (value values (run_ended a (t + 1))) []
    (first_told values a (t + 1) (next_of table v.0) ∷ follow values table a more (t + 1) (first_told values a (t + 1) (next_of table v.0)))

-- the first step, from a step on for so many steps at most, after which the train does not wait
abbrev pub first_step : List Bool → CodedTrain → ℕ → ℕ → ℕ
first_step values a zero t = t
first_step values a (suc more) t = cond (value values (waits a t)) (first_step values a more (t + 1)) t

-- the first step of the run: the first of the window after which the train does not wait, or the last of the window
abbrev pub told_step : List Bool → CodedTrain → ℕ
told_step values a = first_step values a (a.latest - a.start) a.start

-- the item is an entry, and its variable is true
unfoldable pub is_told_entry : List Bool → Table → CodedTrain → ℕ → ℕ → Bool
is_told_entry values table a t w = is_entry table w && value values (sweep a t w)

-- the first item of the cone of the step for which that holds
abbrev pub entry_at : List Bool → Table → CodedTrain → ℕ → SweepId
entry_at values table a t = record { 0 = slice_index_or (filter (is_told_entry values table a t) (cone a t)) 0 0 }

-- the first item of the run
abbrev pub told_entry : List Bool → Table → CodedTrain → SweepId
told_entry values table a = entry_at values table a (told_step values a)

-- the items of the run, from its first step to the first one after which it has ended
abbrev pub told_items : List Bool → Table → CodedTrain → List SweepId
told_items values table a = told_entry values table a ∷ follow values table a (a.by - told_step values a) (told_step values a) (told_entry values table a)

-- what is told is of the table: the first item, and every item of the cones
pub record IsInside (values : List Bool) (table : Table) (a : CodedTrain) : Type 0 where
  pub entry : (told_entry values table a).0 < length table.cells
  pub cones : (t : ℕ) → a.start ≤ t → t ≤ a.by → All (λ w. w < length table.cells) (cone a t)

-- the run of these items, from its first step on
abbrev pub told_run : List Bool → Table → CodedTrain → TrainRun
told_run values table a = record { start = told_step values a; sweeps = map (sweep_of table) (told_items values table a) }

-- the run of the train of that place
unfoldable pub told_run_of : List Bool → List Table → List CodedTrain → ℕ → TrainRun
told_run_of values tables trains i = told_run values (table_at tables i) (train_at trains i)

-- the runs of all trains
abbrev pub told_plan : List Bool → List Table → List CodedTrain → Plan
told_plan values tables trains = record { runs = map (told_run_of values tables trains) (below (length trains)) }

-- a border stands at the candidate of that number
unfoldable pub is_standing : List Bool → ℕ → Bool
is_standing values c = value values (border c)

-- the borders that stand, of so many candidates
abbrev pub told_layout : List Bool → ℕ → List CandidateId
told_layout values candidates = map (λ c. record { 0 = c }) (filter (is_standing values) (below candidates))
