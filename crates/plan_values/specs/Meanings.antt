-- What the laws take: chains by the numbers of their items, and that variables have the values of their meanings.
use Rattle.std.specs.Prelude.{◌≡◌, ◌<◌, ◌≤◌, ◌+◌, ◌-◌, ℕ, Bool, true, List, length, map, Some, slice_get, slice_index, Contains}
use Rattle.cell_net.specs.declared.ids.CandidateId.{CandidateId}
use Rattle.cell_net.specs.declared.parts.InstanceParts.{InstanceParts}
use Rattle.cell_net.specs.declared.plans.Plan.{Plan}
use Rattle.cell_net.specs.declared.plans.TrainRun.{TrainRun}
use Rattle.cell_net.specs.declared.trains.TrainSpec.{TrainSpec}
use Rattle.sweep_table.specs.declared.ids.SweepId.{SweepId}
use Rattle.sweep_table.specs.Tables.{Table, next_of, is_entry, is_goal}
use Rattle.clause_list.specs.Coding.{network_of, trains_of, walks_in}
use Rattle.clause_list.specs.Numbers.{CodedTrain, Network, above, border, gap, cone, sweep, touch, run_ended, waits, beginnings}
use Rattle.clause_list.specs.StopClauses.{stop_at, meets}
use Rattle.clause_list.specs.Values.{value}
use Rattle.clause_list.specs.WholeList.{table_at, train_at}
use Rattle.plan_laws.specs.Chains.{IsChain, sweep_of}
use Rattle.plan_values.specs.Values.{has, touches, is_over, is_met, is_waiting, stands, is_cut, ChainItems, chain_at}

-- the chain is the run's: it begins where the run does, and its items are a chain of the train that touches what the run touches
pub record IsChainOfRun (table : Table) (train : TrainSpec) (r : TrainRun) (c : ChainItems) : Type 0 where
  pub ids : List SweepId
  pub chain : IsChain table train r.start ids
  pub touches : r.sweeps ≡ map (sweep_of table) ids
  pub is : c ≡ record { from = r.start; items = map (λ v. v.0) ids }

-- a chain for the run of each train
pub record AreChainsOfRuns (p : InstanceParts) (tables : List Table) (plan : Plan) (chains : List ChainItems) : Type 0 where
  pub for_each : length chains ≡ length p.trains
  pub each : (i : ℕ) (train : TrainSpec) (r : TrainRun) → slice_get p.trains i ≡ Some train → slice_get plan.runs i ≡ Some r → IsChainOfRun (table_at tables i) train r (chain_at chains i)

-- the value of the variable is that one, and it is one of the valuation's
pub record Is (values : List Bool) (v : ℕ) (truth : Bool) : Type 0 where
  pub is : value values v ≡ truth
  pub within : v - 1 < length values

-- the variables of the train have the values of their meanings
pub record Means (values : List Bool) (table : Table) (a : CodedTrain) (x : ℕ) (items : List ℕ) : Type 0 where
  pub sweep : (t w : ℕ) → a.start ≤ t → t ≤ a.by → Contains (cone a t) w → Is values (sweep a t w) (has x items t w)
  pub touch : (t e : ℕ) → a.start ≤ t → t ≤ a.by → e < a.cells → Is values (touch a t e) (touches table x items t e)
  pub ended : (t : ℕ) → a.start < t → t ≤ a.by → Is values (run_ended a t) (is_over x items t)
  pub met : (i s : ℕ) → i < length a.stops → Contains (beginnings a (stop_at a i)) s → Is values (meets a i s) (is_met table x items (stop_at a i) s)
  pub waits : (t : ℕ) → a.start ≤ t → t < a.latest → Is values (waits a t) (is_waiting x t)

-- the variables of borders and gaps have the values of their meanings
pub record BordersMean (values : List Bool) (walks : ℕ → ℕ → List (List CandidateId)) (net : Network) (borders : List CandidateId) : Type 0 where
  pub border : (c : ℕ) → c < net.candidates → Is values (border c) (stands borders c)
  pub gap : (e f : ℕ) → e < length net.sections → Contains (above net e) f → Is values (gap net e f) (is_cut walks borders e f)

-- each variable of the task of a layout has the value of its meaning
pub record AllMean (values : List Bool) (p : InstanceParts) (gaps : List (List (List (List CandidateId)))) (tables : List Table) (borders : List CandidateId) (chains : List ChainItems) : Type 0 where
  pub borders_mean : BordersMean values (walks_in gaps) (network_of p) borders
  pub trains_mean : (i : ℕ) → i < length p.trains → Means values (table_at tables i) (train_at (trains_of p tables) i) (chain_at chains i).from (chain_at chains i).items

-- items of the table that go on from one another, from an entry in the train's window to a goal in time
pub record AreItemsOf (table : Table) (a : CodedTrain) (x : ℕ) (items : List ℕ) : Type 0 where
  pub not_early : a.start ≤ x
  pub not_late : x ≤ a.latest
  pub some : 0 < length items
  pub enters : is_entry table (slice_index items 0) ≡ true
  pub goes_on : (k : ℕ) → k + 1 < length items → Contains (next_of table (slice_index items k)) (record { 0 = slice_index items (k + 1) })
  pub arrives : is_goal table (slice_index items (length items - 1)) ≡ true
  pub in_time : x + length items ≤ a.by + 1
  pub inside : (k : ℕ) → k < length items → slice_index items k < length table.cells

-- a chain of the train, each item of which is in the cone of its step
pub record IsChainOf (table : Table) (a : CodedTrain) (x : ℕ) (items : List ℕ) : Type 0 where
  pub not_early : a.start ≤ x
  pub not_late : x ≤ a.latest
  pub some : 0 < length items
  pub enters : is_entry table (slice_index items 0) ≡ true
  pub goes_on : (k : ℕ) → k + 1 < length items → Contains (next_of table (slice_index items k)) (record { 0 = slice_index items (k + 1) })
  pub arrives : is_goal table (slice_index items (length items - 1)) ≡ true
  pub in_time : x + length items ≤ a.by + 1
  pub stops : (i : ℕ) → i < length a.stops → (s : ℕ) × ((stop_at a i).from ≤ s) × (s + (stop_at a i).dwell ≤ (stop_at a i).until) × (is_met table x items (stop_at a i) s ≡ true)
  pub in_cones : (k : ℕ) → k < length items → Contains (cone a (x + k)) (slice_index items k)
