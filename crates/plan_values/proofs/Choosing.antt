-- Chains by the numbers of their items.
use Rattle.std.proofs.Common.{◌≡◌, ℕ, zero, suc, ◌+◌, ◌-◌, ◌<◌, ◌≤◌, Bool, true, false, List, [], ◌∷◌, length, get_or, map, refl, sym, ap, ◌∙◌, subst, ⊎_elim, arith, Some}
use Rattle.std.specs.Prelude.{Contains, slice_get}
use Rattle.std.specs.List.{list_all}
use Rattle.std.proofs.lemmas.Bool.{false≢true, cases_lt, le-leb, lt-ltb}
use Rattle.std.proofs.lemmas.List.{get_or-map, length-map, get_or_past}
use Rattle.std.proofs.lemmas.List.Elements.{All-contains, All-nil}
use Rattle.std.proofs.lemmas.Option.{get_or_from_slice_get, slice_get_within}
use Rattle.cell_net.specs.declared.parts.InstanceParts.{InstanceParts}
use Rattle.cell_net.specs.declared.trains.StopSpec.{StopSpec}
use Rattle.cell_net.specs.declared.trains.TrainSpec.{TrainSpec}
use Rattle.sweep_table.specs.declared.ids.SweepId.{SweepId}
use Rattle.sweep_table.specs.Tables.{Table, IsTable, AreItems, next_of, is_entry, is_goal, stands_in}
use Rattle.clause_list.specs.Ranges.{from_below}
use Rattle.clause_list.specs.StopClauses.{stop_at, no_stop}
use Rattle.clause_list.specs.Coding.{coded}
use Rattle.clause_list.proofs.ListLaws.{in_range_is}
use Rattle.clause_list.proofs.CodedLaws.{one_of}
use Rattle.plan_laws.specs.Chains.{IsChain, IsStopMet, StandsAt}
use Rattle.plan_values.specs.Values.{stands_at_step, is_met}
use Rattle.plan_values.specs.Meanings.{AreItemsOf, IsChainOf}
use Rattle.plan_values.proofs.Coning.{lies_in_cones}

abbrev pub numbers_of : List SweepId → List ℕ
numbers_of ids = map (λ v. v.0) ids

pub number_at : (ids : List SweepId) (k : ℕ) (d : SweepId) → k < length ids → get_or (numbers_of ids) k 0 ≡ (get_or ids k d).0
number_at ids k d within = get_or-map (λ v. v.0) ids k d 0 within

number_is : (ids : List SweepId) (k : ℕ) (v : SweepId) → slice_get ids k ≡ Some v → get_or (numbers_of ids) k 0 ≡ v.0
number_is ids k v is = number_at ids k v (slice_get_within ids k v is) ∙ ap (λ u. u.0) (get_or_from_slice_get ids k v v is)

pub length-numbers : (ids : List SweepId) → length (numbers_of ids) ≡ length ids
length-numbers ids = length-map ids (λ v. v.0)

next_is : (table : Table) (train : TrainSpec) (x : ℕ) (ids : List SweepId) (k : ℕ) → IsChain table train x ids → k + 1 < length ids → Contains (next_of table (get_or (numbers_of ids) k 0)) (record { 0 = get_or (numbers_of ids) (k + 1) 0 })
next_is table train x ids k chain within =
    let d : SweepId = chain.first in
    let follows : Contains (next_of table (get_or ids k d).0) (get_or ids (k + 1) d) = chain.goes_on k d within in
    let one : get_or (numbers_of ids) k 0 ≡ (get_or ids k d).0 = number_at ids k d (omega arith) in
    let other : get_or (numbers_of ids) (k + 1) 0 ≡ (get_or ids (k + 1) d).0 = number_at ids (k + 1) d within in
    let id : ℕ → SweepId = λ n. record { 0 = n } in
    subst (λ n. Contains (next_of table n) (id (get_or (numbers_of ids) (k + 1) 0))) (sym one) (subst (λ n. Contains (next_of table (get_or ids k d).0) (id n)) (sym other) follows)

-- an entry of a table is one of its items, and so is what comes next
entry_inside : (p : InstanceParts) (table : Table) (w : ℕ) → IsTable p table → is_entry table w ≡ true → w < length table.cells
entry_inside p table w rules entry = ⊎_elim (λ inside. inside) (λ past. let size : length table.entries ≡ length table.cells = rules.entries_for_each in absurd (false≢true (sym (get_or_past table.entries w false (omega arith)) ∙ entry))) (cases_lt w (length table.cells))

next_inside : (p : InstanceParts) (table : Table) (w : ℕ) (v : SweepId) → IsTable p table → Contains (next_of table w) v → v.0 < length table.cells
next_inside p table w v rules follows = All-contains (λ u. u.0 < length table.cells) (next_of table w) v (one_of (AreItems (length table.cells)) table.next w rules.next_are_items (All-nil (λ (u : SweepId). u.0 < length table.cells))) follows

item_inside : (p : InstanceParts) (table : Table) (train : TrainSpec) (x : ℕ) (ids : List SweepId) (k : ℕ) → IsTable p table → IsChain table train x ids → k < length ids → get_or (numbers_of ids) k 0 < length table.cells
item_inside p table train x ids zero rules chain within = entry_inside p table (get_or (numbers_of ids) 0 0) rules (subst (λ n. is_entry table n ≡ true) (sym (number_is ids 0 chain.first chain.is_first)) chain.enters)
item_inside p table train x ids (suc k) rules chain within =
    let one : k + 1 ≡ suc k = omega arith in
    let here : get_or (numbers_of ids) (k + 1) 0 < length table.cells = next_inside p table (get_or (numbers_of ids) k 0) (record { 0 = get_or (numbers_of ids) (k + 1) 0 }) rules (next_is table train x ids k chain (omega arith)) in
    subst (λ j. get_or (numbers_of ids) j 0 < length table.cells) one here

pub items_of : (p : InstanceParts) (first : ℕ) (table : Table) (train : TrainSpec) (x : ℕ) (ids : List SweepId) → IsTable p table → IsChain table train x ids → AreItemsOf table (coded p first table train) x (numbers_of ids)
items_of p first table train x ids rules chain =
    let size : length (numbers_of ids) ≡ length ids = length-numbers ids in
    let some : 0 < length ids = slice_get_within ids 0 chain.first chain.is_first in
    let time : x + length ids ≤ train.by + 1 = chain.in_time in
    record {
      not_early = chain.not_early;
      not_late = chain.not_late;
      some = omega arith;
      enters = subst (λ n. is_entry table n ≡ true) (sym (number_is ids 0 chain.first chain.is_first)) chain.enters;
      goes_on = λ k within. next_is table train x ids k chain (omega arith);
      arrives = subst (λ n. is_goal table (get_or (numbers_of ids) (n - 1) 0) ≡ true) (sym size) (subst (λ n. is_goal table n ≡ true) (sym (number_is ids (length ids - 1) chain.last chain.is_last)) chain.arrives);
      in_time = omega arith;
      inside = λ k within. item_inside p table train x ids k rules chain (omega arith);
    }

-- a test that holds of each holds of all
pub all_pass : {X : Type 0} (test : X → Bool) (xs : List X) → ((x : X) → Contains xs x → test x ≡ true) → list_all test xs ≡ true
all_pass test [] each = refl
all_pass test (x ∷ xs) each =
    let this : test x ≡ true = each x (0, omega arith, refl) in
    let others : list_all test xs ≡ true = all_pass test xs (λ y inside. let (k, within, same) = inside in each y (suc k, omega arith, same)) in
    rw (this, others) refl

stands_there : (table : Table) (x : ℕ) (ids : List SweepId) (station t : ℕ) → StandsAt table x ids station t → stands_at_step table x (numbers_of ids) station t ≡ true
unfolding StandsAt
stands_there table x ids station t (begun, (v, is, stands)) =
    let within : t - x < length ids = slice_get_within ids (t - x) v is in
    let there : stands_in table station (get_or (numbers_of ids) (t - x) 0) ≡ true = subst (λ n. stands_in table station n ≡ true) (sym (number_is ids (t - x) v is)) stands in
    rw (le-leb x t begun, lt-ltb (t - x) (length (numbers_of ids)) (omega (arith, length-numbers ids)), there) refl

-- where a stop is met
record MeetsFrom (table : Table) (x : ℕ) (items : List ℕ) (stop : StopSpec) : Type 0 where
  step : ℕ
  after : stop.from ≤ step
  before : step + stop.dwell ≤ stop.until
  met : is_met table x items stop step ≡ true

met_from : (table : Table) (x : ℕ) (ids : List SweepId) (stop : StopSpec) → IsStopMet table x ids stop → MeetsFrom table x (numbers_of ids) stop
unfolding IsStopMet
met_from table x ids stop (s, from, until, each) = record {
  step = s;
  after = from;
  before = until;
  met = all_pass (stands_at_step table x (numbers_of ids) stop.station.0) (from_below s (s + stop.dwell)) (λ t inside. let (h, k) = in_range_is s (s + stop.dwell) t inside in stands_there table x ids stop.station.0 t (each t h k));
}

-- a chain, where the numbers of its train are coded
pub chain_of : (p : InstanceParts) (first : ℕ) (table : Table) (train : TrainSpec) (x : ℕ) (ids : List SweepId) → IsTable p table → IsChain table train x ids → IsChainOf table (coded p first table train) x (numbers_of ids)
chain_of p first table train x ids rules chain =
    let items = items_of p first table train x ids rules chain in
    record {
      not_early = items.not_early;
      not_late = items.not_late;
      some = items.some;
      enters = items.enters;
      goes_on = items.goes_on;
      arrives = items.arrives;
      in_time = items.in_time;
      stops = λ i within. let found = met_from table x ids (stop_at (coded p first table train) i) (chain.stops i no_stop within) in (found.step, found.after, found.before, found.met);
      in_cones = λ k within. lies_in_cones p table (coded p first table train) x (numbers_of ids) k rules refl items within;
    }
