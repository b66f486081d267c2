-- Chains in the tables of the trains' sweeps are runs, so a plan of them is lawful.
use Rattle.std.proofs.Common.{◌≡◌, ℕ, zero, suc, ◌+◌, ◌-◌, ◌<◌, ◌≤◌, Bool, true, false, List, [], ◌∷◌, length, get_or, map, refl, sym, ap, ◌∙◌, subst, ⊎_elim, arith, Some}
use Rattle.std.specs.Prelude.{All, Contains, slice_get}
use Rattle.std.specs.List.{AllAdjacentBelow, AllZip}
use Rattle.std.proofs.lemmas.Bool.{false≢true, cases_lt}
use Rattle.std.proofs.lemmas.List.{get_or-map, length-map, get_or_past}
use Rattle.std.proofs.lemmas.List.Elements.{All-contains, All-weaker, Contains-get_or}
use Rattle.std.proofs.lemmas.Option.{slice_get_within, slice_get-get_or, get_or_from_slice_get}
use Rattle.cell_net.specs.Plans.{IsLawful}
use Rattle.cell_net.specs.Runs.{IsSweep, IsRun, IsMet, Continues}
use Rattle.cell_net.specs.declared.ids.CandidateId.{CandidateId}
use Rattle.cell_net.specs.declared.plans.Plan.{Plan}
use Rattle.cell_net.specs.declared.plans.Sweep.{Sweep}
use Rattle.cell_net.specs.declared.plans.TrainRun.{TrainRun}
use Rattle.cell_net.specs.declared.parts.InstanceParts.{InstanceParts}
use Rattle.cell_net.specs.declared.trains.StopSpec.{StopSpec}
use Rattle.cell_net.specs.declared.trains.TrainSpec.{TrainSpec}
use Rattle.sweep_table.specs.declared.ids.SweepId.{SweepId}
use Rattle.sweep_table.specs.Sweeps.{IsTableOf, IsStanding}
use Rattle.sweep_table.specs.Tables.{Table, IsTable, AreItems, cells_of, next_of}
use Rattle.clause_list.specs.WholeList.{no_table, table_at}
use Rattle.plan_laws.specs.Chains.{IsChain, IsChainRun, IsStopMet, StandsAt, AreChains, sweep_of}
use Rattle.plan_laws.specs.Telling.{no_item}
use Rattle.plan_laws.proofs.Apart.{zip_at, zip_size}

-- an item with a mark is one of the table
marked_inside : (marks : List Bool) (w n : ℕ) → length marks ≡ n → get_or marks w false ≡ true → w < n
marked_inside marks w n size marked = ⊎_elim (λ inside. omega arith) (λ past. absurd (false≢true (sym (get_or_past marks w false past) ∙ marked))) (cases_lt w (length marks))

module _ (p : InstanceParts) (train : TrainSpec) (table : Table) (rules : IsTable p table) (of : IsTableOf p train table) where
  -- each item of a chain is one of the table
  item_inside : (x : ℕ) (items : List SweepId) (k : ℕ) (d : SweepId) → IsChain table train x items → k < length items → (get_or items k d).0 < length table.cells
  item_inside x items zero d chain within =
      let same : get_or items 0 d ≡ chain.first = get_or_from_slice_get items 0 chain.first d chain.is_first in
      let inside : chain.first.0 < length table.cells = marked_inside table.entries chain.first.0 (length table.cells) rules.entries_for_each chain.enters in
      subst (λ (v : SweepId). v.0 < length table.cells) (sym same) inside
  item_inside x items (suc k) d chain within =
      let here : (get_or items k d).0 < length table.cells = item_inside x items k d chain (omega arith) in
      let number : k + 1 ≡ suc k = omega arith in
      let next : Contains (next_of table (get_or items k d).0) (get_or items (k + 1) d) = chain.goes_on k d (omega arith) in
      let are : AreItems (length table.cells) (next_of table (get_or items k d).0) = rules.next_are_items (get_or items k d).0 [] (let size : length table.next ≡ length table.cells = rules.next_for_each in omega arith) in
      subst (λ j. (get_or items j d).0 < length table.cells) number (All-contains (λ (v : SweepId). v.0 < length table.cells) (next_of table (get_or items k d).0) (get_or items (k + 1) d) are next)

  -- the sweep of an item that stands at a place of the chain
  at_place : (items : List SweepId) (k : ℕ) (v : SweepId) → slice_get items k ≡ Some v → slice_get (map (sweep_of table) items) k ≡ Some (sweep_of table v)
  at_place items k v is =
      let within : k < length items = slice_get_within items k v is in
      let size : length (map (sweep_of table) items) ≡ length items = length-map items (sweep_of table) in
      let same : get_or (map (sweep_of table) items) k (sweep_of table v) ≡ sweep_of table v = get_or-map (sweep_of table) items k v (sweep_of table v) within ∙ ap (sweep_of table) (get_or_from_slice_get items k v v is) in
      slice_get-get_or (map (sweep_of table) items) k (sweep_of table v) (omega arith) ∙ ap Some same

  inside_of : (x : ℕ) (items : List SweepId) (k : ℕ) (v : SweepId) → IsChain table train x items → slice_get items k ≡ Some v → v.0 < length table.cells
  inside_of x items k v chain is = subst (λ (u : SweepId). u.0 < length table.cells) (get_or_from_slice_get items k v v is) (item_inside x items k v chain (slice_get_within items k v is))

  is_sweep : (v : SweepId) → v.0 < length table.cells → IsSweep p train (cells_of table v.0)
  is_sweep v inside = (of.sweeps.each (cells_of table v.0)).0 (Contains-get_or table.cells v.0 [] inside)

  goes_on_at : (x : ℕ) (items : List SweepId) → IsChain table train x items → AllAdjacentBelow (λ (w next : Sweep). Continues train w.cells next.cells) (map (sweep_of table) items) (length (map (sweep_of table) items))
  goes_on_at x items chain k d within =
      let size : length (map (sweep_of table) items) ≡ length items = length-map items (sweep_of table) in
      let more : k + 1 < length items = omega arith in
      let this : (get_or items k no_item).0 < length table.cells = item_inside x items k no_item chain (omega arith) in
      let that : (get_or items (k + 1) no_item).0 < length table.cells = item_inside x items (k + 1) no_item chain more in
      let on : Continues train (cells_of table (get_or items k no_item).0) (cells_of table (get_or items (k + 1) no_item).0) = (of.goes_on (get_or items k no_item) (get_or items (k + 1) no_item) this that).0 (chain.goes_on k no_item more) in
      subst (λ (w : Sweep). Continues train w.cells (get_or (map (sweep_of table) items) (k + 1) d).cells) (sym (get_or-map (sweep_of table) items k no_item d (omega arith)))
      (subst (λ (w : Sweep). Continues train (cells_of table (get_or items k no_item).0) w.cells) (sym (get_or-map (sweep_of table) items (k + 1) no_item d more)) on)

  is_met : (x : ℕ) (items : List SweepId) (stop : StopSpec) → IsStopMet table x items stop → IsMet p train (record { start = x; sweeps = map (sweep_of table) items }) stop
  unfolding IsStopMet StandsAt IsMet
  is_met x items stop (s, from, until, each) = (
    s,
    from,
    until,
    λ t h k.
        let (begun, (v, is, stands)) = each t h k in
        let inside : v.0 < length table.cells = marked_inside (table.stands stop.station.0) v.0 (length table.cells) (rules.stands_for_each stop.station.0) stands in
        let standing : IsStanding p train stop.station (cells_of table v.0) = (of.stands stop.station v inside).0 stands in
        record {
          sweep = sweep_of table v;
          is_there = record { begun = begun; is_there = at_place items (t - x) v is };
          stands = standing.stands;
          inside = standing.inside;
        },
  )

  -- the items of a chain touch what a run does
  chain_is_run : (x : ℕ) (items : List SweepId) → IsChain table train x items → IsRun p train (record { start = x; sweeps = map (sweep_of table) items })
  chain_is_run x items chain =
      let size : length (map (sweep_of table) items) ≡ length items = length-map items (sweep_of table) in
      let r : TrainRun = record { start = x; sweeps = map (sweep_of table) items } in
      record {
        enters = record {
          not_early = chain.not_early;
          not_late = chain.not_late;
          first = sweep_of table chain.first;
          is_first = at_place items 0 chain.first chain.is_first;
          with_entry = (of.entries chain.first (inside_of x items 0 chain.first chain chain.is_first)).0 chain.enters;
        };
        sweeps = λ k d within.
            let inside : k < length items = omega arith in
            subst (λ (w : Sweep). IsSweep p train w.cells) (sym (get_or-map (sweep_of table) items k no_item d inside)) (is_sweep (get_or items k no_item) (item_inside x items k no_item chain inside));
        goes_on = goes_on_at x items chain;
        arrives = record {
          last = sweep_of table chain.last;
          is_last = subst (λ n. slice_get (map (sweep_of table) items) (n - 1) ≡ Some (sweep_of table chain.last)) (sym size) (at_place items (length items - 1) chain.last chain.is_last);
          with_goal = (of.goals chain.last (inside_of x items (length items - 1) chain.last chain chain.is_last)).0 chain.arrives;
          in_time = subst (λ n. x + n ≤ train.by + 1) (sym size) chain.in_time;
        };
        stops = All-weaker (IsStopMet table x items) (IsMet p train r) (is_met x items) train.stops chain.stops;
      }

  pub is_run : (r : TrainRun) → IsChainRun table train r → IsRun p train r
  is_run r of_chain = subst (λ sweeps. IsRun p train (record { start = r.start; sweeps = sweeps })) (sym of_chain.touches) (chain_is_run r.start of_chain.items of_chain.chain)

-- two lists of which each place agrees
zip_of : {A B : Type 0} (R : A → B → Type 0) (xs : List A) (ys : List B) → length ys ≡ length xs → ((i : ℕ) (x : A) (y : B) → slice_get xs i ≡ Some x → slice_get ys i ≡ Some y → R x y) → AllZip R xs ys
zip_of R [] [] size each = tt
zip_of R [] (y ∷ ys) size each = absurd (omega arith)
zip_of R (x ∷ xs) [] size each = absurd (omega arith)
zip_of R (x ∷ xs) (y ∷ ys) size each = (each 0 x y refl refl, zip_of R xs ys (omega arith) (λ i a b is_a is_b. each (suc i) a b is_a is_b))

pub plan_is_lawful : (p : InstanceParts) (borders : List CandidateId) (tables : List Table) (plan : Plan) → All (IsTable p) tables → AllZip (IsTableOf p) p.trains tables → AreChains p borders tables plan → IsLawful p borders plan
plan_is_lawful p borders tables plan rules sweeps chains = record {
  layout = chains.layout;
  runs = zip_of (IsRun p) p.trains plan.runs chains.for_each (λ i train r is at.
      let size : length p.trains ≡ length tables = zip_size (IsTableOf p) p.trains tables sweeps in
      let inside : i < length p.trains = slice_get_within p.trains i train is in
      let of : IsTableOf p train (table_at tables i) = subst (λ t. IsTableOf p t (table_at tables i)) (get_or_from_slice_get p.trains i train train is) (zip_at (IsTableOf p) p.trains tables i train no_table sweeps inside) in
      is_run p train (table_at tables i) (rules i no_table (omega arith)) of r (chains.each i train r is at));
  apart = chains.apart;
}
