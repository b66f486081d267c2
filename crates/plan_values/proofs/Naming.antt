-- Runs are chains in the tables of their trains' sweeps, so a lawful plan is one of chains.
use Rattle.std.proofs.Common.{◌≡◌, ℕ, zero, suc, ◌+◌, ◌-◌, ◌<◌, ◌≤◌, List, [], ◌∷◌, length, get_or, map, refl, sym, ap, ◌∙◌, subst, arith, Some}
use Rattle.std.specs.Prelude.{All, Contains, slice_get}
use Rattle.std.specs.List.{AllAdjacentBelow, AllZip}
use Rattle.std.proofs.lemmas.List.{get_or-map, length-map, get_or_default}
use Rattle.std.proofs.lemmas.List.Elements.{All-nil, All-cons, All-head, All-tail, All-weaker}
use Rattle.std.proofs.lemmas.Option.{slice_get_within, slice_get-get_or, get_or_from_slice_get}
use Rattle.cell_net.specs.Plans.{IsLawful}
use Rattle.cell_net.specs.Runs.{IsSweep, IsRun, IsMet, Continues}
use Rattle.cell_net.specs.declared.cells.DirCell.{DirCell}
use Rattle.cell_net.specs.declared.ids.CandidateId.{CandidateId}
use Rattle.cell_net.specs.declared.plans.Plan.{Plan}
use Rattle.cell_net.specs.declared.plans.Sweep.{Sweep}
use Rattle.cell_net.specs.declared.plans.TrainRun.{TrainRun}
use Rattle.cell_net.specs.declared.parts.InstanceParts.{InstanceParts}
use Rattle.cell_net.specs.declared.trains.StopSpec.{StopSpec}
use Rattle.cell_net.specs.declared.trains.TrainSpec.{TrainSpec}
use Rattle.sweep_table.specs.declared.ids.SweepId.{SweepId}
use Rattle.sweep_table.specs.Sweeps.{IsTableOf, IsStanding}
use Rattle.sweep_table.specs.Tables.{Table, cells_of, next_of}
use Rattle.clause_list.specs.WholeList.{no_table, table_at}
use Rattle.plan_laws.specs.Chains.{IsChain, IsChainRun, IsStopMet, StandsAt, AreChains, sweep_of}
use Rattle.plan_laws.specs.Telling.{no_item}

-- the items of a table whose cells are those of the sweeps
record AreNames (table : Table) (sweeps : List Sweep) : Type 0 where
  ids : List SweepId
  inside : All (λ v. v.0 < length table.cells) ids
  same : sweeps ≡ map (sweep_of table) ids

names_of : (p : InstanceParts) (train : TrainSpec) (table : Table) (sweeps : List Sweep) → IsTableOf p train table → All (λ w. IsSweep p train w.cells) sweeps → AreNames table sweeps
names_of p train table [] of all = record { ids = []; inside = All-nil (λ (v : SweepId). v.0 < length table.cells); same = refl }
names_of p train table (w ∷ sweeps) of all =
    let others = names_of p train table sweeps of (All-tail (λ (u : Sweep). IsSweep p train u.cells) w sweeps all) in
    let (k, within, is) = (of.sweeps.each w.cells).1 (All-head (λ (u : Sweep). IsSweep p train u.cells) w sweeps all) in
    let id : SweepId = record { 0 = k } in
    let cells : cells_of table k ≡ w.cells = get_or_default table.cells k [] w.cells within ∙ is in
    let sweep : List DirCell → Sweep = λ cs. record { cells = cs } in
    let this : w ≡ sweep_of table id = ap sweep (sym cells) in
    record {
      ids = id ∷ others.ids;
      inside = All-cons (λ (v : SweepId). v.0 < length table.cells) id others.ids within others.inside;
      same = ap (λ (u : Sweep). u ∷ sweeps) this ∙ ap (λ us. sweep_of table id ∷ us) others.same;
    }

module _ (p : InstanceParts) (train : TrainSpec) (table : Table) (of : IsTableOf p train table) (x : ℕ) (ids : List SweepId) (inside : All (λ v. v.0 < length table.cells) ids) (run : IsRun p train (record { start = x; sweeps = map (sweep_of table) ids })) where
  -- the sweep at a place is that of the item there
  at_place : (k : ℕ) (w : Sweep) → slice_get (map (sweep_of table) ids) k ≡ Some w → (k < length ids) × (w ≡ sweep_of table (get_or ids k no_item))
  at_place k w is =
      let few : k < length (map (sweep_of table) ids) = slice_get_within (map (sweep_of table) ids) k w is in
      let within : k < length ids = omega (arith, length-map ids (sweep_of table)) in
      (within, sym (get_or_from_slice_get (map (sweep_of table) ids) k w w is) ∙ get_or-map (sweep_of table) ids k no_item w within)

  goes_on_at : AllAdjacentBelow (λ v w. Contains (next_of table v.0) w) ids (length ids)
  goes_on_at k d within =
      let w : Sweep = sweep_of table d in
      let on : Continues train (get_or (map (sweep_of table) ids) k w).cells (get_or (map (sweep_of table) ids) (k + 1) w).cells = run.goes_on k w (omega (arith, length-map ids (sweep_of table))) in
      let first : get_or (map (sweep_of table) ids) k w ≡ sweep_of table (get_or ids k d) = get_or-map (sweep_of table) ids k d w (omega arith) in
      let second : get_or (map (sweep_of table) ids) (k + 1) w ≡ sweep_of table (get_or ids (k + 1) d) = get_or-map (sweep_of table) ids (k + 1) d w within in
      let here : Continues train (cells_of table (get_or ids k d).0) (cells_of table (get_or ids (k + 1) d).0) = subst (λ (u : Sweep). Continues train (cells_of table (get_or ids k d).0) u.cells) second (subst (λ (u : Sweep). Continues train u.cells (get_or (map (sweep_of table) ids) (k + 1) w).cells) first on) in
      (of.goes_on (get_or ids k d) (get_or ids (k + 1) d) (inside k d (omega arith)) (inside (k + 1) d within)).1 here

  meets : (stop : StopSpec) → IsMet p train (record { start = x; sweeps = map (sweep_of table) ids }) stop → IsStopMet table x ids stop
  unfolding IsMet IsStopMet StandsAt
  meets stop (s, from, until, each) = (
    s,
    from,
    until,
    λ t h k.
        let there = each t h k in
        let (within, is) = at_place (t - x) there.sweep there.is_there.is_there in
        let v : SweepId = get_or ids (t - x) no_item in
        let standing : IsStanding p train stop.station (cells_of table v.0) = subst (λ (w : Sweep). IsStanding p train stop.station w.cells) is (record { stands = there.stands; inside = there.inside }) in
        (there.is_there.begun, (v, slice_get-get_or ids (t - x) no_item within, (of.stands stop.station v (inside (t - x) no_item within)).1 standing)),
  )

  pub run_is_chain : IsChain table train x ids
  run_is_chain =
      let (some, first_is) = at_place 0 run.enters.first run.enters.is_first in
      let size : length (map (sweep_of table) ids) ≡ length ids = length-map ids (sweep_of table) in
      let (end, last_is) = at_place (length ids - 1) run.arrives.last (subst (λ n. slice_get (map (sweep_of table) ids) (n - 1) ≡ Some run.arrives.last) size run.arrives.is_last) in
      let time : x + length (map (sweep_of table) ids) ≤ train.by + 1 = run.arrives.in_time in
      record {
        not_early = run.enters.not_early;
        not_late = run.enters.not_late;
        first = get_or ids 0 no_item;
        is_first = slice_get-get_or ids 0 no_item some;
        enters = (of.entries (get_or ids 0 no_item) (inside 0 no_item some)).1 (subst (λ (w : Sweep). slice_get w.cells 0 ≡ Some train.entry) first_is run.enters.with_entry);
        goes_on = goes_on_at;
        last = get_or ids (length ids - 1) no_item;
        is_last = slice_get-get_or ids (length ids - 1) no_item end;
        arrives = (of.goals (get_or ids (length ids - 1) no_item) (inside (length ids - 1) no_item end)).1 (subst (λ (w : Sweep). slice_get w.cells (length w.cells - 1) ≡ Some train.goal) last_is run.arrives.with_goal);
        in_time = omega arith;
        stops = All-weaker (IsMet p train (record { start = x; sweeps = map (sweep_of table) ids })) (IsStopMet table x ids) meets train.stops run.stops;
      }

-- each run is one of a chain
chain_run : (p : InstanceParts) (train : TrainSpec) (table : Table) (r : TrainRun) → IsTableOf p train table → IsRun p train r → IsChainRun table train r
chain_run p train table r of run =
    let names = names_of p train table r.sweeps of run.sweeps in
    record {
      items = names.ids;
      chain = run_is_chain p train table of r.start names.ids names.inside (subst (λ (ws : List Sweep). IsRun p train (record { start = r.start; sweeps = ws })) names.same run);
      touches = names.same;
    }

-- two lists that go together are as long, and go together at each place
zip_size : {A B : Type 0} (R : A → B → Type 0) (xs : List A) (ys : List B) → AllZip R xs ys → length ys ≡ length xs
zip_size R [] [] all = refl
zip_size R [] (y ∷ ys) all = absurd all
zip_size R (x ∷ xs) [] all = absurd all
zip_size R (x ∷ xs) (y ∷ ys) all = ap suc (zip_size R xs ys all.1)

zip_at : {A B : Type 0} (R : A → B → Type 0) (xs : List A) (ys : List B) (i : ℕ) (d : A) (e : B) → AllZip R xs ys → i < length xs → R (get_or xs i d) (get_or ys i e)
zip_at R [] ys i d e all within = absurd (omega arith)
zip_at R (x ∷ xs) [] i d e all within = absurd all
zip_at R (x ∷ xs) (y ∷ ys) zero d e all within = all.0
zip_at R (x ∷ xs) (y ∷ ys) (suc i) d e all within = zip_at R xs ys i d e all.1 (omega arith)

-- a lawful plan is one of chains
pub lawful_is_chains : (p : InstanceParts) (borders : List CandidateId) (tables : List Table) (plan : Plan) → AllZip (IsTableOf p) p.trains tables → IsLawful p borders plan → AreChains p borders tables plan
lawful_is_chains p borders tables plan tabled lawful = record {
  layout = lawful.layout;
  for_each = zip_size (IsRun p) p.trains plan.runs lawful.runs;
  each = λ i train r is at.
      let within : i < length p.trains = slice_get_within p.trains i train is in
      let run : IsRun p (get_or p.trains i train) (get_or plan.runs i r) = zip_at (IsRun p) p.trains plan.runs i train r lawful.runs within in
      let of_table : IsTableOf p train (table_at tables i) = subst (λ t. IsTableOf p t (table_at tables i)) (get_or_from_slice_get p.trains i train train is) (zip_at (IsTableOf p) p.trains tables i train no_table tabled within) in
      let of_train : IsRun p train (get_or plan.runs i r) = subst (λ t. IsRun p t (get_or plan.runs i r)) (get_or_from_slice_get p.trains i train train is) run in
      chain_run p train (table_at tables i) r of_table (subst (IsRun p train) (get_or_from_slice_get plan.runs i r r at) of_train);
  apart = lawful.apart;
}
