-- On the sweeps of two trains at a step, and the first of their cells that are linked.
use Rattle.std.proofs.Common.{◌≡◌, ◌<◌, ◌≤◌, ◌-◌, inl, inr, ℕ, List, length, Option, Some, None, MatchOption, slice_get, slice_index_or, refl, sym, subst, ◌∙◌, ap, arith}
use Rattle.std.proofs.lemmas.Option.{slice_get-get_or, get_or_from_slice_get, same_Some}
use Rattle.vss_lists.specs.Breaks.{HoldsBelow}
use Rattle.cell_net.specs.Plans.{AreSeparated}
use Rattle.cell_net.specs.Runs.{IsSweepAt}
use Rattle.cell_net.specs.declared.ids.CellId.{CellId}
use Rattle.cell_net.specs.declared.cells.DirCell.{DirCell}
use Rattle.cell_net.specs.declared.plans.Sweep.{Sweep}
use Rattle.cell_net.specs.declared.plans.TrainRun.{TrainRun}
use Rattle.plan_checker.specs.Clashes.{HasSweep, AreApartAt, AreFirstLinked}
use Rattle.plan_checker.specs.ClashSearch.{AreTrainsApart, AreLinked, IsClash, IsFirstLinkedTo, IsSeparatedFromAll, Touches}
use Rattle.plan_checker.specs.declared.traffic.Traffic.{Traffic}
use Rattle.plan_checker.proofs.ListSteps.{get_contained}

pub has_sweep : (runs : List TrainRun) (train step : ℕ) (r : TrainRun) (w : Sweep) → train < length runs → IsSweepAt (slice_index_or runs train r) step w → HasSweep runs train step w
has_sweep runs train step r w within at = record {
  run = slice_index_or runs train r;
  is_run = slice_get-get_or runs train r within;
  is_there = at;
}

pub has_no_sweep : (runs : List TrainRun) (train step : ℕ) (r : TrainRun) → ((w : Sweep) → ¬ IsSweepAt (slice_index_or runs train r) step w) → (w : Sweep) → ¬ HasSweep runs train step w
has_no_sweep runs train step r none w has =
    none w (subst (λ (s : TrainRun). IsSweepAt s step w) (sym (get_or_from_slice_get runs train has.run r has.is_run)) has.is_there)

-- a train has one sweep at a step
pub same_sweep : (runs : List TrainRun) (train step : ℕ) (w v : Sweep) → HasSweep runs train step w → HasSweep runs train step v → w ≡ v
same_sweep runs train step w v one other =
    let run : one.run ≡ other.run = same_Some one.run other.run (sym one.is_run ∙ other.is_run) in
    let along : slice_get one.run.sweeps (step - one.run.start) ≡ slice_get other.run.sweeps (step - other.run.start) =
    ap (λ (r : TrainRun). slice_get r.sweeps (step - r.start)) run in
    same_Some w v (sym one.is_there.is_there ∙ (along ∙ other.is_there.is_there))

pub apart_without_first : (t : Traffic) (step a b : ℕ) → ((w : Sweep) → ¬ Touches t a step w) → AreTrainsApart t step a b
unfolding AreApartAt
apart_without_first t step a b none w v one other = absurd (none w one)

pub apart_without_second : (t : Traffic) (step a b : ℕ) → ((v : Sweep) → ¬ Touches t b step v) → AreTrainsApart t step a b
unfolding AreApartAt
apart_without_second t step a b none w v one other = absurd (none v other)

apart_where_separated : (t : Traffic) (step a b : ℕ) (w v : Sweep) → Touches t a step w → Touches t b step v →
    AreSeparated t.inst.now t.layout.now w.cells v.cells → AreTrainsApart t step a b
unfolding AreApartAt
apart_where_separated t step a b w v one other separated x y has_x has_y =
    let first : w ≡ x = same_sweep t.runs.now a step w x one has_x in
    let second : v ≡ y = same_sweep t.runs.now b step v y other has_y in
    let moved : AreSeparated t.inst.now t.layout.now x.cells v.cells =
    subst (λ (s : Sweep). AreSeparated t.inst.now t.layout.now s.cells v.cells) first separated in
    subst (λ (s : Sweep). AreSeparated t.inst.now t.layout.now x.cells s.cells) second moved

-- the two trains are apart, or their first linked cells make a clash
pub clash_or_apart : (t : Traffic) (step a b : ℕ) (w v : Sweep) (found : Option (CellId × CellId)) → Touches t a step w → Touches t b step v →
    MatchOption found (AreSeparated t.inst.now t.layout.now w.cells v.cells) (λ pair. AreFirstLinked t.inst.now t.layout.now w.cells v.cells pair.0 pair.1) →
    MatchOption found (AreTrainsApart t step a b) (λ pair. IsClash t step a b pair.0 pair.1)
clash_or_apart t step a b w v None one other separated = apart_where_separated t step a b w v one other separated
clash_or_apart t step a b w v (Some pair) one other linked = record { one = w; other = v; has_one = one; has_other = other; first_linked = linked }

-- each cell of the one list is separated from all of the other
pub separated_from_each : (t : Traffic) (one other : List DirCell) (n : ℕ) → length one ≤ n →
    HoldsBelow (IsSeparatedFromAll t other) one n → AreSeparated t.inst.now t.layout.now one other
separated_from_each t one other n all each c d in_one in_other =
    let low : in_one.0 < n = omega (arith, in_one.1) in
    (each in_one.0 c low (get_contained one c in_one)).at_each in_other.0 d (get_contained other d in_other)

-- the first cell that is linked with the cell at a place, where none before is linked with any
pub linked_at : (t : Traffic) (one other : List DirCell) (n : ℕ) (d : DirCell) (f : CellId) → n < length one →
    HoldsBelow (IsSeparatedFromAll t other) one n → IsFirstLinkedTo t (slice_index_or one n d).cell other f →
    AreFirstLinked t.inst.now t.layout.now one other (slice_index_or one n d).cell f
linked_at t one other n d f within before found = record {
  place = n;
  place_in_other = found.place;
  first = slice_index_or one n d;
  second = found.found;
  is_first = slice_get-get_or one n d within;
  is_second = found.is_there;
  cell_is = refl;
  other_cell_is = found.cell_is;
  linked = found.linked;
  none_before = λ x y c e is_c is_e earlier. elim earlier [
    | inl low ↦ (before x c low is_c).at_each y e is_e
    | inr same ↦ let at : slice_get one n ≡ Some c = subst (λ k. slice_get one k ≡ Some c) same.0 is_c in
        let here : slice_index_or one n d ≡ c = get_or_from_slice_get one n c d at in
        subst (λ (k : DirCell). ¬ AreLinked t k.cell e.cell) here (found.before y e same.1 is_e)
  ];
}
