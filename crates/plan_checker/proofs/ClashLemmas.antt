-- On the first pair of trains that aren't apart, and the first step at which there is one.
use Rattle.std.proofs.Common.{◌≡◌, ◌<◌, ◌≤◌, ◌+◌, ◌-◌, inl, inr, ℕ, length, Some, slice_get, slice_index_or, sym, subst, arith}
use Rattle.std.proofs.lemmas.Bool.Decides.{leb_tells}
use Rattle.std.proofs.lemmas.Option.{get_or_from_slice_get, slice_get_within}
use Rattle.std.specs.List.{AllZip}
use Rattle.cell_net.specs.Runs.{IsRun, IsSweep}
use Rattle.cell_net.specs.Rules.{IsInstance, IsGoodTrain}
use Rattle.cell_net.specs.declared.plans.Sweep.{Sweep}
use Rattle.cell_net.specs.declared.trains.TrainSpec.{TrainSpec}
use Rattle.layout_rules.specs.Classes.{AreClasses}
use Rattle.plan_checker.specs.Clashes.{IsFirstClash}
use Rattle.plan_checker.specs.ClashSearch.{AreAllApart, AreTrainsApart, IsApartFromLater, IsClash, IsFirstClashAt, IsFirstClashOf, IsGoodTraffic, Touches}
use Rattle.plan_checker.specs.declared.clash.Clash.{Clash}
use Rattle.plan_checker.specs.declared.traffic.Traffic.{Traffic}
use Rattle.plan_checker.proofs.ListSteps.{zipped_lengths, zipped_with}
use Rattle.plan_checker.proofs.PairLemmas.{apart_without_first, apart_without_second}

-- no train has the number
no_train : (t : Traffic) (train step : ℕ) → length t.runs.now ≤ train → (w : Sweep) → ¬ Touches t train step w
no_train t train step past w has =
    let within : train < length t.runs.now = slice_get_within t.runs.now train has.run has.is_run in omega arith

pub apart_from_later : (t : Traffic) (step a n : ℕ) → length t.runs.now ≤ n →
    ((y : ℕ) → a < y → y < n → AreTrainsApart t step a y) → IsApartFromLater t step a
apart_from_later t step a n all each = record {
  apart = λ y later. elim (leb_tells n y) [
    | inl past ↦ apart_without_second t step a y (no_train t y step (omega (arith, past.1)))
    | inr low ↦ each y later low.1
  ];
}

pub all_apart : (t : Traffic) (step n : ℕ) → length t.runs.now ≤ n → ((x : ℕ) → x < n → IsApartFromLater t step x) → AreAllApart t step
all_apart t step n all each = record {
  apart = λ x y later. elim (leb_tells n x) [
    | inl past ↦ apart_without_first t step x y (no_train t x step (omega (arith, past.1)))
    | inr low ↦ (each x low.1).apart y later
  ];
}

-- the first clash of a train, where each train before it is apart from the later ones
pub first_pair : (t : Traffic) (step a : ℕ) (k : Clash) → ((x : ℕ) → x < a → IsApartFromLater t step x) → IsFirstClashOf t step a k → IsFirstClashAt t step k
first_pair t step a k before found = record {
  at_step = found.at_step;
  pairs_before = λ x y later earlier. elim earlier [
    | inl low ↦ (before x (omega (arith, low, found.first))).apart y later
    | inr same ↦ let at : a ≡ x = omega (arith, same.0, found.first) in
        subst (λ z. AreTrainsApart t step z y) at (found.apart_before y (omega (arith, later, at)) same.1)
  ];
  in_order = omega (arith, found.first, found.in_order);
  clash = subst (λ z. IsClash t step z k.b.0 k.e k.f) (sym found.first) found.clash;
}

-- the first clash at a step, where all trains are apart at each step before
pub first_step : (t : Traffic) (n : ℕ) (k : Clash) → ((s : ℕ) → s < n → AreAllApart t s) → IsFirstClashAt t n k →
    IsFirstClash t.inst.now t.layout.now t.runs.now k.a.0 k.b.0 k.step k.e k.f
first_step t n k before found =
    let clash : IsClash t k.step k.a.0 k.b.0 k.e k.f = subst (λ s. IsClash t s k.a.0 k.b.0 k.e k.f) (sym found.at_step) found.clash in
    record {
      steps_before = λ s x y low later. (before s (omega (arith, low, found.at_step))).apart x y later;
      pairs_before = λ x y later earlier. subst (λ s. AreTrainsApart t s x y) (sym found.at_step) (found.pairs_before x y later earlier);
      in_order = found.in_order;
      one = clash.one;
      other = clash.other;
      has_one = clash.has_one;
      has_other = clash.has_other;
      first_linked = clash.first_linked;
    }

-- all trains are apart at each step of the instance, and no train is there at another
pub always_apart : (t : Traffic) (n : ℕ) → IsGoodTraffic t → t.inst.now.steps ≤ n → ((s : ℕ) → s < n → AreAllApart t s) → (step x y : ℕ) → x < y → AreTrainsApart t step x y
always_apart t n sound all each step x y later =
    elim (leb_tells n step) [
      | inl past ↦ apart_without_first t step x y
          (λ w has. let low : step < t.inst.now.steps = sound.in_time x step w has in omega (arith, past.1))
      | inr low ↦ (each step low.1).apart x y later
    ]

-- a run is that of a train of the instance
run_of_train : (t : Traffic) → AllZip (IsRun t.inst.now) t.inst.now.trains t.runs.now → (train step : ℕ) (w : Sweep) (has : Touches t train step w) →
    (spec : TrainSpec) × (slice_get t.inst.now.trains train ≡ Some spec) × IsRun t.inst.now spec has.run
run_of_train t zipped train step w has = zipped_with (IsRun t.inst.now) t.inst.now.trains t.runs.now train has.run zipped has.is_run

pub is_sound : (t : Traffic) → IsInstance t.inst.now → AreClasses t.inst.now t.layout.now t.classes.now →
    AllZip (IsRun t.inst.now) t.inst.now.trains t.runs.now → IsGoodTraffic t
is_sound t inst alike zipped = record {
  alike = alike;
  for_each_train = zipped_lengths (IsRun t.inst.now) t.inst.now.trains t.runs.now zipped;
  on_cells = λ train step w has.
      let found = run_of_train t zipped train step w has in
      let place : ℕ = step - has.run.start in
      let within : place < length has.run.sweeps = slice_get_within has.run.sweeps place w has.is_there.is_there in
      let is : slice_index_or has.run.sweeps place w ≡ w = get_or_from_slice_get has.run.sweeps place w w has.is_there.is_there in
      (subst (λ (v : Sweep). IsSweep t.inst.now found.0 v.cells) is (found.2.sweeps place w within)).path.cells;
  in_time = λ train step w has.
      let found = run_of_train t zipped train step w has in
      let within : step - has.run.start < length has.run.sweeps = slice_get_within has.run.sweeps (step - has.run.start) w has.is_there.is_there in
      let arrives : has.run.start + length has.run.sweeps ≤ found.0.by + 1 = found.2.arrives.in_time in
      let good : IsGoodTrain t.inst.now train found.0 = inst.trains.at_each train found.0 found.1 in
      let by : found.0.by < t.inst.now.steps = good.in_time in
      let begun : has.run.start ≤ step = has.is_there.begun in
      omega arith;
}
