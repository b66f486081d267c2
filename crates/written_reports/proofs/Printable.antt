-- How a search ends can stand in a report.
use Rattle.std.proofs.Common.{◌≡◌, ℕ, zero, suc, ◌<◌, ◌≤◌, List, [], ◌∷◌, length, get_or, Some, slice_get, refl, sym, ◌∙◌, arith}
use Rattle.std.specs.Prelude.{All}
use Rattle.std.specs.List.{AllZip}
use Rattle.std.proofs.lemmas.List.Elements.{All-cons, All-nil}
use Rattle.std.proofs.lemmas.Option.{slice_get-get_or, slice_get_within}
use Rattle.std.proofs.lemmas.Slice.Zip.{AllZip-long}
use Rattle.cell_net.specs.Borders.{RisesAt, IsBorderSet}
use Rattle.cell_net.specs.Labelled.{AreLabelsOf}
use Rattle.cell_net.specs.Plans.{IsLawful}
use Rattle.cell_net.specs.Rules.{IsInstance, IsGoodTrain}
use Rattle.cell_net.specs.Runs.{IsSweep, IsRun}
use Rattle.cell_net.specs.declared.ids.CandidateId.{CandidateId}
use Rattle.cell_net.specs.declared.parts.InstanceParts.{InstanceParts}
use Rattle.cell_net.specs.declared.plans.Plan.{Plan}
use Rattle.cell_net.specs.declared.plans.Sweep.{Sweep}
use Rattle.cell_net.specs.declared.plans.TrainRun.{TrainRun}
use Rattle.cell_net.specs.declared.trains.TrainSpec.{TrainSpec}
use Rattle.cell_net.specs.declared.labels.Labels.{Labels}
use Rattle.vss_lists.specs.Breaks.{HoldsOfEach}
use Rattle.vss_report.specs.Written.{IsReportSweep, IsReportRun, IsReportDesign}

-- rising candidates are at least as high as their places
rises_to : (xs : List CandidateId) → HoldsOfEach (RisesAt xs) xs → (j : ℕ) (d : CandidateId) → j < length xs → j ≤ (get_or xs j d).0
rises_to xs rises zero d within = omega arith
rises_to xs rises (suc j) d within =
    let step : (get_or xs j d).0 < (get_or xs (suc j) d).0 = rises.at_each (suc j) (get_or xs (suc j) d) (slice_get-get_or xs (suc j) d within) j (get_or xs j d) (omega arith) (slice_get-get_or xs j d (omega arith)) in
    omega (arith, rises_to xs rises j d (omega arith), step)

any : CandidateId
any = record { 0 = 0 }

-- there are no more borders than candidates
pub few_borders : (p : InstanceParts) (xs : List CandidateId) → IsBorderSet p xs → length xs ≤ length p.candidates
few_borders p [] set = omega arith
few_borders p (x ∷ xs) set =
    let last = length xs in
    let inside : last < length (x ∷ xs) = omega arith in
    let low : (get_or (x ∷ xs) last any).0 < length p.candidates = set.in_range.at_each last (get_or (x ∷ xs) last any) (slice_get-get_or (x ∷ xs) last any inside) in
    omega (arith, rises_to (x ∷ xs) set.rising last any inside, low)

sweep_stands : (p : InstanceParts) (labels : Labels) (t : TrainSpec) (w : Sweep) → AreLabelsOf p labels → IsSweep p t w.cells → IsReportSweep labels w
sweep_stands p labels t w labelled is = record {
  not_empty = is.path.not_empty;
  cells = λ k d lt. omega (arith, labelled.cells, is.path.cells k d lt);
}

run_stands : (p : InstanceParts) (labels : Labels) (k : ℕ) (t : TrainSpec) (r : TrainRun) → IsInstance p → AreLabelsOf p labels → IsGoodTrain p k t → IsRun p t r → IsReportRun labels r
run_stands p labels k t r rules labelled good is =
    let few : p.steps ≤ 400 = rules.steps.few in
    record {
      start = omega (arith, is.enters.not_late, good.in_order, good.in_time, few);
      not_empty = slice_get_within r.sweeps 0 is.enters.first is.enters.is_first;
      sweeps = λ j d lt. sweep_stands p labels t (get_or r.sweeps j d) labelled (is.sweeps j d lt);
    }

runs_stand : (p : InstanceParts) (labels : Labels) → IsInstance p → AreLabelsOf p labels → (ts : List TrainSpec) (rs : List TrainRun)
    → ((t : TrainSpec) (k : ℕ) → slice_get ts k ≡ Some t → (place : ℕ) × IsGoodTrain p place t) → AllZip (IsRun p) ts rs → All (IsReportRun labels) rs
runs_stand p labels rules labelled [] [] good all = All-nil (IsReportRun labels)
runs_stand p labels rules labelled [] (r ∷ rs) good all = absurd all
runs_stand p labels rules labelled (t ∷ ts) [] good all = absurd all
runs_stand p labels rules labelled (t ∷ ts) (r ∷ rs) good all =
    let (place, is) = good t 0 refl in
    All-cons (IsReportRun labels) r rs (run_stands p labels place t r rules labelled is all.0)
    (runs_stand p labels rules labelled ts rs (λ u k there. good u (suc k) there) all.1)

-- a lawful design can
pub design_stands : (p : InstanceParts) (labels : Labels) (borders : List CandidateId) (plan : Plan) → IsInstance p → AreLabelsOf p labels → IsLawful p borders plan → IsReportDesign labels borders plan
design_stands p labels borders plan rules labelled lawful =
    let most : length p.candidates ≤ 512 = rules.few_candidates in
    record {
      few = omega (arith, few_borders p borders lawful.layout.set, most);
      places = λ k d lt. omega (arith, labelled.places, lawful.layout.set.in_range.at_each k (get_or borders k d) (slice_get-get_or borders k d lt));
      rising = lawful.layout.set.rising;
      one_run_each = AllZip-long (IsRun p) p.trains plan.runs lawful.runs ∙ sym labelled.trains;
      runs = runs_stand p labels rules labelled p.trains plan.runs (λ t k there. (k, rules.trains.at_each k t there)) lawful.runs;
    }
