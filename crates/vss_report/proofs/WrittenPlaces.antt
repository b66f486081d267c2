-- The lines of an outcome lead from the first place of a report to the last.
use Rattle.std.proofs.Common.{◌≡◌, ◌<◌, ◌+◌, ℕ, zero, suc, Bool, true, false, List, [], ◌∷◌, ◌++◌, All, Option, Some, None, length, map, refl, sym, subst, arith, append_assoc}
use Rattle.std.proofs.lemmas.List.Elements.{All-head, All-tail}
use Rattle.cell_net.specs.declared.ids.CandidateId.{CandidateId}
use Rattle.cell_net.specs.declared.labels.Labels.{Labels}
use Rattle.cell_net.specs.declared.plans.Plan.{Plan}
use Rattle.cell_net.specs.declared.plans.Sweep.{Sweep}
use Rattle.cell_net.specs.declared.plans.TrainRun.{TrainRun}
use Rattle.derivation_log.specs.declared.step.Refutation.{Refutation}
use Rattle.derivation_log.specs.declared.step.Step.{Step}
use Rattle.vss_report.specs.Designs.{sweep_line, lines_of_run, lines_of_runs}
use Rattle.vss_report.specs.Lines.{step, end_line}
use Rattle.vss_report.specs.Outcomes.{border_line, lines_of_design, lines_of_refutation, lines_of_smaller, lines_of_best, lines_of_outcome}
use Rattle.vss_report.specs.Places.{kinds_at, behind_runs, is_done, IsAmong, LinesLead}
use Rattle.vss_report.specs.Written.{IsReportRun, IsReportBest, IsReportOutcome}
use Rattle.vss_report.specs.declared.kind.Kind.{Kind}
use Rattle.vss_report.specs.declared.kind.Kind.TheVariants as kind
use Rattle.vss_report.specs.declared.outcome.Smaller.{Smaller}
use Rattle.vss_report.specs.declared.outcome.Smaller.TheVariants as smaller
use Rattle.vss_report.specs.declared.outcome.Outcome.{Outcome}
use Rattle.vss_report.specs.declared.outcome.Outcome.TheVariants as outcome
use Rattle.vss_report.specs.declared.place.Place.{Place}
use Rattle.vss_report.specs.declared.place.Place.TheVariants.{Start, Best, Design, Borders, FirstSweep, Sweeps, Bound, Log, Finished}
use Rattle.vss_report.proofs.PlaceLemmas.{leads_then}

leads_borders : (labels : Labels) (n : ℕ) (bs : List CandidateId) (done : Bool) → n ≡ length bs → LinesLead (Borders n done) (map (border_line labels) bs) (Borders 0 done)
leads_borders labels zero [] done is = refl
leads_borders labels zero (b ∷ bs) done is = absurd (omega (arith, is))
leads_borders labels (suc n) [] done is = absurd (omega (arith, is))
leads_borders labels (suc n) (b ∷ bs) done is = (record { place = 0; is_there = refl }, leads_borders labels n bs done (omega (arith, is)))

leads_sweeps : (labels : Labels) (ss : List Sweep) (done : Bool) → LinesLead (Sweeps done) (map (sweep_line labels) ss) (Sweeps done)
leads_sweeps labels [] done = refl
leads_sweeps labels (s ∷ ss) done = (record { place = 0; is_there = refl }, leads_sweeps labels ss done)

first_sweeps : (labels : Labels) (ss : List Sweep) (done : Bool) → 0 < length ss → LinesLead (FirstSweep done) (map (sweep_line labels) ss) (Sweeps done)
first_sweeps labels [] done some = absurd (omega (arith, some))
first_sweeps labels (s ∷ ss) done some = (record { place = 0; is_there = refl }, leads_sweeps labels ss done)

leads_runs : (labels : Labels) (k : ℕ) (rs : List TrainRun) (done : Bool) → All (IsReportRun labels) rs → LinesLead (Sweeps done) (lines_of_runs labels k rs) (Sweeps done)
leads_runs labels k [] done fit = refl
leads_runs labels k (r ∷ rs) done fit =
    leads_then (Sweeps done) (Sweeps done) (Sweeps done) (lines_of_run labels k r) (lines_of_runs labels (k + 1) rs)
    (record { place = 1; is_there = refl }, first_sweeps labels r.sweeps done (All-head (IsReportRun labels) r rs fit).not_empty)
    (leads_runs labels (k + 1) rs done (All-tail (IsReportRun labels) r rs fit))

-- the place behind the runs of a design
after_runs : Bool → List TrainRun → Place
after_runs done [] = Borders 0 done
after_runs done (r ∷ rs) = Sweeps done

all_runs : (labels : Labels) (rs : List TrainRun) (done : Bool) → All (IsReportRun labels) rs → LinesLead (Borders 0 done) (lines_of_runs labels 0 rs) (after_runs done rs)
unfolding after_runs
all_runs labels [] done fit = refl
all_runs labels (r ∷ rs) done fit =
    leads_then (Borders 0 done) (Sweeps done) (Sweeps done) (lines_of_run labels 0 r) (lines_of_runs labels (0 + 1) rs)
    (record { place = 0; is_there = refl }, first_sweeps labels r.sweeps done (All-head (IsReportRun labels) r rs fit).not_empty)
    (leads_runs labels (0 + 1) rs done (All-tail (IsReportRun labels) r rs fit))

leads_design : (labels : Labels) (from : Place) (bs : List CandidateId) (plan : Plan) → IsAmong (kinds_at from) kind.Count → All (IsReportRun labels) plan.runs → LinesLead from (lines_of_design labels bs plan) (after_runs (is_done from) plan.runs)
leads_design labels from bs plan among fit = (
  among,
  leads_then (Borders (length bs) (is_done from)) (Borders 0 (is_done from)) (after_runs (is_done from) plan.runs) (map (border_line labels) bs) (lines_of_runs labels 0 plan.runs)
      (leads_borders labels (length bs) bs (is_done from) refl) (all_runs labels plan.runs (is_done from) fit),
)

behind_design : (done : Bool) (rs : List TrainRun) (k : Kind) → IsAmong (behind_runs done) k → IsAmong (kinds_at (after_runs done rs)) k
unfolding after_runs
behind_design done [] k among = record { place = suc among.place; is_there = among.is_there }
behind_design done (r ∷ rs) k among = record { place = suc (suc among.place); is_there = among.is_there }

leads_steps : (ss : List Step) → LinesLead Log (map step ss) Log
leads_steps [] = refl
leads_steps (s ∷ ss) = (record { place = 0; is_there = refl }, leads_steps ss)

leads_refutation : (from : Place) (r : Refutation) → IsAmong (kinds_at from) kind.Refutes → LinesLead from (lines_of_refutation r ++ end_line ∷ []) Finished
leads_refutation from r among = (among, leads_then Log Log Finished (map step r.log.steps) (end_line ∷ []) (leads_steps r.log.steps) (record { place = 1; is_there = refl }, refl))

leads_smaller : (rs : List TrainRun) (s : Smaller) → LinesLead (after_runs true rs) (lines_of_smaller s ++ end_line ∷ []) Finished
leads_smaller rs smaller.NotAsked = (behind_design true rs kind.End (record { place = 2; is_there = refl }), refl)
leads_smaller rs smaller.Nothing = (behind_design true rs kind.SmallerNone (record { place = 0; is_there = refl }), (record { place = 0; is_there = refl }, refl))
leads_smaller rs (smaller.Refuted r) = leads_refutation (after_runs true rs) r (behind_design true rs kind.Refutes (record { place = 1; is_there = refl }))

leads_best : (labels : Labels) (best : Option (List CandidateId × Plan)) → IsReportBest labels best → LinesLead Best (lines_of_best labels best ++ end_line ∷ []) Finished
leads_best labels None fit = (record { place = 0; is_there = refl }, (record { place = 0; is_there = refl }, refl))
leads_best labels (Some design) fit =
    leads_then Best (after_runs false design.1.runs) Finished (lines_of_design labels design.0 design.1) (end_line ∷ [])
    (leads_design labels Best design.0 design.1 (record { place = 1; is_there = refl }) fit.runs)
    (behind_design false design.1.runs kind.End (record { place = 0; is_there = refl }), refl)

pub leads_outcome : (labels : Labels) (o : Outcome) → IsReportOutcome labels o → LinesLead Start (lines_of_outcome labels o) Finished
leads_outcome labels (outcome.Done d) fit =
    let design = lines_of_design labels d.layout d.plan in
    let lines = leads_then Design (after_runs true d.plan.runs) Finished design (lines_of_smaller d.smaller ++ end_line ∷ [])
    (leads_design labels Design d.layout d.plan (record { place = 0; is_there = refl }) fit.0.runs) (leads_smaller d.plan.runs d.smaller) in
    (record { place = 0; is_there = refl }, (record { place = 0; is_there = refl }, subst (λ ls. LinesLead Design ls Finished) (sym (append_assoc design (lines_of_smaller d.smaller) (end_line ∷ []))) lines))
leads_outcome labels (outcome.Impossible r) fit =
    (record { place = 0; is_there = refl }, (record { place = 1; is_there = refl }, leads_refutation Bound r (record { place = 0; is_there = refl })))
leads_outcome labels (outcome.Spent n best) fit =
    (record { place = 0; is_there = refl }, (record { place = 2; is_there = refl }, (record { place = 0; is_there = refl }, leads_best labels best fit.1)))
