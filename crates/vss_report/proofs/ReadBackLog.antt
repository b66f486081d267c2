-- What is written of a refutation is read back.
use Rattle.std.proofs.Common.{◌≡◌, ◌+◌, ◌-◌, ℕ, suc, List, [], ◌∷◌, ◌++◌, Some, slice_get, length, map, refl, sym, ap, subst, ◌∙◌, arith, append_assoc, append-nil}
use Rattle.cell_net.specs.Labelled.{AreLabels}
use Rattle.cell_net.specs.declared.ids.CandidateId.{CandidateId}
use Rattle.cell_net.specs.declared.labels.Labels.{Labels}
use Rattle.cell_net.specs.declared.plans.Plan.{Plan}
use Rattle.cell_net.specs.declared.plans.Sweep.{Sweep}
use Rattle.cell_net.specs.declared.plans.TrainRun.{TrainRun}
use Rattle.derivation_log.specs.declared.step.Refutation.{Refutation}
use Rattle.derivation_log.specs.declared.step.Step.{Step}
use Rattle.vss_report.specs.Designs.{sweep_line, lines_of_runs}
use Rattle.vss_report.specs.Lines.{ReportLine, header, verdict_done, step, refutes, end_line}
use Rattle.vss_report.specs.Outcomes.{border_line, lines_of_design, lines_of_refutation, lines_of_smaller, report_text}
use Rattle.vss_report.specs.Refutations.{steps_of_lines}
use Rattle.vss_report.specs.Written.{HasShortNames, IsReportOutcome, IsSmallerRefuted, HasRefutation, IsStated}
use Rattle.vss_report.specs.declared.outcome.Smaller.{Smaller}
use Rattle.vss_report.specs.declared.outcome.Smaller.TheVariants as smaller
use Rattle.vss_report.specs.declared.outcome.Outcome.{Outcome}
use Rattle.vss_report.specs.declared.outcome.Outcome.TheVariants as outcome
use Rattle.vss_report.proofs.ReadBack.{the_report}
use Rattle.vss_report.proofs.RefutationLemmas.{steps_in-append}

steps_told : (ss : List Step) → steps_of_lines (map step ss) ≡ ss
steps_told [] = refl
steps_told (s ∷ ss) = ap (λ xs. s ∷ xs) (steps_told ss)

closing_told : (ss : List Step) → steps_of_lines (map step ss ++ end_line ∷ []) ≡ ss
closing_told ss = steps_in-append (map step ss) (end_line ∷ []) ∙ (append-nil (steps_of_lines (map step ss)) ∙ steps_told ss)

no_border_step : (labels : Labels) (bs : List CandidateId) → steps_of_lines (map (border_line labels) bs) ≡ []
no_border_step labels [] = refl
no_border_step labels (b ∷ bs) = no_border_step labels bs

no_sweep_step : (labels : Labels) (ss : List Sweep) → steps_of_lines (map (sweep_line labels) ss) ≡ []
no_sweep_step labels [] = refl
no_sweep_step labels (s ∷ ss) = no_sweep_step labels ss

no_run_step : (labels : Labels) (k : ℕ) (rs : List TrainRun) → steps_of_lines (lines_of_runs labels k rs) ≡ []
no_run_step labels k [] = refl
no_run_step labels k (r ∷ rs) =
    steps_in-append (map (sweep_line labels) r.sweeps) (lines_of_runs labels (k + 1) rs)
    ∙ (ap (λ ss. ss ++ steps_of_lines (lines_of_runs labels (k + 1) rs)) (no_sweep_step labels r.sweeps) ∙ no_run_step labels (k + 1) rs)

no_design_step : (labels : Labels) (bs : List CandidateId) (plan : Plan) → steps_of_lines (lines_of_design labels bs plan) ≡ []
no_design_step labels bs plan =
    steps_in-append (map (border_line labels) bs) (lines_of_runs labels 0 plan.runs)
    ∙ (ap (λ ss. ss ++ steps_of_lines (lines_of_runs labels 0 plan.runs)) (no_border_step labels bs) ∙ no_run_step labels 0 plan.runs)

at_seam : (lines more : List ReportLine) (l : ReportLine) → slice_get (lines ++ (l ∷ more)) (length lines) ≡ Some l
at_seam [] more l = refl
at_seam (x ∷ lines) more l = at_seam lines more l

design_stated : (labels : Labels) (bs : List CandidateId) (plan : Plan) (r : Refutation)
    → (slice_get ((lines_of_design labels bs plan ++ lines_of_refutation r) ++ end_line ∷ []) (length (lines_of_design labels bs plan)) ≡ Some (refutes r.bound))
    × (r.log.steps ≡ steps_of_lines ((lines_of_design labels bs plan ++ lines_of_refutation r) ++ end_line ∷ []))
design_stated labels bs plan r =
    let design = lines_of_design labels bs plan in
    let closing = map step r.log.steps ++ end_line ∷ [] in
    let same : (design ++ lines_of_refutation r) ++ end_line ∷ [] ≡ design ++ (refutes r.bound ∷ closing) = append_assoc design (lines_of_refutation r) (end_line ∷ []) in (
      ap (λ ls. slice_get ls (length design)) same ∙ at_seam design closing (refutes r.bound),
      sym (ap steps_of_lines same ∙ (steps_in-append design (refutes r.bound ∷ closing) ∙ (ap (λ ss. ss ++ steps_of_lines closing) (no_design_step labels bs plan) ∙ closing_told r.log.steps))),
    )

pub refutation_read_back : (labels : Labels) (o : Outcome) (r : Refutation) → AreLabels labels → HasShortNames labels → IsReportOutcome labels o → HasRefutation o r → IsStated (report_text labels o) r
refutation_read_back labels (outcome.Impossible q) r good short fit has =
    subst (IsStated (report_text labels (outcome.Impossible q))) (sym has) (record {
      number = 3;
      states = record {
        report = the_report labels (outcome.Impossible q) good short fit;
        bound = record { some = omega arith; is_there = refl };
        steps = sym (closing_told q.log.steps);
      };
    })
refutation_read_back labels (outcome.Spent n best) r good short fit has = absurd has
refutation_read_back labels (outcome.Done d) r good short fit has = by_smaller d.smaller refl has
  where
    by_smaller : (s : Smaller) → d.smaller ≡ s → IsSmallerRefuted s r → IsStated (report_text labels (outcome.Done d)) r
    by_smaller smaller.NotAsked is has = absurd has
    by_smaller smaller.Nothing is has = absurd has
    by_smaller (smaller.Refuted q) is has =
        let told = subst (λ s. (slice_get ((lines_of_design labels d.layout d.plan ++ lines_of_smaller s) ++ end_line ∷ []) (length (lines_of_design labels d.layout d.plan)) ≡ Some (refutes q.bound))
        × (q.log.steps ≡ steps_of_lines ((lines_of_design labels d.layout d.plan ++ lines_of_smaller s) ++ end_line ∷ []))) (sym is) (design_stated labels d.layout d.plan q) in
        let number : length (lines_of_design labels d.layout d.plan) + 3 - 1 ≡ suc (suc (length (lines_of_design labels d.layout d.plan))) = omega arith in
        subst (IsStated (report_text labels (outcome.Done d))) (sym has) (record {
          number = length (lines_of_design labels d.layout d.plan) + 3;
          states = record {
            report = the_report labels (outcome.Done d) good short fit;
            bound = record { some = omega arith; is_there = ap (slice_get (header ∷ (verdict_done ∷ ((lines_of_design labels d.layout d.plan ++ lines_of_smaller d.smaller) ++ end_line ∷ [])))) number ∙ told.0 };
            steps = told.1;
          };
        })
