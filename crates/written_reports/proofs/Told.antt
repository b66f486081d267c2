-- What is right to be told of a written report.
use Rattle.std.proofs.Common.{◌≡◌, ℕ, ◌-◌, ◌≤◌, List, [], ◌∷◌, length, Option, Some, None, Ok, refl, sym, subst, arith}
use Rattle.std.specs.Prelude.{All}
use Rattle.std.proofs.Math.Nat.{min-le_right}
use Rattle.cell_net.specs.Labelled.{AreLabels, AreLabelsOf}
use Rattle.cell_net.specs.Plans.{IsLawful}
use Rattle.cell_net.specs.Rules.{IsInstance}
use Rattle.cell_net.specs.declared.ids.CandidateId.{CandidateId}
use Rattle.cell_net.specs.declared.labels.Labels.{Labels}
use Rattle.cell_net.specs.declared.parts.InstanceParts.{InstanceParts}
use Rattle.cell_net.specs.declared.plans.Plan.{Plan}
use Rattle.clause_encoder.specs.declared.task.Task.{Task}
use Rattle.derivation_log.specs.Steps.{derived_steps}
use Rattle.derivation_log.specs.Text.{IsInRange}
use Rattle.derivation_log.specs.declared.step.Bound.{Bound}
use Rattle.derivation_log.specs.declared.step.Bound.TheVariants as bound
use Rattle.derivation_log.specs.declared.step.Refutation.{Refutation}
use Rattle.log_checker.specs.declared.verdict.LogVerdict.TheVariants as log_verdict
use Rattle.plan_checker.specs.declared.judging.Verdict.TheVariants as verdict
use Rattle.task_driver.specs.Questions.{Question, of_kept, of_at_most, of_fewest, first_bound, Formulas}
use Rattle.task_driver.specs.Outcomes.{Shows, IsRefutation, IsSmaller, RefuteBound}
use Rattle.task_driver.specs.Sessions.{IsBest}
use Rattle.task_driver.specs.TaskEnds.{task_of, bound_task, AreFormulasOf, IsVerdictOf}
use Rattle.vss_io.specs.Shown.{Files}
use Rattle.vss_report.specs.DesignFaults.{IsDesignReading}
use Rattle.vss_report.specs.Lines.{IsSpelledBound}
use Rattle.vss_report.specs.Outcomes.{report_text}
use Rattle.vss_report.specs.Refutations.{IsRefutationReading}
use Rattle.vss_report.specs.Written.{HasShortNames, IsReportOutcome, IsReportSmaller, IsReportBest, IsReportRefutation, HasDesign, IsDesignReadBack, IsSmallerRefuted, HasRefutation, IsRefutationReadBack}
use Rattle.vss_report.specs.declared.outcome.Outcome.{Outcome}
use Rattle.vss_report.specs.declared.outcome.Outcome.TheVariants as outcome
use Rattle.vss_report.specs.declared.outcome.Smaller.{Smaller}
use Rattle.vss_report.specs.declared.outcome.Smaller.TheVariants as smaller
use Rattle.vss_stages.specs.Stages.{goes_on}
use Rattle.vss_stages.proofs.StageLaws.{hands_value}
use Rattle.vss_words.specs.declared.command.Command.TheVariants.{Judge, Check}
use Rattle.vss_words.specs.declared.command.DocumentNames.{DocumentNames}
use Rattle.vss_jobs.specs.Jobs.{IsJob}
use Rattle.vss_jobs.specs.Readings.{judging, checking, report_stop, size_stop, design_job, refutation_job}
use Rattle.vss_jobs.specs.Settings.{Setting}
use Rattle.vss_answers.specs.Answers.{CheckEnds, checked_answer}
use Rattle.vss_answers.specs.declared.answer.Answer.TheVariants.{Lawful}
use Rattle.written_reports.specs.WrittenReports.{HoldsReport, DesignsAreLawful, RefutationsAreProved}
use Rattle.written_reports.proofs.Made.{IsMadeSetting, made}
use Rattle.written_reports.proofs.ShortNames.{short_names}
use Rattle.written_reports.proofs.Printable.{few_borders, design_stands}

-- the bound that a question begins with has few digits
first_spelled : (p : InstanceParts) (q : Question) → length p.candidates ≤ 512 → IsSpelledBound (first_bound p q)
first_spelled p of_kept few = tt
first_spelled p (of_at_most most) few = omega (arith, min-le_right most (length p.candidates))
first_spelled p of_fewest few = omega arith

refutation_stands : (f : Formulas) (p : InstanceParts) (b : Bound) (r : Refutation) → IsSpelledBound b → IsRefutation f p b r → All IsInRange r.log.steps → IsReportRefutation r
refutation_stands f p b r spelled is steps = record { bound = subst IsSpelledBound (sym is.bound_is) spelled; steps = steps }

smaller_stands : (f : Formulas) (p : InstanceParts) (q : Question) (count : ℕ) (s : Smaller) → count ≤ 512 → IsSmaller f p q count s
    → ((r : Refutation) → IsSmallerRefuted s r → All IsInRange r.log.steps) → IsReportSmaller s
smaller_stands f p q count smaller.NotAsked few is steps = tt
smaller_stands f p q count smaller.Nothing few is steps = tt
smaller_stands f p of_fewest count (smaller.Refuted r) few is steps = refutation_stands f p (bound.AtMost (count - 1)) r (omega arith) is.1 (steps r refl)
smaller_stands f p of_kept count (smaller.Refuted r) few is steps = absurd is
smaller_stands f p (of_at_most most) count (smaller.Refuted r) few is steps = absurd is

best_lawful : (p : InstanceParts) (first : Bound) (later : List Bound) (design : List CandidateId × Plan) → IsBest p first later (Some design) → IsLawful p design.0 design.1
best_lawful p first [] design is = absurd is
best_lawful p first (next ∷ later) design is = is.3

best_stands : (p : InstanceParts) (labels : Labels) (first : Bound) (later : List Bound) (best : Option (List CandidateId × Plan)) → IsInstance p → AreLabelsOf p labels
    → IsBest p first later best → IsReportBest labels best
best_stands p labels first later None rules labelled is = tt
best_stands p labels first later (Some design) rules labelled is = design_stands p labels design.0 design.1 rules labelled (best_lawful p first later design is)

outcome_stands : (f : Formulas) (p : InstanceParts) (labels : Labels) (q : Question) (budget : ℕ) (o : Outcome) → IsInstance p → AreLabelsOf p labels → budget ≤ 1000000000
    → Shows f p q budget o → ((r : Refutation) → HasRefutation o r → All IsInRange r.log.steps) → IsReportOutcome labels o
outcome_stands f p labels q budget (outcome.Done d) rules labelled in_range shows steps =
    let most : length p.candidates ≤ 512 = rules.few_candidates in (
      design_stands p labels d.layout d.plan rules labelled shows.lawful,
      smaller_stands f p q (length d.layout) d.smaller (omega (arith, few_borders p d.layout shows.lawful.layout.set, most)) shows.smaller steps,
    )
outcome_stands f p labels q budget (outcome.Impossible r) rules labelled in_range shows steps =
    refutation_stands f p (first_bound p q) r (first_spelled p q rules.few_candidates) shows (steps r refl)
outcome_stands f p labels q budget (outcome.Spent n best) rules labelled in_range shows steps =
    (omega (arith, in_range, shows.conflicts_are), best_stands p labels (first_bound p q) shows.session.later best rules labelled shows.best_is)

-- the design of an outcome is lawful
design_lawful : (f : Formulas) (p : InstanceParts) (q : Question) (budget : ℕ) (o : Outcome) (borders : List CandidateId) (plan : Plan) → Shows f p q budget o → HasDesign o borders plan → IsLawful p borders plan
design_lawful f p q budget (outcome.Done d) borders plan shows has =
    subst (λ (b : List CandidateId). IsLawful p b plan) (sym has.0) (subst (λ (x : Plan). IsLawful p d.layout x) (sym has.1) shows.lawful)
design_lawful f p q budget (outcome.Spent n (Some design)) borders plan shows has =
    subst (λ (b : List CandidateId). IsLawful p b plan) (sym has.0) (subst (λ (x : Plan). IsLawful p design.0 x) (sym has.1) (best_lawful p (first_bound p q) shows.session.later design shows.best_is))
design_lawful f p q budget (outcome.Spent n None) borders plan shows has = absurd has
design_lawful f p q budget (outcome.Impossible r) borders plan shows has = absurd has

same_task : (p : InstanceParts) (q : Question) → bound_task p (first_bound p q) ≡ task_of p q
same_task p of_kept = refl
same_task p (of_at_most most) = refl
same_task p of_fewest = refl

-- a refutation of a bound, over the formulas of its task, is what the checker finds
verdict_of : (f : Formulas) (p : InstanceParts) (b : Bound) (r : Refutation) → AreFormulasOf p (bound_task p b) f → IsRefutation f p b r → IsVerdictOf p r log_verdict.Refutes
verdict_of f p b r are is = record {
  formulas = f;
  are = subst (λ (x : Bound). AreFormulasOf p (bound_task p x) f) (sym is.bound_is) are;
  is = subst (λ (x : Bound). RefuteBound f p x (derived_steps r.log.steps)) (sym is.bound_is) is.refutes;
}

smaller_proved : (f : Formulas) (p : InstanceParts) (q : Question) (count : ℕ) (s : Smaller) (r : Refutation) → AreFormulasOf p (task_of p q) f → IsSmaller f p q count s → IsSmallerRefuted s r
    → IsVerdictOf p r log_verdict.Refutes
smaller_proved f p of_fewest count (smaller.Refuted s) r are is has = verdict_of f p (bound.AtMost (count - 1)) r are (subst (λ (x : Refutation). IsRefutation f p (bound.AtMost (count - 1)) x) (sym has) is.1)
smaller_proved f p of_kept count (smaller.Refuted s) r are is has = absurd is
smaller_proved f p (of_at_most most) count (smaller.Refuted s) r are is has = absurd is
smaller_proved f p q count smaller.NotAsked r are is has = absurd has
smaller_proved f p q count smaller.Nothing r are is has = absurd has

-- the refutation of an outcome is one that the checker finds
refutation_proved : (f : Formulas) (p : InstanceParts) (q : Question) (budget : ℕ) (o : Outcome) (r : Refutation) → AreFormulasOf p (task_of p q) f → Shows f p q budget o → HasRefutation o r
    → IsVerdictOf p r log_verdict.Refutes
refutation_proved f p q budget (outcome.Done d) r are shows has = smaller_proved f p q (length d.layout) d.smaller r are shows.smaller has
refutation_proved f p q budget (outcome.Impossible s) r are shows has =
    verdict_of f p (first_bound p q) r (subst (λ (t : Task). AreFormulasOf p t f) (sym (same_task p q)) are) (subst (λ (x : Refutation). IsRefutation f p (first_bound p q) x) (sym has) shows)
refutation_proved f p q budget (outcome.Spent n best) r are shows has = absurd has

labels_of : (setting : Setting) → IsMadeSetting setting → AreLabelsOf setting.parts setting.labels
labels_of setting is = subst (λ (s : Setting). AreLabelsOf s.parts s.labels) (sym is.is) is.scene.labelled

-- the laws of written texts
pub record AreReadBack : Type 0 where
  pub designs : (labels : Labels) (o : Outcome) → AreLabels labels → HasShortNames labels → IsReportOutcome labels o → IsDesignReadBack labels o
  pub refutations : (labels : Labels) (o : Outcome) → AreLabels labels → HasShortNames labels → IsReportOutcome labels o → IsRefutationReadBack labels o

-- the report can stand
stands : (files after : Files) (documents : DocumentNames) (report : List ℕ) (o : Outcome) (holds : HoldsReport files after documents report o)
    → AreLabelsOf holds.setting.parts holds.setting.labels × HasShortNames holds.setting.labels × IsReportOutcome holds.setting.labels o
stands files after documents report o holds =
    let is = made files after documents holds.setting holds.scene in
    let labelled = labels_of holds.setting is in (
      labelled,
      short_names holds.setting holds.ends.is_instance is labelled,
      outcome_stands holds.ends.ends_so.formulas holds.setting.parts holds.setting.labels holds.question holds.budget o holds.ends.is_instance labelled holds.in_range holds.ends.ends_so.shows holds.in_form,
    )

pub designs_are_lawful : AreReadBack → DesignsAreLawful
designs_are_lawful law words files after documents report o borders plan asked holds has =
    let (labelled, short, printable) = stands files after documents report o holds in
    let setting = holds.setting in
    let text = report_text setting.labels o in
    let read : IsDesignReading setting.labels text (Ok (borders, plan)) = law.designs setting.labels o labelled.are_labels short printable borders plan has in
    let job : IsJob words files after (Ok (judging setting borders plan)) =
    goes_on (Judge documents report) asked (goes_on setting holds.scene (goes_on text (holds.short, λ tells. holds.holds) (record {
      labels = labelled.are_labels;
      hands_on = hands_value (IsDesignReading setting.labels text) (design_job setting) report_stop (borders, plan) read;
    }))) in
    goes_on (judging setting borders plan) job (record {
      found = verdict.Lawful;
      is = design_lawful holds.ends.ends_so.formulas setting.parts holds.question holds.budget o borders plan holds.ends.ends_so.shows has;
      told = refl;
    })

pub refutations_are_proved : AreReadBack → RefutationsAreProved
refutations_are_proved law words files after documents report o r asked holds has =
    let (labelled, short, printable) = stands files after documents report o holds in
    let setting = holds.setting in
    let text = report_text setting.labels o in
    let stated = law.refutations setting.labels o labelled.are_labels short printable r has in
    let read : IsRefutationReading text (Ok (r, stated.number)) = stated.states in
    let job : IsJob words files after (Ok (checking setting r stated.number)) =
    goes_on (Check documents report) asked (goes_on setting holds.scene (goes_on text (holds.short, λ tells. holds.holds)
    (hands_value (IsRefutationReading text) (refutation_job setting) report_stop (r, stated.number) read))) in
    goes_on (checking setting r stated.number) job
    (hands_value (CheckEnds setting r) (checked_answer r stated.number) size_stop log_verdict.Refutes (record {
      is_instance = holds.ends.is_instance;
      ends_so = refutation_proved holds.ends.ends_so.formulas setting.parts holds.question holds.budget o r holds.ends.ends_so.are holds.ends.ends_so.shows has;
    }))
