-- What is written of an outcome is read back.
use Rattle.std.proofs.Common.{◌≡◌, ◌+◌, ℕ, true, List, [], ◌∷◌, ◌++◌, All, Some, None, map, refl, sym, ap, subst, ◌∙◌, append_assoc, append-nil}
use Rattle.std.proofs.lemmas.List.Elements.{All-nil, All-cons, All-head, All-tail}
use Rattle.cell_net.specs.Labelled.{AreLabels}
use Rattle.cell_net.specs.declared.ids.CandidateId.{CandidateId}
use Rattle.cell_net.specs.declared.labels.Labels.{Labels}
use Rattle.cell_net.specs.declared.plans.Plan.{Plan}
use Rattle.cell_net.specs.declared.plans.Sweep.{Sweep}
use Rattle.cell_net.specs.declared.plans.TrainRun.{TrainRun}
use Rattle.derivation_log.specs.declared.step.Step.{Step}
use Rattle.vss_report.specs.DesignFaults.{HasCells, HasCellsOfRun, StatesDesign}
use Rattle.vss_report.specs.Designs.{sweep_line, lines_of_runs, has_design, borders_in, runs_in}
use Rattle.vss_report.specs.Lines.{ReportLine, run, step, end_line}
use Rattle.vss_report.specs.Names.{train_name, place_named}
use Rattle.vss_report.specs.Outcomes.{border_line, lines_of_design, lines_of_smaller, lines_of_outcome, report_text}
use Rattle.vss_report.specs.Places.{EndsReport}
use Rattle.vss_report.specs.Written.{HasShortNames, IsReportSweep, IsReportRun, IsReportDesign, IsReportOutcome, HasDesign}
use Rattle.vss_report.specs.declared.outcome.Smaller.{Smaller}
use Rattle.vss_report.specs.declared.outcome.Smaller.TheVariants as smaller
use Rattle.vss_report.specs.declared.outcome.Outcome.{Outcome}
use Rattle.vss_report.specs.declared.outcome.Outcome.TheVariants as outcome
use Rattle.vss_report.specs.declared.place.Place.TheVariants.{Start}
use Rattle.vss_report.proofs.DesignLines.{borders_in-append, runs_in-append}
use Rattle.vss_report.proofs.WrittenPlaces.{leads_outcome}
use Rattle.vss_report.proofs.WrittenLines.{outcome_spelled, outcome_fits}

abbrev pub the_report : (labels : Labels) (o : Outcome) → AreLabels labels → HasShortNames labels → IsReportOutcome labels o → EndsReport Start (report_text labels o)
the_report labels o good short fit = record { lines = lines_of_outcome labels o; leads = leads_outcome labels o fit; spelled = outcome_spelled labels o good short fit; text = refl }

borders_told : (labels : Labels) (bs : List CandidateId) → borders_in (map (border_line labels) bs) ≡ map (place_named labels) bs
borders_told labels [] = refl
borders_told labels (b ∷ bs) = ap (λ names. place_named labels b ∷ names) (borders_told labels bs)

no_run_told : (labels : Labels) (bs : List CandidateId) → runs_in (map (border_line labels) bs) ≡ []
no_run_told labels [] = refl
no_run_told labels (b ∷ bs) = no_run_told labels bs

sweeps_told : (labels : Labels) (ss : List Sweep) → (runs_in (map (sweep_line labels) ss) ≡ map (sweep_line labels) ss) × (borders_in (map (sweep_line labels) ss) ≡ [])
sweeps_told labels [] = (refl, refl)
sweeps_told labels (s ∷ ss) = let more = sweeps_told labels ss in (ap (λ ls. sweep_line labels s ∷ ls) more.0, more.1)

runs_told : (labels : Labels) (k : ℕ) (rs : List TrainRun) → (runs_in (lines_of_runs labels k rs) ≡ lines_of_runs labels k rs) × (borders_in (lines_of_runs labels k rs) ≡ [])
runs_told labels k [] = (refl, refl)
runs_told labels k (r ∷ rs) =
    let sweeps = map (sweep_line labels) r.sweeps in
    let others = lines_of_runs labels (k + 1) rs in
    let told = sweeps_told labels r.sweeps in
    let more = runs_told labels (k + 1) rs in
    let start = run (train_name labels (record { 0 = k })) r.start in (
      ap (λ ls. start ∷ ls) (runs_in-append sweeps others ∙ (ap (λ ls. ls ++ runs_in others) told.0 ∙ ap (λ ls. sweeps ++ ls) more.0)),
      borders_in-append sweeps others ∙ (ap (λ ls. ls ++ borders_in others) told.1 ∙ more.1),
    )

steps_told : (ss : List Step) → (runs_in (map step ss) ≡ []) × (borders_in (map step ss) ≡ [])
steps_told [] = (refl, refl)
steps_told (s ∷ ss) = steps_told ss

-- what a refutation and the end tell of a design: nothing
closing_told : (s : Smaller) → (runs_in (lines_of_smaller s ++ end_line ∷ []) ≡ []) × (borders_in (lines_of_smaller s ++ end_line ∷ []) ≡ [])
closing_told smaller.NotAsked = (refl, refl)
closing_told smaller.Nothing = (refl, refl)
closing_told (smaller.Refuted r) =
    let steps = map step r.log.steps in
    let told = steps_told r.log.steps in
    (runs_in-append steps (end_line ∷ []) ∙ (append-nil (runs_in steps) ∙ told.0), borders_in-append steps (end_line ∷ []) ∙ (append-nil (borders_in steps) ∙ told.1))

-- what the lines of a design tell, with others behind them that tell nothing of one
design_told : (labels : Labels) (bs : List CandidateId) (plan : Plan) (more : List ReportLine) → runs_in more ≡ [] → borders_in more ≡ []
    → (borders_in (lines_of_design labels bs plan ++ more) ≡ map (place_named labels) bs) × (runs_in (lines_of_design labels bs plan ++ more) ≡ lines_of_runs labels 0 plan.runs)
design_told labels bs plan more no_run no_border =
    let borders = map (border_line labels) bs in
    let runs = lines_of_runs labels 0 plan.runs in
    let told = runs_told labels 0 plan.runs in (
      borders_in-append (borders ++ runs) more ∙ (ap (λ ls. borders_in (borders ++ runs) ++ ls) no_border ∙ (append-nil (borders_in (borders ++ runs))
          ∙ (borders_in-append borders runs ∙ (ap (λ ls. borders_in borders ++ ls) told.1 ∙ (append-nil (borders_in borders) ∙ borders_told labels bs))))),
      runs_in-append (borders ++ runs) more ∙ (ap (λ ls. runs_in (borders ++ runs) ++ ls) no_run ∙ (append-nil (runs_in (borders ++ runs))
          ∙ (runs_in-append borders runs ∙ (ap (λ ls. ls ++ runs_in runs) (no_run_told labels bs) ∙ told.0)))),
    )

cells_of_runs : (labels : Labels) (rs : List TrainRun) → All (IsReportRun labels) rs → All (HasCellsOfRun labels) rs
cells_of_runs labels [] fit = All-nil (HasCellsOfRun labels)
cells_of_runs labels (r ∷ rs) fit =
    All-cons (HasCellsOfRun labels) r rs (cells_of r.sweeps (All-head (IsReportRun labels) r rs fit).sweeps) (cells_of_runs labels rs (All-tail (IsReportRun labels) r rs fit))
  where
    cells_of : (ss : List Sweep) → All (IsReportSweep labels) ss → All (HasCells labels) ss
    cells_of [] fit = All-nil (HasCells labels)
    cells_of (s ∷ ss) fit = All-cons (HasCells labels) s ss (All-head (IsReportSweep labels) s ss fit).cells (cells_of ss (All-tail (IsReportSweep labels) s ss fit))

states : (labels : Labels) (o : Outcome) (bs : List CandidateId) (plan : Plan) → (good : AreLabels labels) (short : HasShortNames labels) (fit : IsReportOutcome labels o) → IsReportDesign labels bs plan → has_design (lines_of_outcome labels o) ≡ true
    → (borders_in (lines_of_outcome labels o) ≡ map (place_named labels) bs) × (runs_in (lines_of_outcome labels o) ≡ lines_of_runs labels 0 plan.runs) → StatesDesign labels (report_text labels o) bs plan
states labels o bs plan good short fit design begun told = record {
  report = the_report labels o good short fit;
  begun = begun;
  fit = outcome_fits labels o good fit;
  places = design.places;
  borders_are = sym told.0;
  cells = cells_of_runs labels plan.runs design.runs;
  runs_are = sym told.1;
}

-- the design of an outcome is the one that its report states
pub design_read_back : (labels : Labels) (o : Outcome) (bs : List CandidateId) (plan : Plan) → AreLabels labels → HasShortNames labels → IsReportOutcome labels o → HasDesign o bs plan → StatesDesign labels (report_text labels o) bs plan
design_read_back labels (outcome.Done d) bs plan good short fit has =
    let told = closing_told d.smaller in
    let all = subst (λ ls. (borders_in ls ≡ map (place_named labels) d.layout) × (runs_in ls ≡ lines_of_runs labels 0 d.plan.runs)) (sym (append_assoc (lines_of_design labels d.layout d.plan) (lines_of_smaller d.smaller) (end_line ∷ [])))
    (design_told labels d.layout d.plan (lines_of_smaller d.smaller ++ end_line ∷ []) told.0 told.1) in
    subst (λ b. StatesDesign labels (report_text labels (outcome.Done d)) b plan) (sym has.0) (subst (λ p. StatesDesign labels (report_text labels (outcome.Done d)) d.layout p) (sym has.1) (states labels (outcome.Done d) d.layout d.plan good short fit fit.0 refl all))
design_read_back labels (outcome.Impossible r) bs plan good short fit has = absurd has
design_read_back labels (outcome.Spent n None) bs plan good short fit has = absurd has
design_read_back labels (outcome.Spent n (Some design)) bs plan good short fit has =
    subst (λ b. StatesDesign labels (report_text labels (outcome.Spent n (Some design))) b plan) (sym has.0)
    (subst (λ p. StatesDesign labels (report_text labels (outcome.Spent n (Some design))) design.0 p) (sym has.1)
    (states labels (outcome.Spent n (Some design)) design.0 design.1 good short fit fit.1 refl (design_told labels design.0 design.1 (end_line ∷ []) refl refl)))
