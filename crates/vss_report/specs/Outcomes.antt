-- What is told of a task, and the lines that tell it.
use Rattle.std.specs.Prelude.{ℕ, ◌++◌, List, [], ◌∷◌, Option, Some, None, map, length}
use Rattle.cell_net.specs.declared.ids.CandidateId.{CandidateId}
use Rattle.cell_net.specs.declared.labels.Labels.{Labels}
use Rattle.cell_net.specs.declared.plans.Plan.{Plan}
use Rattle.derivation_log.specs.declared.step.Refutation.{Refutation}
use Rattle.vss_report.specs.Designs.{lines_of_runs}
use Rattle.vss_report.specs.Lines.{ReportLine, header, verdict_done, verdict_impossible, verdict_spent, conflicts, best_none, count, border, smaller_none, refutes, step, end_line, text_of_lines}
use Rattle.vss_report.specs.Names.{place_named}
use Rattle.vss_report.specs.declared.outcome.Smaller.{Smaller}
use Rattle.vss_report.specs.declared.outcome.Smaller.TheVariants as smaller
use Rattle.vss_report.specs.declared.outcome.Outcome.{Outcome}
use Rattle.vss_report.specs.declared.outcome.Outcome.TheVariants as outcome

-- the line of a border
abbrev pub border_line : Labels → CandidateId → ReportLine
border_line labels candidate = border (place_named labels candidate)

-- the count of borders, the borders, and the runs of the trains in turn
abbrev pub lines_of_design : Labels → List CandidateId → Plan → List ReportLine
lines_of_design labels borders plan = count (length borders) ∷ (map (border_line labels) borders ++ lines_of_runs labels 0 plan.runs)

-- what is refuted, and the steps
abbrev pub lines_of_refutation : Refutation → List ReportLine
lines_of_refutation r = refutes r.bound ∷ map step r.log.steps

abbrev pub lines_of_smaller : Smaller → List ReportLine
lines_of_smaller smaller.NotAsked = []
lines_of_smaller smaller.Nothing = smaller_none ∷ []
lines_of_smaller (smaller.Refuted r) = lines_of_refutation r

abbrev pub lines_of_best : Labels → Option (List CandidateId × Plan) → List ReportLine
lines_of_best labels None = best_none ∷ []
lines_of_best labels (Some design) = lines_of_design labels design.0 design.1

-- the verdict and all that belongs to it
abbrev pub lines_of_verdict : Labels → Outcome → List ReportLine
lines_of_verdict labels (outcome.Done d) = verdict_done ∷ (lines_of_design labels d.layout d.plan ++ lines_of_smaller d.smaller)
lines_of_verdict labels (outcome.Impossible r) = verdict_impossible ∷ lines_of_refutation r
lines_of_verdict labels (outcome.Spent n best) = verdict_spent ∷ (conflicts n ∷ lines_of_best labels best)

-- the whole report
abbrev pub lines_of_outcome : Labels → Outcome → List ReportLine
lines_of_outcome labels o = header ∷ (lines_of_verdict labels o ++ end_line ∷ [])

abbrev pub report_text : Labels → Outcome → List ℕ
report_text labels o = text_of_lines (lines_of_outcome labels o)
