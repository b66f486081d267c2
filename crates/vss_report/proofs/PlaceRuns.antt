-- A sweep stands behind the first line of a run.
use Rattle.std.proofs.Common.{◌≡◌, ◌<◌, ◌⊎◌, inl, inr, ℕ, zero, suc, Bool, true, false, List, [], ◌∷◌, Some, slice_get, sym, subst, arith}
use Rattle.vss_report.specs.Designs.{runs_begun}
use Rattle.vss_report.specs.Lines.{ReportLine, header, verdict_done, verdict_impossible, verdict_spent, conflicts, best_none, count, border, run, sweep, smaller_none, refutes, step, end_line, line_kind}
use Rattle.vss_report.specs.Places.{kinds_at, behind_runs, place_after, IsAmong, LinesLead}
use Rattle.vss_report.specs.declared.kind.Kind.TheVariants as kind
use Rattle.vss_report.specs.declared.place.Place.{Place}
use Rattle.vss_report.specs.declared.place.Place.TheVariants.{Start, Verdict, Conflicts, Best, Design, Borders, FirstSweep, Sweeps, Bound, Log, End, Finished}

-- a place within a run
abbrev IsInRun : Place → Type 0
IsInRun (FirstSweep done) = Unit {0}
IsInRun (Sweeps done) = Unit {0}
IsInRun place = ⊥

behind_runs_none : (done : Bool) (k : ℕ) → slice_get (behind_runs done) k ≡ Some kind.Sweep → ⊥
behind_runs_none true zero is = cc
behind_runs_none true (suc zero) is = cc
behind_runs_none true (suc (suc zero)) is = cc
behind_runs_none true (suc (suc (suc k))) is = cc
behind_runs_none false zero is = cc
behind_runs_none false (suc k) is = cc

at_sweep : (place : Place) (k : ℕ) → slice_get (kinds_at place) k ≡ Some kind.Sweep → IsInRun place
at_sweep Start zero is = cc
at_sweep Start (suc k) is = cc
at_sweep Verdict zero is = cc
at_sweep Verdict (suc zero) is = cc
at_sweep Verdict (suc (suc zero)) is = cc
at_sweep Verdict (suc (suc (suc k))) is = cc
at_sweep Conflicts zero is = cc
at_sweep Conflicts (suc k) is = cc
at_sweep Best zero is = cc
at_sweep Best (suc zero) is = cc
at_sweep Best (suc (suc k)) is = cc
at_sweep Design zero is = cc
at_sweep Design (suc k) is = cc
at_sweep (Borders zero done) zero is = cc
at_sweep (Borders zero done) (suc k) is = behind_runs_none done k is
at_sweep (Borders (suc left) done) zero is = cc
at_sweep (Borders (suc left) done) (suc k) is = cc
at_sweep (FirstSweep done) k is = tt
at_sweep (Sweeps done) k is = tt
at_sweep Bound zero is = cc
at_sweep Bound (suc k) is = cc
at_sweep Log zero is = cc
at_sweep Log (suc zero) is = cc
at_sweep Log (suc (suc k)) is = cc
at_sweep End zero is = cc
at_sweep End (suc k) is = cc
at_sweep Finished k is = cc

-- before a line that leads into a run stands a run, or it begins one
step_in : (from : Place) (l : ReportLine) → IsAmong (kinds_at from) (line_kind l) → IsInRun (place_after from l) → IsInRun from ⊎ (0 < runs_begun (l ∷ []))
step_in from header among in_run = absurd in_run
step_in from verdict_done among in_run = absurd in_run
step_in from verdict_impossible among in_run = absurd in_run
step_in from verdict_spent among in_run = absurd in_run
step_in from (conflicts n) among in_run = absurd in_run
step_in from best_none among in_run = absurd in_run
step_in from (count n) among in_run = absurd in_run
step_in from (border name) among in_run = absurd in_run
step_in from (run train start) among in_run = inr (omega arith)
step_in from (sweep cells) among in_run = inl (at_sweep from among.place among.is_there)
step_in from smaller_none among in_run = absurd in_run
step_in from (refutes bound) among in_run = absurd in_run
step_in from (step s) among in_run = absurd in_run
step_in from end_line among in_run = absurd in_run

more_begun : (l : ReportLine) (lines : List ReportLine) → 0 < runs_begun lines → 0 < runs_begun (l ∷ lines)
more_begun (run train start) lines some = omega arith
more_begun l lines some = some

first_begun : (l : ReportLine) (lines : List ReportLine) → 0 < runs_begun (l ∷ []) → 0 < runs_begun (l ∷ lines)
first_begun (run train start) lines some = omega arith
first_begun l lines some = absurd (omega (arith, some))

in_run : (from at : Place) (lines : List ReportLine) → LinesLead from lines at → IsInRun at → IsInRun from ⊎ (0 < runs_begun lines)
in_run from at [] leads within = inl (subst IsInRun (sym leads) within)
in_run from at (l ∷ lines) leads within = elim (in_run (place_after from l) at lines leads.1 within) [
  | inl first ↦ elim (step_in from l leads.0 first) [
    | inl before ↦ inl before
    | inr begins ↦ inr (first_begun l lines begins)
  ]
  | inr some ↦ inr (more_begun l lines some)
]

pub run_before : (at : Place) (lines : List ReportLine) → LinesLead Start lines at → IsAmong (kinds_at at) kind.Sweep → 0 < runs_begun lines
run_before at lines leads among = elim (in_run Start at lines leads (at_sweep at among.place among.is_there)) [
  | inl never ↦ absurd never
  | inr some ↦ some
]
