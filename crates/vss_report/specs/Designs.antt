-- The lines that state a design: its borders, and the runs of its plan.
use Rattle.std.specs.Prelude.{ℕ, suc, ◌+◌, ◌++◌, Bool, true, false, List, [], ◌∷◌, map}
use Rattle.cell_net.specs.declared.labels.Labels.{Labels}
use Rattle.cell_net.specs.declared.plans.Sweep.{Sweep}
use Rattle.cell_net.specs.declared.plans.TrainRun.{TrainRun}
use Rattle.vss_report.specs.Lines.{ReportLine, PlaceName, count, border, run, sweep}
use Rattle.vss_report.specs.Names.{train_name, cell_named}

-- the line of a sweep
abbrev pub sweep_line : Labels → Sweep → ReportLine
sweep_line labels s = sweep (map (cell_named labels) s.cells)

-- the lines of the run of the train of that number: its start, then its sweeps
abbrev pub lines_of_run : Labels → ℕ → TrainRun → List ReportLine
lines_of_run labels train r = run (train_name labels (record { 0 = train })) r.start ∷ map (sweep_line labels) r.sweeps

-- the lines of the runs of the trains from that number on
abbrev pub lines_of_runs : Labels → ℕ → List TrainRun → List ReportLine
lines_of_runs labels train [] = []
lines_of_runs labels train (r ∷ rs) = lines_of_run labels train r ++ lines_of_runs labels (train + 1) rs

-- whether a design begins in the lines
abbrev pub has_design : List ReportLine → Bool
has_design [] = false
has_design (count n ∷ lines) = true
has_design (l ∷ lines) = has_design lines

-- the borders in the lines
abbrev pub borders_in : List ReportLine → List PlaceName
borders_in [] = []
borders_in (border name ∷ lines) = name ∷ borders_in lines
borders_in (l ∷ lines) = borders_in lines

-- the lines of runs and sweeps among the lines
abbrev pub runs_in : List ReportLine → List ReportLine
runs_in [] = []
runs_in (run train start ∷ lines) = run train start ∷ runs_in lines
runs_in (sweep cells ∷ lines) = sweep cells ∷ runs_in lines
runs_in (l ∷ lines) = runs_in lines

-- how many runs begin in the lines
abbrev pub runs_begun : List ReportLine → ℕ
runs_begun [] = 0
runs_begun (run train start ∷ lines) = suc (runs_begun lines)
runs_begun (l ∷ lines) = runs_begun lines
