-- The lines of a report, in the names that they give, and the text of each.
use Rattle.std.specs.Prelude.{◌<◌, ◌≤◌, ◌++◌, ℕ, List, ◌∷◌, All, length, codes, decimal}
use Rattle.std.specs.List.{flat_map}
use Rattle.cell_net.specs.declared.cells.End.{End}
use Rattle.cell_net.specs.declared.cells.End.TheVariants.{Low, High}
use Rattle.derivation_log.specs.Text.{step_text, IsInRange}
use Rattle.derivation_log.specs.declared.step.Step.{Step}
use Rattle.derivation_log.specs.declared.step.Bound.{Bound}
use Rattle.derivation_log.specs.declared.step.Bound.TheVariants.{Given, AtMost}
use Rattle.vss_io.specs.Line.{line}
use Rattle.vss_names.specs.Names.{IsName}
use Rattle.vss_text.specs.Numbers.{IsShort}
use Rattle.vss_report.specs.declared.kind.Kind.{Kind}
use Rattle.vss_report.specs.declared.kind.Kind.TheVariants as kind

-- a border: a cut of the track of that name, in metres, or the joint of that name
pub data PlaceName : Type 0 where
  cut : List ℕ → ℕ → PlaceName
  joint : List ℕ → PlaceName

-- a directed cell: its track, its number on it, and the end that it heads to
pub record CellName : Type 0 where
  pub track : List ℕ
  pub index : ℕ
  pub end : End

pub data ReportLine : Type 0 where
  header : ReportLine
  verdict_done : ReportLine
  verdict_impossible : ReportLine
  verdict_spent : ReportLine
  conflicts : ℕ → ReportLine
  best_none : ReportLine
  count : ℕ → ReportLine
  border : PlaceName → ReportLine
  run : List ℕ → ℕ → ReportLine
  sweep : List CellName → ReportLine
  smaller_none : ReportLine
  refutes : Bound → ReportLine
  step : Step → ReportLine
  end_line : ReportLine

abbrev pub line_kind : ReportLine → Kind
line_kind header = kind.Header
line_kind verdict_done = kind.Done
line_kind verdict_impossible = kind.Impossible
line_kind verdict_spent = kind.Spent
line_kind (conflicts n) = kind.Conflicts
line_kind best_none = kind.BestNone
line_kind (count n) = kind.Count
line_kind (border place) = kind.Border
line_kind (run train start) = kind.Run
line_kind (sweep cells) = kind.Sweep
line_kind smaller_none = kind.SmallerNone
line_kind (refutes bound) = kind.Refutes
line_kind (step s) = kind.Step
line_kind end_line = kind.End

-- a train in a cell heads to its high end or to its low end
abbrev pub sign : End → List ℕ
sign High = codes "+"
sign Low = codes "-"

-- a directed cell, as `t1:0+`
abbrev pub cell_text : CellName → List ℕ
cell_text cell = cell.track ++ (codes ":" ++ (decimal cell.index ++ sign cell.end))

-- the same behind a blank
abbrev pub spaced : CellName → List ℕ
spaced cell = 32 ∷ cell_text cell

abbrev pub place_text : PlaceName → List ℕ
place_text (cut track at_m) = codes "cut " ++ (track ++ (codes " " ++ decimal at_m))
place_text (joint name) = codes "joint " ++ name

abbrev pub bound_text : Bound → List ℕ
bound_text Given = codes "given"
bound_text (AtMost k) = decimal k

-- the text of a line, without its line feed
abbrev pub line_text : ReportLine → List ℕ
line_text header = codes "vssplan report 1"
line_text verdict_done = codes "verdict done"
line_text verdict_impossible = codes "verdict impossible"
line_text verdict_spent = codes "verdict spent"
line_text (conflicts n) = codes "conflicts " ++ decimal n
line_text best_none = codes "best none"
line_text (count n) = codes "design " ++ decimal n
line_text (border place) = codes "border " ++ place_text place
line_text (run train start) = codes "run " ++ (train ++ (codes " " ++ decimal start))
line_text (sweep cells) = codes "sweep" ++ flat_map spaced cells
line_text smaller_none = codes "smaller none"
line_text (refutes bound) = codes "refutes " ++ bound_text bound
line_text (step s) = step_text s
line_text end_line = codes "end"

-- a line with its line feed, and the text of lines one after another
abbrev pub full_text : ReportLine → List ℕ
full_text l = line (line_text l)

abbrev pub text_of_lines : List ReportLine → List ℕ
text_of_lines lines = flat_map full_text lines

abbrev pub IsSpelledPlace : PlaceName → Type 0
IsSpelledPlace (cut track at_m) = IsName track × IsShort at_m
IsSpelledPlace (joint name) = IsName name

pub record IsSpelledCell (cell : CellName) : Type 0 where
  pub track : IsName cell.track
  pub index : IsShort cell.index

abbrev pub IsSpelledBound : Bound → Type 0
IsSpelledBound Given = Unit {0}
IsSpelledBound (AtMost k) = IsShort k

-- names are names, and numbers have at most nine digits; of conflicts there may be 1,000,000,000; a sweep has a cell
abbrev pub IsSpelled : ReportLine → Type 0
IsSpelled (conflicts n) = n ≤ 1000000000
IsSpelled (count n) = IsShort n
IsSpelled (border place) = IsSpelledPlace place
IsSpelled (run train start) = IsName train × IsShort start
IsSpelled (sweep cells) = (0 < length cells) × All IsSpelledCell cells
IsSpelled (refutes bound) = IsSpelledBound bound
IsSpelled (step s) = IsInRange s
IsSpelled l = Unit {0}
