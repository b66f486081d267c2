-- Which lines may stand at a place of a report, and the place behind each.
use Rattle.std.specs.Prelude.{◌≡◌, ℕ, zero, suc, ◌++◌, Bool, true, false, List, [], ◌∷◌, All, Some, slice_get}
use Rattle.vss_report.specs.Lines.{ReportLine, header, verdict_done, verdict_impossible, verdict_spent, conflicts, best_none, count, border, run, sweep, smaller_none, refutes, step, end_line, line_kind, text_of_lines, IsSpelled}
use Rattle.vss_report.specs.declared.kind.Kind.{Kind}
use Rattle.vss_report.specs.declared.kind.Kind.TheVariants as kind
use Rattle.vss_report.specs.declared.place.Place.{Place}
use Rattle.vss_report.specs.declared.place.Place.TheVariants.{Start, Verdict, Conflicts, Best, Design, Borders, FirstSweep, Sweeps, Bound, Log, End, Finished}

-- behind the runs of a design stand `smaller none`, a refutation or nothing; where the budget is spent, nothing
abbrev pub behind_runs : Bool → List Kind
behind_runs true = kind.SmallerNone ∷ kind.Refutes ∷ kind.End ∷ []
behind_runs false = kind.End ∷ []

-- the kinds of line that may stand at the place
abbrev pub kinds_at : Place → List Kind
kinds_at Start = kind.Header ∷ []
kinds_at Verdict = kind.Done ∷ kind.Impossible ∷ kind.Spent ∷ []
kinds_at Conflicts = kind.Conflicts ∷ []
kinds_at Best = kind.BestNone ∷ kind.Count ∷ []
kinds_at Design = kind.Count ∷ []
kinds_at (Borders zero done) = kind.Run ∷ behind_runs done
kinds_at (Borders (suc left) done) = kind.Border ∷ []
kinds_at (FirstSweep done) = kind.Sweep ∷ []
kinds_at (Sweeps done) = kind.Sweep ∷ kind.Run ∷ behind_runs done
kinds_at Bound = kind.Refutes ∷ []
kinds_at Log = kind.Step ∷ kind.End ∷ []
kinds_at End = kind.End ∷ []
kinds_at Finished = []

-- the place behind a line: of a design (done or not) after so many borders, runs, sweeps
abbrev pub is_done : Place → Bool
is_done (Borders left done) = done
is_done (FirstSweep done) = done
is_done (Sweeps done) = done
is_done Design = true
is_done place = false

abbrev pub left_at : Place → ℕ
left_at (Borders (suc left) done) = left
left_at place = 0

-- the place behind a line that may stand at the place
abbrev pub place_after : Place → ReportLine → Place
place_after place header = Verdict
place_after place verdict_done = Design
place_after place verdict_impossible = Bound
place_after place verdict_spent = Conflicts
place_after place (conflicts n) = Best
place_after place best_none = End
place_after place (count n) = Borders n (is_done place)
place_after place (border b) = Borders (left_at place) (is_done place)
place_after place (run train start) = FirstSweep (is_done place)
place_after place (sweep cells) = Sweeps (is_done place)
place_after place smaller_none = End
place_after place (refutes bound) = Log
place_after place (step s) = Log
place_after place end_line = Finished

-- the item stands in the list
pub record IsAmong {X : Type 0} (items : List X) (item : X) : Type 0 where
  pub place : ℕ
  pub is_there : slice_get items place ≡ Some item

-- the line may stand at the place
pub record MayStand (from : Place) (l : ReportLine) : Type 0 where
  pub spelled : IsSpelled l
  pub among : IsAmong (kinds_at from) (line_kind l)

-- the lines may stand one behind the other from the one place to the other
abbrev pub LinesLead : Place → List ReportLine → Place → Type 0
LinesLead from [] to = from ≡ to
LinesLead from (l ∷ lines) to = IsAmong (kinds_at from) (line_kind l) × LinesLead (place_after from l) lines to

-- the bytes are lines that lead from the place to the end of a report
pub record EndsReport (from : Place) (bytes : List ℕ) : Type 0 where
  pub lines : List ReportLine
  pub leads : LinesLead from lines Finished
  pub spelled : All IsSpelled lines
  pub text : bytes ≡ text_of_lines lines

-- the bytes, with more behind them, are such lines
pub record CanEnd (from : Place) (bytes : List ℕ) : Type 0 where
  pub more : List ℕ
  pub ends : EndsReport from (bytes ++ more)
