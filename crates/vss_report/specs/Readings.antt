-- What was read of a text, and which line of a report it is.
use Rattle.std.specs.Prelude.{◌≡◌, ◌<◌, ◌++◌, ℕ, List, [], ◌∷◌, All, length}
use Rattle.std.specs.List.{flat_map}
use Rattle.derivation_log.specs.Tested.{IsTextOf}
use Rattle.vss_report.specs.Lines.{ReportLine, CellName, cut, joint, header, verdict_done, verdict_impossible, verdict_spent, conflicts, best_none, count, border, run, sweep, smaller_none, refutes, step, end_line, line_kind, spaced, full_text, IsSpelled, IsSpelledCell}
use Rattle.vss_report.specs.declared.kind.Kind.{Kind}
use Rattle.vss_report.specs.declared.read_line.ReadLine.{ReadLine}
use Rattle.vss_report.specs.declared.read_line.ReadLine.TheVariants as read

-- what was read is this line
abbrev pub SaysLine : ReadLine → ReportLine → Type 0
SaysLine read.Header l = l ≡ header
SaysLine read.Done l = l ≡ verdict_done
SaysLine read.Impossible l = l ≡ verdict_impossible
SaysLine read.Spent l = l ≡ verdict_spent
SaysLine (read.Conflicts n) l = l ≡ conflicts n
SaysLine read.BestNone l = l ≡ best_none
SaysLine (read.Count n) l = l ≡ count n
SaysLine (read.Cut track at_m) l = l ≡ border (cut track.now at_m)
SaysLine (read.Joint name) l = l ≡ border (joint name.now)
SaysLine (read.Run train start) l = l ≡ run train.now start
SaysLine (read.Sweep cells) (sweep named) = cells.now ≡ flat_map spaced named
SaysLine read.SmallerNone l = l ≡ smaller_none
SaysLine (read.Refutes bound) l = l ≡ refutes bound
SaysLine (read.Step text) (step s) = IsTextOf text s
SaysLine read.End l = l ≡ end_line
SaysLine text l = ⊥

-- a line of the kind
pub record IsOfKind (kind : Kind) (l : ReportLine) : Type 0 where
  pub spelled : IsSpelled l
  pub kind_is : line_kind l ≡ kind

-- such a line stands at the front of the text, and this follows
pub record IsFound (P : ReportLine → Type 0) (text : List ℕ) (found : ReadLine) (rest : List ℕ) : Type 0 where
  pub line : ReportLine
  pub fits : P line
  pub says : SaysLine found line
  pub is_front : text ≡ full_text line ++ rest

-- a name, and the byte behind it
abbrev pub named : ℕ → List ℕ → List ℕ
named end name = name ++ end ∷ []

-- a word, and what stands behind it
abbrev pub with_word : {X : Type 0} → List ℕ → (X → List ℕ) → X → List ℕ
with_word word spelled x = word ++ spelled x

-- cells that a sweep may have
abbrev pub AreSweepCells : List CellName → Type 0
AreSweepCells cells = (0 < length cells) × All IsSpelledCell cells

-- the cells of a sweep, and the line feed behind them
abbrev pub cells_line : List CellName → List ℕ
cells_line cells = flat_map spaced cells ++ 10 ∷ []

-- the cells at the front of the text
pub record HasCells (text cells rest : List ℕ) : Type 0 where
  pub named : List CellName
  pub fit : AreSweepCells named
  pub are : cells ≡ flat_map spaced named
  pub is_front : text ≡ cells ++ 10 ∷ rest
