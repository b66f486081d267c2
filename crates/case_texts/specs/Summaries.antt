-- The summary of a trial: how large the made case is, and how the search for its fewest borders ended.
use Rattle.std.specs.Prelude.{ℕ, List, [], ◌∷◌, ◌++◌, Some, None, codes, decimal, length}
use Rattle.cell_net.specs.declared.parts.InstanceParts.{InstanceParts}
use Rattle.vss_io.specs.Line.{flat, line}
use Rattle.vss_report.specs.declared.outcome.Outcome.{Outcome}
use Rattle.vss_report.specs.declared.outcome.Outcome.TheVariants.{Done, Impossible, Spent}

-- a line of a word, which ends with a space, and a number
abbrev pub counted_line : List ℕ → ℕ → List ℕ
counted_line word number = line (flat (word ∷ decimal number ∷ []))

-- how large the network is
unfoldable pub space_text : InstanceParts → List ℕ
space_text parts = counted_line (codes "cells ") (length parts.cells) ++ counted_line (codes "candidates ") (length parts.candidates)

-- how large the timetable is
unfoldable pub time_text : InstanceParts → List ℕ
time_text parts = counted_line (codes "trains ") (length parts.trains) ++ counted_line (codes "steps ") parts.steps

abbrev pub verdict_of : Outcome → List ℕ
verdict_of (Done design) = codes "done"
verdict_of (Impossible refutation) = codes "impossible"
verdict_of (Spent conflicts best) = codes "spent"

-- how many borders the design has that was found; nothing where none was
abbrev pub borders_text : Outcome → List ℕ
borders_text (Done design) = counted_line (codes "borders ") (length design.layout)
borders_text (Impossible refutation) = []
borders_text (Spent conflicts (Some design)) = counted_line (codes "borders ") (length design.0)
borders_text (Spent conflicts None) = []

-- how the search ended
unfoldable pub ending_text : Outcome → List ℕ
ending_text outcome = line (flat (codes "verdict " ∷ verdict_of outcome ∷ [])) ++ (borders_text outcome ++ line (codes "end"))

unfoldable pub summary_text : InstanceParts → Outcome → List ℕ
summary_text parts outcome = space_text parts ++ (time_text parts ++ ending_text outcome)
