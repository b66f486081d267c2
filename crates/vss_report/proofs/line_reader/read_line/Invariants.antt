-- What the loop of `read_line` keeps from turn to turn.
use Rattle.vss_report.proofs.FoundLemmas.{AreTried}
use Rattle.vss_report.proofs.line_reader.read_line.Given as goal

-- no line of the kinds up to here stands there
abbrev pub invariant-loop-kind : goal.invariant-loop-kind
invariant-loop-kind l = AreTried l.text l.kind-items l.kind-index
