-- Why `read_line` does what its contract says.
use Rattle.std.proofs.Common.{arith}
use Rattle.vss_report.proofs.FoundLemmas.{AreTried-all}
use Rattle.vss_report.proofs.line_reader.read_line.Goals as goal

pub returns-clause-missed : goal.returns-clause-missed
returns-clause-missed c = AreTried-all c.args.text.now c.args.place c.kinds-kind-items.result.now c.loop-kind.kind-index c.kinds-kind-items.ensures (omega arith) c.loop-kind.invariant
