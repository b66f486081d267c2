-- Why `count` does what its contract says.
use Rattle.vss_report.proofs.KindLemmas.{count_missed}
use Rattle.vss_report.proofs.line_reader.count.Goals as goal

pub returns-in-Err-clause-missed : goal.returns-in-Err-clause-missed
returns-in-Err-clause-missed c = count_missed c.args.text.now c.in-Err.miss c.in-Err.ensures.missed
