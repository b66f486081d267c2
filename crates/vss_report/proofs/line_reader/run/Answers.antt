-- Why `run` does what its contract says.
use Rattle.vss_report.proofs.KindLemmas.{run_missed}
use Rattle.vss_report.proofs.line_reader.run.Goals as goal

pub returns-in-Err-clause-missed : goal.returns-in-Err-clause-missed
returns-in-Err-clause-missed c = run_missed c.args.text.now c.in-Err.miss c.in-Err.ensures.missed
