-- Why `conflicts` does what its contract says.
use Rattle.vss_report.proofs.KindLemmas.{conflicts_short, conflicts_missed, conflicts_found}
use Rattle.vss_report.proofs.line_reader.conflicts.Goals as goal

pub returns-in-Err-Short-clause-missed : goal.returns-in-Err-Short-clause-missed
returns-in-Err-Short-clause-missed c = conflicts_short c.args.text.now (rw c.in-Err-Short.field-0-is at c.in-Err-Short.ensures.missed)

pub returns-in-Ok-after-clause-found : goal.returns-in-Ok-after-clause-found
returns-in-Ok-after-clause-found c = conflicts_found c.args.text.now c.in-Ok-after.rest.now c.in-Ok-after.ensures.found

pub returns-in-Err-clause-missed : goal.returns-in-Err-clause-missed
returns-in-Err-clause-missed c = conflicts_missed c.args.text.now c.in-Err.miss (rw c.in-Err-Wrong.field-0-is at c.in-Err-Wrong.ensures.missed) c.in-Err.ensures.missed
