-- Why `border` does what its contract says.
use Rattle.vss_report.proofs.KindLemmas.{border_short, border_missed}
use Rattle.vss_report.proofs.line_reader.border.Goals as goal

pub returns-in-Err-Short-clause-missed : goal.returns-in-Err-Short-clause-missed
returns-in-Err-Short-clause-missed c = border_short c.args.text.now (rw c.in-Err-Short.field-0-is at c.in-Err-Short.ensures.missed)

pub returns-in-Err-clause-missed : goal.returns-in-Err-clause-missed
returns-in-Err-clause-missed c = border_missed c.args.text.now c.in-Err.miss (rw c.in-Err-Wrong.field-0-is at c.in-Err-Wrong.ensures.missed) c.in-Err.ensures.missed
