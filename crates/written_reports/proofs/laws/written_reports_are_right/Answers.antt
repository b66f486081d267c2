-- Written reports are read back, and what they tell is so.
use Rattle.written_reports.proofs.Told.{designs_are_lawful, refutations_are_proved}
use Rattle.written_reports.proofs.laws.written_reports_are_right.Goals as goal

pub returns-clause-judged : goal.returns-clause-judged
returns-clause-judged c = designs_are_lawful (record { designs = c.written_designs_are_read_back.ensures; refutations = c.written_refutations_are_read_back.ensures })

pub returns-clause-checked : goal.returns-clause-checked
returns-clause-checked c = refutations_are_proved (record { designs = c.written_designs_are_read_back.ensures; refutations = c.written_refutations_are_read_back.ensures })
