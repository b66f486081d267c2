-- Why `step` does what its contract says.
use Rattle.vss_report.proofs.KindLemmas.{no_step, no_step_end, step_found}
use Rattle.vss_report.proofs.line_reader.step.Goals as goal

pub returns-in-Err-clause-missed : goal.returns-in-Err-clause-missed
returns-in-Err-clause-missed c = no_step c.args.text.now c.in-Err.miss c.in-Err.ensures.missed

pub returns-in-Ok-after-clause-found : goal.returns-in-Ok-after-clause-found
returns-in-Ok-after-clause-found c = step_found c.args.text.now c.in-Ok.found.1.now c.in-Ok-after.rest.now c.in-Ok.found.0 c.in-Ok.ensures.found c.in-Ok-after.ensures.found

pub returns-in-Err-after-clause-missed : goal.returns-in-Err-after-clause-missed
returns-in-Err-after-clause-missed c = no_step_end c.args.text.now c.in-Ok.found.1.now c.in-Ok.found.0 c.in-Err-after.miss c.in-Ok.ensures.found c.in-Err-after.ensures.missed
