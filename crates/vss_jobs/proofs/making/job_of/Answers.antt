-- The job of the command that the words ask for.
use Rattle.std.proofs.Common.{refl}
use Rattle.vss_stages.specs.Stages.{stops}
use Rattle.vss_stages.specs.declared.stop.Stop.TheVariants.{Usage}
use Rattle.vss_stages.proofs.StageLaws.{then_ends}
use Rattle.vss_jobs.proofs.AskedNames.{names_task}
use Rattle.vss_jobs.proofs.making.job_of.Goals as goal

pub returns-in-Ok-clause-kept : goal.returns-in-Ok-clause-kept
returns-in-Ok-clause-kept g c = rw c.in-Ok.ensures.asked c.job_for.ensures.kept

pub returns-in-Ok-clause-job : goal.returns-in-Ok-clause-job
returns-in-Ok-clause-job g c = then_ends _ _ _ c.in-Ok.asked _ c.in-Ok.ensures.asked c.job_for.ensures.job

pub returns-in-Ok-clause-memory : goal.returns-in-Ok-clause-memory
returns-in-Ok-clause-memory g c = λ lacks. names_task _ c.in-Ok.asked c.in-Ok.ensures.asked

pub returns-in-Err-NotTaken-clause-job : goal.returns-in-Err-NotTaken-clause-job
returns-in-Err-NotTaken-clause-job g c = stops Usage (rw c.in-Err-NotTaken.field-0-is at c.in-Err-NotTaken.ensures.asked) refl
