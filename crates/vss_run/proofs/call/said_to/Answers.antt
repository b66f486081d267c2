-- The answer follows the job.
use Rattle.std.proofs.Common.{map, string_bytes}
use Rattle.vss_stages.proofs.StageLaws.{then_ends, then_stops}
use Rattle.vss_jobs.specs.Held.{job_in}
use Rattle.vss_run.proofs.Calls.{named_by_job}
use Rattle.vss_run.proofs.call.said_to.Goals as goal

pub returns-in-Ok-clause-right : goal.returns-in-Ok-clause-right
returns-in-Ok-clause-right g c = then_ends _ _ _ (job_in c.in-Ok.job) _ c.in-Ok.ensures.job c.answer_to.ensures

pub returns-in-Err-clause-right : goal.returns-in-Err-clause-right
returns-in-Err-clause-right g c = then_stops _ _ _ c.in-Err.ensures.job

pub returns-in-Ok-clause-memory : goal.returns-in-Ok-clause-memory
returns-in-Ok-clause-memory g c = λ lacks. named_by_job (map string_bytes c.args.words.now) (g.H.Shelf.shown c.args.shelf.now) (g.H.Shelf.shown c.job_of.new.shelf) (job_in c.in-Ok.job) c.in-Ok.ensures.job
