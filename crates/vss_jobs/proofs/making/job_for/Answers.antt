-- The job of a trial.
use Rattle.vss_jobs.proofs.making.job_for.Goals as goal

pub returns-in-Trial-clause-job : goal.returns-in-Trial-clause-job
returns-in-Trial-clause-job g c = rw c.in-Trial.is c.trying_case.ensures.job
