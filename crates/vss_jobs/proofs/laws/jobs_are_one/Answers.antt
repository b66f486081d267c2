-- Words and told files make one job, by the laws of the readers.
use Rattle.vss_jobs.proofs.OneJob.{one_job}
use Rattle.vss_jobs.proofs.laws.jobs_are_one.Goals as goal

pub returns : goal.returns
returns c = one_job (record {
  networks = c.network_readings_are_one.ensures;
  timetables = c.timetable_readings_are_one.ensures;
  scenes = c.scenes_are_one.ensures;
  refutations = c.refutation_readings_are_one.ensures;
  designs = c.design_readings_are_one.ensures;
})
