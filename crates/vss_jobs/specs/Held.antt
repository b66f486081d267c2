-- The job that a value of the program holds.
use Rattle.vss_jobs.specs.Settings.{setting_of}
use Rattle.vss_jobs.specs.Readings.{Job, judging, checking, searching, making, trying}
use Rattle.vss_jobs.specs.declared.job.Job.{Job as HeldJob}
use Rattle.vss_jobs.specs.declared.job.Job.TheVariants as held

abbrev pub job_in : HeldJob → Job
job_in (held.Judge scene layout plan) = judging (setting_of scene) layout plan
job_in (held.Check scene refutation line) = checking (setting_of scene) refutation line
job_in (held.Search scene search budget) = searching (setting_of scene) search budget
job_in (held.Make network timetable) = making network timetable
job_in (held.Trial scene budget) = trying (setting_of scene) budget
