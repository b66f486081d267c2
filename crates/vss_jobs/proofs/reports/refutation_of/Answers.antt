-- The refutation of a report, or its fault, is handed on.
use Rattle.std.proofs.Common.{arith}
use Rattle.vss_stages.proofs.StageLaws.{hands_value, hands_refusal, stops_by}
use Rattle.vss_report.specs.Refutations.{IsRefutationReading}
use Rattle.vss_jobs.specs.Settings.{setting_of}
use Rattle.vss_jobs.specs.Readings.{report_stop, refutation_job, ReadsRefutation}
use Rattle.vss_jobs.proofs.reports.refutation_of.Goals as goal

pub returns-in-Ok-clause-job : goal.returns-in-Ok-clause-job
returns-in-Ok-clause-job c =
    hands_value (IsRefutationReading c.args.bytes.now) (refutation_job (setting_of c.args.scene)) report_stop (c.in-Ok.found.0, c.in-Ok.found.1) c.in-Ok.ensures.reading

pub returns-in-Ok-clause-ready : goal.returns-in-Ok-clause-ready
returns-in-Ok-clause-ready c = (omega (arith, c.requires, c.in-Ok.ensures.short), omega (arith, c.requires, c.in-Ok.ensures.line))

pub returns-in-Err-clause-job : goal.returns-in-Err-clause-job
returns-in-Err-clause-job c =
    rw c.stop_of_report.ensures
    (stops_by (ReadsRefutation (setting_of c.args.scene) c.args.bytes.now) (report_stop c.in-Err.fault)
    (hands_refusal (IsRefutationReading c.args.bytes.now) (refutation_job (setting_of c.args.scene)) report_stop c.in-Err.fault c.in-Err.ensures.reading))
