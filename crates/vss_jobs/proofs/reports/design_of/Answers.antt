-- The design of a report, or its fault, is handed on.
use Rattle.std.proofs.Common.{arith}
use Rattle.vss_stages.proofs.StageLaws.{hands_value, hands_refusal, stops_by}
use Rattle.vss_report.specs.DesignFaults.{IsDesignReading}
use Rattle.vss_jobs.specs.Settings.{setting_of}
use Rattle.vss_jobs.specs.Readings.{report_stop, design_job, ReadsDesign}
use Rattle.vss_jobs.proofs.reports.design_of.Goals as goal

pub returns-in-Ok-clause-job : goal.returns-in-Ok-clause-job
returns-in-Ok-clause-job c = record {
  labels = c.args.scene.labelled.are_labels;
  hands_on = hands_value (IsDesignReading c.args.scene.labels c.args.bytes.now) (design_job (setting_of c.args.scene)) report_stop (c.in-Ok.design.0, c.in-Ok.design.1) c.in-Ok.ensures.reading;
}

pub returns-in-Ok-clause-ready : goal.returns-in-Ok-clause-ready
returns-in-Ok-clause-ready c = (c.in-Ok.ensures.layout, c.in-Ok.ensures.runs, λ k d lt. omega (arith, c.requires, c.in-Ok.ensures.short k d lt))

pub returns-in-Err-clause-job : goal.returns-in-Err-clause-job
returns-in-Err-clause-job c =
    rw c.stop_of_report.ensures
    (stops_by (ReadsDesign (setting_of c.args.scene) c.args.bytes.now) (report_stop c.in-Err.fault) (record {
      labels = c.args.scene.labelled.are_labels;
      hands_on = hands_refusal (IsDesignReading c.args.scene.labels c.args.bytes.now) (design_job (setting_of c.args.scene)) report_stop c.in-Err.fault c.in-Err.ensures.reading;
    }))
