-- What the bytes of files are read as, and how the refusals of readers end a call.
use Rattle.std.specs.Prelude.{ℕ, List, Result}
use Rattle.cell_net.specs.Labelled.{AreLabels}
use Rattle.cell_net.specs.declared.ids.CandidateId.{CandidateId}
use Rattle.cell_net.specs.declared.plans.Plan.{Plan}
use Rattle.rail_net.specs.Refusals.{IsNet}
use Rattle.rail_net.specs.declared.parts.NetParts.{NetParts}
use Rattle.net_reader.specs.Readings.{IsReading}
use Rattle.net_reader.specs.declared.refusal.ReadRefusal.{ReadRefusal}
use Rattle.net_reader.specs.declared.refusal.ReadRefusal.TheVariants as net_refusal
use Rattle.timetable.specs.Readings.{IsTimeReading}
use Rattle.timetable.specs.Timetables.{IsTimetable}
use Rattle.timetable.specs.declared.parts.Timetable.{Timetable}
use Rattle.timetable.specs.declared.refusal.TimeRefusal.{TimeRefusal}
use Rattle.timetable.specs.declared.refusal.TimeRefusal.TheVariants as time_refusal
use Rattle.discretise.specs.Scenes.{IsSceneOf as IsCut}
use Rattle.discretise.specs.declared.refusal.CutRefusal.{CutRefusal}
use Rattle.discretise.specs.declared.refusal.CutRefusal.TheVariants as grid_refusal
use Rattle.derivation_log.specs.declared.step.Refutation.{Refutation}
use Rattle.clause_encoder.specs.declared.task.EncodeRefusal.{EncodeRefusal}
use Rattle.clause_encoder.specs.declared.task.EncodeRefusal.TheVariants as size_refusal
use Rattle.vss_report.specs.DesignFaults.{IsDesignReading}
use Rattle.vss_report.specs.Refutations.{IsRefutationReading}
use Rattle.vss_report.specs.declared.fault.ReportFault.{ReportFault}
use Rattle.vss_report.specs.declared.fault.ReportFault.TheVariants as fault
use Rattle.vss_stages.specs.Stages.{HandsOn}
use Rattle.vss_stages.specs.declared.stop.Stop.{Stop}
use Rattle.vss_stages.specs.declared.stop.Stop.TheVariants.{Refused, Memory}
use Rattle.vss_jobs.specs.Settings.{Setting, setting_of}
use Rattle.vss_jobs.specs.declared.job.Search.{Search}
use Rattle.vss_jobs.specs.declared.refusal.Refusal.{Refusal}
use Rattle.vss_jobs.specs.declared.refusal.Refusal.TheVariants as refusal

-- what a call is to do, with all that it needs: to judge a plan for a layout; to check the refutation that a report has from a
-- line on; to search with a budget of conflicts; to print two texts; to try a made scene with a budget
pub data Job : Type 0 where
  judging : Setting → List CandidateId → Plan → Job
  checking : Setting → Refutation → ℕ → Job
  searching : Setting → Search → ℕ → Job
  making : List ℕ → List ℕ → Job
  trying : Setting → ℕ → Job

-- how the refusals of readers end the call: for want of memory, or refused
abbrev pub network_stop : ReadRefusal → Stop Refusal
network_stop net_refusal.Memory = Memory
network_stop why = Refused (refusal.Network why)

abbrev pub timetable_stop : TimeRefusal → Stop Refusal
timetable_stop time_refusal.Memory = Memory
timetable_stop why = Refused (refusal.Timetable why)

abbrev pub grid_stop : CutRefusal → Stop Refusal
grid_stop grid_refusal.Memory = Memory
grid_stop why = Refused (refusal.Grid why)

abbrev pub report_stop : ReportFault → Stop Refusal
report_stop fault.Memory = Memory
report_stop why = Refused (refusal.Report why)

abbrev pub size_stop : EncodeRefusal → Stop Refusal
size_stop size_refusal.Memory = Memory
size_stop why = Refused (refusal.Sizes why)

-- the bytes are read as a network
abbrev pub ReadsNetwork : List ℕ → Result NetParts (Stop Refusal) → Type 0
ReadsNetwork bytes = HandsOn (IsReading bytes) (λ parts. parts) network_stop

-- the bytes are read as a timetable for the network
pub record ReadsTimetable (net : NetParts) (bytes : List ℕ) (end : Result Timetable (Stop Refusal)) : Type 0 where
  pub is_net : IsNet net
  pub hands_on : HandsOn (IsTimeReading net bytes) (λ timetable. timetable) timetable_stop end

-- network and timetable are cut into a scene
pub record CutsScene (net : NetParts) (timetable : Timetable) (end : Result Setting (Stop Refusal)) : Type 0 where
  pub is_net : IsNet net
  pub is_timetable : IsTimetable net timetable
  pub hands_on : HandsOn (IsCut net timetable) setting_of grid_stop end

-- the job to judge a design
abbrev pub design_job : Setting → List CandidateId × Plan → Job
design_job setting design = judging setting design.0 design.1

-- the bytes are read as the report of a design for the setting, whose labels tell its cells, places and trains apart
pub record ReadsDesign (setting : Setting) (bytes : List ℕ) (end : Result Job (Stop Refusal)) : Type 0 where
  pub labels : AreLabels setting.labels
  pub hands_on : HandsOn (IsDesignReading setting.labels bytes) (design_job setting) report_stop end

-- the job to check a refutation
abbrev pub refutation_job : Setting → Refutation × ℕ → Job
refutation_job setting found = checking setting found.0 found.1

-- the bytes are read as the report of a refutation
abbrev pub ReadsRefutation : Setting → List ℕ → Result Job (Stop Refusal) → Type 0
ReadsRefutation setting bytes = HandsOn (IsRefutationReading bytes) (refutation_job setting) report_stop
