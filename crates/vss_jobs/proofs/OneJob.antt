-- Words and told files make one job.
use Rattle.std.proofs.Common.{◌≡◌, ℕ, List, Result, Ok, Err, refl, sym, ap, ◌∙◌}
use Rattle.std.proofs.lemmas.Option.{same_Some}
use Rattle.cell_net.specs.Labelled.{AreLabels}
use Rattle.cell_net.specs.declared.labels.Labels.{Labels}
use Rattle.cell_net.specs.declared.scene.Scene.{Scene}
use Rattle.rail_net.specs.Refusals.{IsNet}
use Rattle.rail_net.specs.declared.parts.NetParts.{NetParts}
use Rattle.net_reader.specs.Laws.{HasOneReading}
use Rattle.net_reader.specs.Readings.{IsReading}
use Rattle.net_reader.specs.declared.refusal.ReadRefusal.TheVariants as net_refusal
use Rattle.timetable.specs.Laws.{HasOneTimeReading}
use Rattle.timetable.specs.Readings.{IsTimeReading}
use Rattle.timetable.specs.declared.parts.Timetable.{Timetable}
use Rattle.timetable.specs.declared.refusal.TimeRefusal.TheVariants as time_refusal
use Rattle.discretise.specs.Laws.{AreAlike, HasOneScene}
use Rattle.discretise.specs.Scenes.{IsSceneOf as IsCut}
use Rattle.discretise.specs.declared.refusal.CutRefusal.{CutRefusal}
use Rattle.discretise.specs.declared.refusal.CutRefusal.TheVariants as grid_refusal
use Rattle.vss_io.specs.Shown.{Files}
use Rattle.vss_stages.specs.Stages.{Then, EndAlike, handed}
use Rattle.vss_stages.specs.declared.stop.Stop.{Stop}
use Rattle.vss_stages.specs.Inputs.{TellsSame}
use Rattle.vss_stages.specs.declared.input.Input.TheVariants as input
use Rattle.vss_stages.specs.declared.stop.Stop.TheVariants as stop
use Rattle.vss_stages.proofs.StageLaws.{then_alike, handed_alike}
use Rattle.vss_stages.proofs.InputLaws.{read_alike}
use Rattle.vss_report.specs.DesignFaults.{IsDesignReading, HasOneDesignReading}
use Rattle.vss_report.specs.Refutations.{IsRefutationReading, HasOneRefutationReading}
use Rattle.vss_report.specs.declared.fault.ReportFault.TheVariants as fault
use Rattle.vss_words.specs.declared.command.Command.{Command}
use Rattle.vss_words.specs.declared.command.Command.TheVariants as asked
use Rattle.vss_words.specs.declared.command.DocumentNames.{DocumentNames}
use Rattle.case_maker.specs.Networks.{network_text}
use Rattle.case_maker.specs.Timetables.{timetable_text}
use Rattle.vss_jobs.proofs.AskedNames.{nothing_asked}
use Rattle.vss_jobs.specs.Asked.{IsCommand}
use Rattle.vss_jobs.specs.declared.job.Search.{Search}
use Rattle.vss_jobs.specs.declared.job.Search.TheVariants as search
use Rattle.vss_jobs.specs.declared.refusal.Refusal.{Refusal}
use Rattle.vss_jobs.specs.Settings.{Setting, setting_of}
use Rattle.vss_jobs.specs.Readings.{network_stop, timetable_stop, grid_stop, report_stop, design_job, refutation_job, Job, searching, making, trying, ReadsNetwork, ReadsTimetable, CutsScene, ReadsDesign, ReadsRefutation}
use Rattle.vss_jobs.specs.Jobs.{ReadsScene, IsSettingOf, IsSettingOfTexts, IsSearchJob, IsJobOf, IsJob}

command_alike : (words : List (List ℕ)) → EndAlike (IsCommand words) (IsCommand words)
command_alike words (Ok a) (Ok b) settled also one other = ap (λ (c : Command). Ok c) (same_Some a b (sym one ∙ other))
command_alike words (Ok a) (Err stop.Usage) settled also one other = absurd (nothing_asked a (sym other ∙ one))
command_alike words (Err stop.Usage) (Ok b) settled also one other = absurd (nothing_asked b (sym one ∙ other))
command_alike words (Err stop.Usage) (Err stop.Usage) settled also one other = refl
command_alike words (Err stop.Memory) s settled also one other = absurd one
command_alike words (Err (stop.ReadFault i)) s settled also one other = absurd one
command_alike words (Err (stop.TooLong i)) s settled also one other = absurd one
command_alike words (Err (stop.Refused w)) s settled also one other = absurd one
command_alike words r (Err stop.Memory) settled also one other = absurd other
command_alike words r (Err (stop.ReadFault i)) settled also one other = absurd other
command_alike words r (Err (stop.TooLong i)) settled also one other = absurd other
command_alike words r (Err (stop.Refused w)) settled also one other = absurd other

-- the laws of the readers
pub record ReadingsAreOne : Type 0 where
  pub networks : (bytes : List ℕ) → HasOneReading bytes
  pub timetables : (net : NetParts) (bytes : List ℕ) → IsNet net → HasOneTimeReading net bytes
  pub scenes : (net : NetParts) (timetable : Timetable) → HasOneScene net timetable
  pub refutations : (bytes : List ℕ) → HasOneRefutationReading bytes
  pub designs : (labels : Labels) (bytes : List ℕ) → AreLabels labels → HasOneDesignReading labels bytes

network_alike : ReadingsAreOne → (bytes : List ℕ) → EndAlike (ReadsNetwork bytes) (ReadsNetwork bytes)
network_alike law bytes =
    handed_alike (IsReading bytes) (λ (parts : NetParts). parts) network_stop net_refusal.Memory refl
    (λ r s one other is has. ap (handed (λ (parts : NetParts). parts) network_stop) (law.networks bytes r s one other is has))

timetable_alike : ReadingsAreOne → (net : NetParts) (bytes : List ℕ) → EndAlike (ReadsTimetable net bytes) (ReadsTimetable net bytes)
timetable_alike law net bytes = λ r s settled also one other.
    handed_alike (IsTimeReading net bytes) (λ (t : Timetable). t) timetable_stop time_refusal.Memory refl
    (λ a b first second is has. ap (handed (λ (t : Timetable). t) timetable_stop) (law.timetables net bytes one.is_net a b first second is has))
    r s settled also one.hands_on other.hands_on

-- scenes of one instance and labels are one setting
same_setting : (a b : Result Scene CutRefusal) → AreAlike a b → handed setting_of grid_stop a ≡ handed setting_of grid_stop b
same_setting (Ok s) (Ok t) same = λ i. Ok (record { parts = same.0 i; labels = same.1 i })
same_setting (Err e) (Err f) same = ap (λ (w : CutRefusal). Err (grid_stop w)) same
same_setting (Ok s) (Err f) same = absurd same
same_setting (Err e) (Ok t) same = absurd same

cut_alike : ReadingsAreOne → (net : NetParts) (timetable : Timetable) → EndAlike (CutsScene net timetable) (CutsScene net timetable)
cut_alike law net timetable = λ r s settled also one other.
    handed_alike (IsCut net timetable) setting_of grid_stop grid_refusal.Memory refl
    (λ a b first second is has. same_setting a b (law.scenes net timetable one.is_net a b first second is has))
    r s settled also one.hands_on other.hands_on

scene_alike : ReadingsAreOne → (net : NetParts) (bytes : List ℕ) → EndAlike (ReadsScene net bytes) (ReadsScene net bytes)
scene_alike law net bytes = then_alike _ _ _ _ (timetable_alike law net bytes) (cut_alike law net)

design_alike : ReadingsAreOne → (setting : Setting) (bytes : List ℕ) → EndAlike (ReadsDesign setting bytes) (ReadsDesign setting bytes)
design_alike law setting bytes = λ r s settled also one other.
    handed_alike (IsDesignReading setting.labels bytes) (design_job setting) report_stop fault.Memory refl
    (λ a b first second is has. ap (handed (design_job setting) report_stop) (law.designs setting.labels bytes one.labels a b first second is has))
    r s settled also one.hands_on other.hands_on

refutation_alike : ReadingsAreOne → (setting : Setting) (bytes : List ℕ) → EndAlike (ReadsRefutation setting bytes) (ReadsRefutation setting bytes)
refutation_alike law setting bytes =
    handed_alike (IsRefutationReading bytes) (refutation_job setting) report_stop fault.Memory refl
    (λ r s one other is has. ap (handed (refutation_job setting) report_stop) (law.refutations bytes r s one other is has))

setting_alike : ReadingsAreOne → (one other a b : Files) (names : DocumentNames) → TellsSame one other → EndAlike (IsSettingOf one a names) (IsSettingOf other b names)
setting_alike law one other a b names same =
    then_alike _ _ _ _ (then_alike _ _ _ _ (read_alike one other a b input.Network names.network same) (network_alike law))
    (λ n. then_alike _ _ _ _ (read_alike one other a b input.Timetable names.timetable same) (scene_alike law n))

texts_alike : ReadingsAreOne → (network timetable : List ℕ) → EndAlike (IsSettingOfTexts network timetable) (IsSettingOfTexts network timetable)
texts_alike law network timetable = then_alike _ _ _ _ (network_alike law network) (λ n. scene_alike law n timetable)

-- two that are the same end are the same
same_end : (end r s : Result Job (Stop Refusal)) → r ≡ end → s ≡ end → r ≡ s
same_end end r s is has = is ∙ sym has

search_alike : ReadingsAreOne → (one other a b : Files) (names : DocumentNames) (asks : Search) (budget : ℕ) → TellsSame one other
    → EndAlike (Then (IsSettingOf one a names) (IsSearchJob asks budget)) (Then (IsSettingOf other b names) (IsSearchJob asks budget))
search_alike law one other a b names asks budget same =
    then_alike _ _ _ _ (setting_alike law one other a b names same) (λ setting r s settled also is has. same_end (Ok (searching setting asks budget)) r s is has)

job_of_alike : ReadingsAreOne → (one other a b : Files) (c : Command) → TellsSame one other → EndAlike (IsJobOf one a c) (IsJobOf other b c)
job_of_alike law one other a b (asked.Verify documents budget) same = search_alike law one other a b documents search.Verify budget same
job_of_alike law one other a b (asked.Generate documents most budget) same = search_alike law one other a b documents (search.Generate most) budget same
job_of_alike law one other a b (asked.Optimise documents budget) same = search_alike law one other a b documents search.Optimise budget same
job_of_alike law one other a b (asked.Judge documents report) same =
    then_alike _ _ _ _ (setting_alike law one other a b documents same) (λ setting. then_alike _ _ _ _ (read_alike one other a b input.Report report same) (design_alike law setting))
job_of_alike law one other a b (asked.Check documents report) same =
    then_alike _ _ _ _ (setting_alike law one other a b documents same) (λ setting. then_alike _ _ _ _ (read_alike one other a b input.Report report same) (refutation_alike law setting))
job_of_alike law one other a b (asked.Make seed size) same = λ r s settled also is has. same_end (Ok (making (network_text seed size) (timetable_text seed size))) r s is has
job_of_alike law one other a b (asked.Trial seed size budget) same =
    then_alike _ _ _ _ (texts_alike law (network_text seed size) (timetable_text seed size)) (λ setting r s settled also is has. same_end (Ok (trying setting budget)) r s is has)

pub one_job : ReadingsAreOne → (words : List (List ℕ)) (one a other b : Files) → TellsSame one other → EndAlike (IsJob words one a) (IsJob words other b)
one_job law words one a other b same = then_alike _ _ _ _ (command_alike words) (λ c. job_of_alike law one other a b c same)
