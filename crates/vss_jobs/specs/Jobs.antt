-- The job that words and files make: stages in a row.
use Rattle.std.specs.Prelude.{◌≡◌, ◌<◌, ◌≤◌, ◌^◌, ℕ, List, length, All, Result, Ok}
use Rattle.case_maker.specs.Networks.{network_text}
use Rattle.case_maker.specs.Timetables.{timetable_text}
use Rattle.cell_net.specs.Borders.{IsBorderSet}
use Rattle.rail_net.specs.declared.parts.NetParts.{NetParts}
use Rattle.vss_io.specs.Shown.{Files}
use Rattle.vss_stages.specs.Stages.{Then}
use Rattle.vss_stages.specs.Inputs.{IsRead, ThenFile}
use Rattle.vss_stages.specs.declared.input.Input.TheVariants.{Network, Timetable, Report}
use Rattle.vss_stages.specs.declared.stop.Stop.{Stop}
use Rattle.vss_words.specs.Commands.{IsBudget}
use Rattle.vss_words.specs.declared.command.Command.{Command}
use Rattle.vss_words.specs.declared.command.Command.TheVariants as asked
use Rattle.vss_words.specs.declared.command.DocumentNames.{DocumentNames}
use Rattle.vss_jobs.specs.Asked.{IsCommand}
use Rattle.vss_jobs.specs.Settings.{Setting}
use Rattle.vss_jobs.specs.Readings.{Job, judging, checking, searching, making, trying, ReadsNetwork, ReadsTimetable, CutsScene, ReadsDesign, ReadsRefutation}
use Rattle.vss_jobs.specs.declared.job.Search.{Search}
use Rattle.vss_jobs.specs.declared.job.Search.TheVariants as search
use Rattle.vss_jobs.specs.declared.refusal.Refusal.{Refusal}

-- the network: its file, then what its bytes are read as
abbrev pub IsNetworkOf : Files → Files → List ℕ → Result NetParts (Stop Refusal) → Type 0
IsNetworkOf before after name = Then (IsRead before after Network name) ReadsNetwork

-- the bytes of a timetable make a scene with the network: they are read, and then both are cut
abbrev pub ReadsScene : NetParts → List ℕ → Result Setting (Stop Refusal) → Type 0
ReadsScene net bytes = Then (ReadsTimetable net bytes) (CutsScene net)

-- the scene of both documents: the network is accepted before the timetable's file is read
abbrev pub IsSettingOf : Files → Files → DocumentNames → Result Setting (Stop Refusal) → Type 0
IsSettingOf before after names = ThenFile (λ from to. IsNetworkOf from to names.network) before after Timetable names.timetable ReadsScene

-- the scene of two texts
abbrev pub IsSettingOfTexts : List ℕ → List ℕ → Result Setting (Stop Refusal) → Type 0
IsSettingOfTexts network timetable = Then (ReadsNetwork network) (λ net. ReadsScene net timetable)

-- the scene is to be searched
abbrev pub IsSearchJob : Search → ℕ → Setting → Result Job (Stop Refusal) → Type 0
IsSearchJob search budget setting end = end ≡ Ok (searching setting search budget)

-- the documents of a made case are to be printed
abbrev pub IsCaseJob : ℕ → ℕ → Result Job (Stop Refusal) → Type 0
IsCaseJob seed size end = end ≡ Ok (making (network_text seed size) (timetable_text seed size))

-- the fewest borders are to be found for a scene
abbrev pub IsTrial : ℕ → Setting → Result Job (Stop Refusal) → Type 0
IsTrial budget setting end = end ≡ Ok (trying setting budget)

-- the same for that of a made case
abbrev pub IsTrialJob : ℕ → ℕ → ℕ → Result Job (Stop Refusal) → Type 0
IsTrialJob seed size budget = Then (IsSettingOfTexts (network_text seed size) (timetable_text seed size)) (IsTrial budget)

-- the job of a command: both documents are accepted before another file is read
abbrev pub IsJobOf : Files → Files → Command → Result Job (Stop Refusal) → Type 0
IsJobOf before after (asked.Verify documents budget) = Then (IsSettingOf before after documents) (IsSearchJob search.Verify budget)
IsJobOf before after (asked.Generate documents most budget) = Then (IsSettingOf before after documents) (IsSearchJob (search.Generate most) budget)
IsJobOf before after (asked.Optimise documents budget) = Then (IsSettingOf before after documents) (IsSearchJob search.Optimise budget)
IsJobOf before after (asked.Judge documents report) = ThenFile (λ from to. IsSettingOf from to documents) before after Report report ReadsDesign
IsJobOf before after (asked.Check documents report) = ThenFile (λ from to. IsSettingOf from to documents) before after Report report ReadsRefutation
IsJobOf before after (asked.Make seed size) = IsCaseJob seed size
IsJobOf before after (asked.Trial seed size budget) = IsTrialJob seed size budget

-- the job that the words ask for and the files make, with what the shelf shows before the call and after it
abbrev pub IsJob : List (List ℕ) → Files → Files → Result Job (Stop Refusal) → Type 0
IsJob words before after = Then (IsCommand words) (IsJobOf before after)

-- what the tasks ask of their job
abbrev pub IsReadyJob : Job → Type 0
IsReadyJob (judging setting borders plan) =
    IsBorderSet setting.parts borders × (length plan.runs ≡ length setting.parts.trains) × All (λ r. length r.sweeps < 2000000000) plan.runs
IsReadyJob (checking setting refutation line) = (length refutation.log.steps ≤ 2 ^ 30) × (line ≤ 2 ^ 30)
IsReadyJob (searching setting search budget) = IsBudget budget
IsReadyJob (making network timetable) = Unit {0}
IsReadyJob (trying setting budget) = IsBudget budget
