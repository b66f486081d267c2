-- The stages of a job hold of what the shelf shows later, too.
use Rattle.std.proofs.Common.{ℕ, List}
use Rattle.vss_stages.specs.Inputs.{IsRead}
use Rattle.vss_stages.specs.declared.input.Input.TheVariants.{Network, Timetable}
use Rattle.vss_stages.proofs.StageLaws.{then_maps}
use Rattle.vss_stages.proofs.InputLaws.{IsLasting, read_lasts, then_file_lasts}
use Rattle.vss_words.specs.declared.command.DocumentNames.{DocumentNames}
use Rattle.vss_jobs.specs.Readings.{ReadsNetwork}
use Rattle.vss_jobs.specs.Jobs.{ReadsScene, IsNetworkOf, IsSettingOf}

pub network_lasts : (name : List ℕ) → IsLasting (λ before after. IsNetworkOf before after name)
network_lasts name before after later since =
    then_maps (IsRead before after Network name) (IsRead before later Network name) ReadsNetwork ReadsNetwork (read_lasts Network name before after later since) (λ bytes r is. is)

pub scene_lasts : (names : DocumentNames) → IsLasting (λ before after. IsSettingOf before after names)
scene_lasts names = then_file_lasts (λ before after. IsNetworkOf before after names.network) Timetable names.timetable ReadsScene (network_lasts names.network)
