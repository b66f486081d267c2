-- The scene of accepted documents was cut of a network and a timetable.
use Rattle.std.proofs.Common.{◌≡◌, Result, Ok, Err}
use Rattle.cell_net.specs.declared.scene.Scene.{Scene}
use Rattle.rail_net.specs.Refusals.{IsNet}
use Rattle.rail_net.specs.declared.parts.NetParts.{NetParts}
use Rattle.timetable.specs.Timetables.{IsTimetable}
use Rattle.timetable.specs.declared.parts.Timetable.{Timetable}
use Rattle.discretise.specs.Scenes.{IsSceneOf as IsCut}
use Rattle.discretise.specs.declared.refusal.CutRefusal.{CutRefusal}
use Rattle.vss_io.specs.Shown.{Files}
use Rattle.vss_stages.specs.Stages.{Then, goes_on, stops, handed}
use Rattle.vss_stages.specs.Inputs.{IsRead}
use Rattle.vss_stages.specs.declared.input.Input.TheVariants as input
use Rattle.vss_stages.specs.declared.stop.Stop.{Stop}
use Rattle.vss_words.specs.declared.command.DocumentNames.{DocumentNames}
use Rattle.vss_jobs.specs.Jobs.{ReadsScene, IsNetworkOf, IsSettingOf}
use Rattle.vss_jobs.specs.Readings.{grid_stop, ReadsTimetable, CutsScene}
use Rattle.vss_jobs.specs.Settings.{Setting, setting_of}
use Rattle.vss_jobs.specs.declared.refusal.Refusal.{Refusal}

-- the setting is that of the scene into which some network and its timetable are cut
pub record IsMadeSetting (setting : Setting) : Type 0 where
  pub net : NetParts
  pub timetable : Timetable
  pub scene : Scene
  pub is_net : IsNet net
  pub is_timetable : IsTimetable net timetable
  pub cut : IsCut net timetable (Ok scene)
  pub is : setting ≡ setting_of scene

abbrev ok_end : (Y : Type 0) → Y → Result Y (Stop Refusal)
ok_end Y y = Ok y

abbrev err_end : (Y : Type 0) → Stop Refusal → Result Y (Stop Refusal)
err_end Y why = Err why

never : (Y : Type 0) (y : Y) (why : Stop Refusal) → ok_end Y y ≡ err_end Y why → ⊥
never Y y why same = cc

-- a row that ends with a value went through a value of its first stage
value_of : {X Y : Type 0} (first : Result X (Stop Refusal) → Type 0) (next : X → Result Y (Stop Refusal) → Type 0) (y : Y) → Then first next (Ok y) → (x : X) × first (Ok x) × next x (Ok y)
value_of first next y (goes_on x is ends) = (x, is, ends)
value_of {X} {Y} first next y (stops why is same) = absurd (never Y y why same)

same_setting : (a b : Setting) → ok_end Setting a ≡ ok_end Setting b → a ≡ b
same_setting a b same = cc

cut_of : (net : NetParts) (timetable : Timetable) (setting : Setting) (answer : Result Scene CutRefusal) → IsNet net → IsTimetable net timetable → IsCut net timetable answer
    → ok_end Setting setting ≡ handed setting_of grid_stop answer → IsMadeSetting setting
cut_of net timetable setting (Ok scene) is_net is_timetable is same = record {
  net = net;
  timetable = timetable;
  scene = scene;
  is_net = is_net;
  is_timetable = is_timetable;
  cut = is;
  is = same_setting setting (setting_of scene) same;
}
cut_of net timetable setting (Err why) is_net is_timetable is same = absurd (never Setting setting (grid_stop why) same)

pub made : (files after : Files) (documents : DocumentNames) (setting : Setting) → IsSettingOf files after documents (Ok setting) → IsMadeSetting setting
made files after documents setting is =
    let (net, read, rest) = value_of (IsNetworkOf files after documents.network) (λ n. Then (IsRead files after input.Timetable documents.timetable) (ReadsScene n)) setting is in
    let (bytes, told, scenes) = value_of (IsRead files after input.Timetable documents.timetable) (ReadsScene net) setting rest in
    let (timetable, reads, cuts) = value_of (ReadsTimetable net bytes) (CutsScene net) setting scenes in
    cut_of net timetable setting cuts.hands_on.answer cuts.is_net cuts.is_timetable cuts.hands_on.reads_so cuts.hands_on.end_is
