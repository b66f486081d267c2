-- A network and a timetable have one scene or one refusal.
use Rattle.std.proofs.Common.{◌≢◌, ap}
use Rattle.std.specs.Prelude.{Result, Ok, Err}
use Rattle.vss_lists.proofs.OrderLaws.{not_kept, one_broken}
use Rattle.cell_net.specs.declared.scene.Scene.{Scene}
use Rattle.rail_net.specs.Refusals.{IsNet}
use Rattle.rail_net.specs.declared.parts.NetParts.{NetParts}
use Rattle.timetable.specs.declared.parts.Timetable.{Timetable}
use Rattle.discretise.specs.Laws.{AreAlike}
use Rattle.discretise.specs.Refusals.{cut_rules}
use Rattle.discretise.specs.Scenes.{IsSceneOf}
use Rattle.discretise.specs.declared.refusal.CutRefusal.{CutRefusal}
use Rattle.discretise.specs.declared.refusal.CutRefusal.TheVariants.{Memory}
use Rattle.discretise.proofs.OneLemmas.{one_scene}
use Rattle.discretise.proofs.RuleLemmas.{sound_cut}
use Rattle.discretise.proofs.laws.scenes_are_one.Goals as goal

alike : (p : NetParts) (t : Timetable) → IsNet p → (one other : Result Scene CutRefusal) → one ≢ Err Memory → other ≢ Err Memory → IsSceneOf p t one → IsSceneOf p t other → AreAlike one other
alike p t net (Ok s) (Ok u) first second is also = one_scene p t s.inst u.inst s.labels u.labels net is.1 also.1
alike p t net (Err e) (Err f) first second is also = one_broken (cut_rules p t) (sound_cut p t) e f (is (λ m. first (ap Err m))) (also (λ m. second (ap Err m)))
alike p t net (Ok s) (Err f) first second is also = not_kept (cut_rules p t) (sound_cut p t) f (also (λ m. second (ap Err m))) is.0
alike p t net (Err e) (Ok u) first second is also = not_kept (cut_rules p t) (sound_cut p t) e (is (λ m. first (ap Err m))) also.0

pub returns : goal.returns
returns c = alike
