-- Laws of scenes, which the functions of `laws.rt` hand to their callers.
use Rattle.std.specs.Prelude.{◌≡◌, ◌≢◌, Result, Ok, Err}
use Rattle.vss_lists.specs.Orders.{AreKept}
use Rattle.cell_net.specs.Labelled.{AreLabelsOf}
use Rattle.cell_net.specs.Rules.{IsInstance}
use Rattle.cell_net.specs.declared.labels.Labels.{Labels}
use Rattle.cell_net.specs.declared.parts.InstanceParts.{InstanceParts}
use Rattle.cell_net.specs.declared.scene.Scene.{Scene}
use Rattle.rail_net.specs.Refusals.{IsNet}
use Rattle.rail_net.specs.declared.parts.NetParts.{NetParts}
use Rattle.timetable.specs.Timetables.{IsTimetable}
use Rattle.timetable.specs.declared.parts.Timetable.{Timetable}
use Rattle.discretise.specs.Refusals.{cut_rules}
use Rattle.discretise.specs.Scenes.{IsScene, IsSceneOf}
use Rattle.discretise.specs.declared.refusal.CutRefusal.{CutRefusal}
use Rattle.discretise.specs.declared.refusal.CutRefusal.TheVariants.{Memory}

-- where the rules of the grid are kept, the parts of a scene are those of an instance, and its labels are the
-- instance's
abbrev pub MakesInstances : NetParts → Timetable → Type 0
MakesInstances p t =
    IsNet p → IsTimetable p t → AreKept (cut_rules p t) → (i : InstanceParts) (l : Labels) → IsScene p t i l → IsInstance i × AreLabelsOf i l

-- two answers are the same: the same refusal, or the same instance and labels
abbrev pub AreAlike : Result Scene CutRefusal → Result Scene CutRefusal → Type 0
AreAlike (Ok one) (Ok other) = (one.inst ≡ other.inst) × (one.labels ≡ other.labels)
AreAlike (Err one) (Err other) = one ≡ other
AreAlike (Ok one) (Err other) = ⊥
AreAlike (Err one) (Ok other) = ⊥

-- two answers for a network and its timetable, neither of them want of memory, are the same
abbrev pub HasOneScene : NetParts → Timetable → Type 0
HasOneScene p t =
    IsNet p → (one other : Result Scene CutRefusal) → one ≢ Err Memory → other ≢ Err Memory → IsSceneOf p t one → IsSceneOf p t other → AreAlike one other
