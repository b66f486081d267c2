-- A refusal excludes the good case, and every other refusal.
use Rattle.std.proofs.Common.{List, refl}
use Rattle.vss_lists.specs.Orders.{AreKept}
use Rattle.vss_lists.proofs.OrderLaws.{AreSound, not_kept, one_broken, sound_each, sound_numbers, sound_rule}
use Rattle.cell_net.specs.Rules.{IsInstance}
use Rattle.cell_net.specs.Refusals.{rules_of, rules_of_borders}
use Rattle.cell_net.specs.Laws.{HasOneLayoutRefusal, HasOneRefusal, RefusesNoInstance, RefusesNoLayout}
use Rattle.cell_net.specs.declared.ids.CandidateId.{CandidateId}
use Rattle.cell_net.specs.declared.build.BuildRefusal.TheVariants.{Memory}
use Rattle.cell_net.specs.declared.parts.InstanceParts.{InstanceParts}

sound_rules_of : (p : InstanceParts) → AreSound (rules_of p)
sound_rules_of p = (
  sound_rule _ _,
  (sound_each _ _ _, (sound_each _ _ _, (sound_numbers _ _ _, (sound_each _ _ _, (sound_each _ _ _, (sound_each _ _ _, (sound_each _ _ _, tt))))))),
)

-- an instance keeps the rules
rules_kept : (p : InstanceParts) → IsInstance p → AreKept (rules_of p)
rules_kept p good = (good.steps, (good.cells, (good.joins, (good.sections, (good.candidates, (good.kept, (good.stations, (good.trains, tt))))))))

pub refuses_no_instance : (p : InstanceParts) → RefusesNoInstance p
refuses_no_instance p Memory other told good = other refl
refuses_no_instance p refusal other told good = not_kept (rules_of p) (sound_rules_of p) refusal told (rules_kept p good)

pub one_refusal : (p : InstanceParts) → HasOneRefusal p
one_refusal p Memory s other other' first second = absurd (other refl)
one_refusal p r Memory other other' first second = absurd (other' refl)
one_refusal p r s other other' first second = one_broken (rules_of p) (sound_rules_of p) r s first second

sound_rules_of_borders : (p : InstanceParts) (borders : List CandidateId) → AreSound (rules_of_borders p borders)
sound_rules_of_borders p borders = (sound_each _ _ _, (sound_each _ _ _, tt))

pub refuses_no_layout : (p : InstanceParts) (borders : List CandidateId) → RefusesNoLayout p borders
refuses_no_layout p borders refusal told good =
    not_kept (rules_of_borders p borders) (sound_rules_of_borders p borders) refusal told (good.rising, (good.in_range, tt))

pub one_layout_refusal : (p : InstanceParts) (borders : List CandidateId) → HasOneLayoutRefusal p borders
one_layout_refusal p borders = one_broken (rules_of_borders p borders) (sound_rules_of_borders p borders)
