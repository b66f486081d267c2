-- A plan has one first breach at most, and then it isn't lawful.
use Rattle.std.proofs.Common.{◌≡◌, List, Some, slice_get, ℕ, sym, subst, ◌∙◌}
use Rattle.std.proofs.lemmas.Option.{same_Some}
use Rattle.vss_lists.proofs.OrderLaws.{AreSound, IsSound, not_kept, one_broken, one_place, sound_each, sound_rule, sound_rules}
use Rattle.cell_net.specs.Plans.{IsLawful}
use Rattle.cell_net.specs.declared.ids.CandidateId.{CandidateId}
use Rattle.cell_net.specs.declared.ids.TrainId.{TrainId}
use Rattle.cell_net.specs.declared.plans.Plan.{Plan}
use Rattle.cell_net.specs.declared.plans.TrainRun.{TrainRun}
use Rattle.cell_net.specs.declared.trains.TrainSpec.{TrainSpec}
use Rattle.cell_net.specs.declared.parts.InstanceParts.{InstanceParts}
use Rattle.plan_checker.specs.Laws.{HasOneFirstBreach}
use Rattle.plan_checker.specs.RunRules.{rules_of_run}
use Rattle.plan_checker.specs.Verdicts.{IsFirstBreach, IsHeld, rule_of_clashes, rule_of_kept, rules_of_plan}
use Rattle.plan_checker.specs.declared.breach.Breach.{Breach}
use Rattle.plan_checker.proofs.ClashLaws.{not_apart, one_pair, one_pair_of_cells, one_step}
use Rattle.plan_checker.proofs.JudgingLemmas.{rules_kept}

sound_kept : (p : InstanceParts) (borders : List CandidateId) → IsSound (rule_of_kept p borders)
sound_kept p borders = record {
  excludes = λ breach (place, candidate, is, first, there) kept. first.breaks (kept.at_each place first.item first.is_there);
  one = λ one other (place, candidate, is, first, there) (place', candidate', is', first', there').
      let at : place ≡ place' = one_place (IsHeld borders) p.kept place place' first first' in
      let same : candidate ≡ candidate' = same_Some candidate candidate' (sym (subst (λ (k : ℕ). slice_get p.kept k ≡ Some candidate) at there) ∙ there') in
      cc;
}

sound_run : (p : InstanceParts) (train : TrainId) (t : TrainSpec) (r : TrainRun) → AreSound (rules_of_run p train t r)
sound_run p train t r = (
  sound_rule _ _,
  (
    sound_rules _ _ (λ place w. (sound_rule _ _, (sound_rule _ _, (sound_rule _ _, (sound_rule _ _, tt))))),
    (sound_rule _ _, (sound_each _ _ _, tt)),
  ),
)

same_train : (a b : TrainId) → a.0 ≡ b.0 → a ≡ b
same_train a b same = λ i. record { 0 = same i }

sound_clashes : (p : InstanceParts) (borders : List CandidateId) (runs : List TrainRun) → IsSound (rule_of_clashes p borders runs)
sound_clashes p borders runs = record {
  excludes = λ breach (a, b, step, e, f, is, clash) kept. not_apart p borders runs a.0 b.0 step e f clash (kept step a.0 b.0 clash.in_order);
  one = λ one other (a, b, step, e, f, is, clash) (x, y, s, g, h, is', clash').
      let at : step ≡ s = one_step p borders runs a.0 b.0 step x.0 y.0 s e f g h clash clash' in
      let pair = one_pair p borders runs a.0 b.0 step x.0 y.0 s e f g h clash clash' in
      let cells = one_pair_of_cells p borders runs a.0 b.0 step x.0 y.0 s e f g h clash clash' in
      let first : a ≡ x = same_train a x pair.0 in
      let second : b ≡ y = same_train b y pair.1 in
      let third : e ≡ g = cells.0 in
      let fourth : f ≡ h = cells.1 in
      cc;
}

sound_plan : (p : InstanceParts) (borders : List CandidateId) (plan : Plan) → AreSound (rules_of_plan p borders plan)
sound_plan p borders plan =
    (sound_kept p borders, (sound_rules _ _ (λ place both. sound_run p (record { 0 = place }) both.0 both.1), (sound_clashes p borders plan.runs, tt)))

pub one_first_breach : (p : InstanceParts) (borders : List CandidateId) (plan : Plan) → HasOneFirstBreach p borders plan
one_first_breach p borders plan = one_broken (rules_of_plan p borders plan) (sound_plan p borders plan)

-- a plan with a breach isn't lawful
pub not_lawful : (p : InstanceParts) (borders : List CandidateId) (plan : Plan) (breach : Breach) → IsFirstBreach p borders plan breach → ¬ IsLawful p borders plan
not_lawful p borders plan breach first lawful =
    not_kept (rules_of_plan p borders plan) (sound_plan p borders plan) breach first (rules_kept p borders plan lawful)
