-- The verdict on a plan: lawful, or the first breach in the judge's order.
use Rattle.std.specs.Prelude.{◌≡◌, ◌<◌, ℕ, List, [], ◌∷◌, Some, slice_get, Contains}
use Rattle.std.specs.List.{zip}
use Rattle.vss_lists.specs.Breaks.{HoldsOfEach, BreaksFirstAt}
use Rattle.vss_lists.specs.Orders.{IsFirstBroken, OrderRule, rules_of_each}
use Rattle.cell_net.specs.Runs.{IsRun}
use Rattle.cell_net.specs.Plans.{IsLawful}
use Rattle.cell_net.specs.declared.ids.CandidateId.{CandidateId}
use Rattle.cell_net.specs.declared.ids.CellId.{CellId}
use Rattle.cell_net.specs.declared.ids.TrainId.{TrainId}
use Rattle.cell_net.specs.declared.plans.TrainRun.{TrainRun}
use Rattle.cell_net.specs.declared.plans.Plan.{Plan}
use Rattle.cell_net.specs.declared.trains.TrainSpec.{TrainSpec}
use Rattle.cell_net.specs.declared.parts.InstanceParts.{InstanceParts}
use Rattle.plan_checker.specs.Clashes.{AreApartAt, IsFirstClash}
use Rattle.plan_checker.specs.RunRules.{rules_of_run}
use Rattle.plan_checker.specs.declared.breach.Breach.{Breach}
use Rattle.plan_checker.specs.declared.breach.Breach.TheVariants as Breaches
use Rattle.plan_checker.specs.declared.judging.Verdict.{Verdict}
use Rattle.plan_checker.specs.declared.judging.Verdict.TheVariants as Verdicts

-- the layout holds the kept candidate, whatever its place
abbrev pub IsHeld : List CandidateId → ℕ → CandidateId → Type 0
IsHeld borders place kept = Contains borders kept

-- the layout holds every kept candidate; a breach tells the first that it lacks
abbrev pub rule_of_kept : InstanceParts → List CandidateId → OrderRule Breach
rule_of_kept p borders = record {
  kept = HoldsOfEach (IsHeld borders) p.kept;
  told = λ breach. (place : ℕ) × (candidate : CandidateId) × (breach ≡ Breaches.Border candidate) ×
      BreaksFirstAt (IsHeld borders) p.kept place × (slice_get p.kept place ≡ Some candidate);
}

-- each train has its run: each keeps its rules
abbrev pub rule_of_runs : InstanceParts → List TrainRun → OrderRule Breach
rule_of_runs p runs = rules_of_each (λ place both. rules_of_run p (record { 0 = place }) both.0 both.1) (zip p.trains runs)

-- all trains are apart at all steps; a breach tells the first clash
abbrev pub rule_of_clashes : InstanceParts → List CandidateId → List TrainRun → OrderRule Breach
rule_of_clashes p borders runs = record {
  kept = (step x y : ℕ) → x < y → AreApartAt p borders runs step x y;
  told = λ breach. (a : TrainId) × (b : TrainId) × (step : ℕ) × (e : CellId) × (f : CellId) ×
      (breach ≡ Breaches.Apart a b step e f) × IsFirstClash p borders runs a.0 b.0 step e f;
}

-- the rules of a plan under the borders, in their order
abbrev pub rules_of_plan : InstanceParts → List CandidateId → Plan → List (OrderRule Breach)
rules_of_plan p borders plan =
    rule_of_kept p borders ∷ rule_of_runs p plan.runs ∷ rule_of_clashes p borders plan.runs ∷ []

-- the breach tells the first of these rules that is broken
abbrev pub IsFirstBreach : InstanceParts → List CandidateId → Plan → Breach → Type 0
IsFirstBreach p borders plan = IsFirstBroken (rules_of_plan p borders plan)

-- lawful; or a breach, the first, and not lawful
abbrev pub IsPlanVerdict : InstanceParts → List CandidateId → Plan → Verdict → Type 0
IsPlanVerdict p borders plan Verdicts.Lawful = IsLawful p borders plan
IsPlanVerdict p borders plan (Verdicts.Breach breach) = IsFirstBreach p borders plan breach × ¬ IsLawful p borders plan

-- each train before this one has its run
abbrev pub HaveRunsBelow : InstanceParts → List TrainRun → ℕ → Type 0
HaveRunsBelow p runs count = (k : ℕ) (t : TrainSpec) (r : TrainRun) → k < count →
    slice_get p.trains k ≡ Some t → slice_get runs k ≡ Some r → IsRun p t r
