-- The law of the definitions that the function of `laws.rt` hands to its callers.
use Rattle.std.specs.Prelude.{◌≡◌, List}
use Rattle.cell_net.specs.declared.ids.CandidateId.{CandidateId}
use Rattle.cell_net.specs.declared.plans.Plan.{Plan}
use Rattle.cell_net.specs.declared.parts.InstanceParts.{InstanceParts}
use Rattle.plan_checker.specs.Verdicts.{IsFirstBreach}
use Rattle.plan_checker.specs.declared.breach.Breach.{Breach}

-- under the borders, the plan has one first breach at most: one kind, one train or two, one step, one place
abbrev pub HasOneFirstBreach : InstanceParts → List CandidateId → Plan → Type 0
HasOneFirstBreach p borders plan =
    (one other : Breach) → IsFirstBreach p borders plan one → IsFirstBreach p borders plan other → one ≡ other
