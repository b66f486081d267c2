-- The rules of a run of a train, in the judge's order, and the breach that tells each.
use Rattle.std.specs.Prelude.{◌≡◌, ◌+◌, ◌-◌, ◌++◌, ℕ, List, [], ◌∷◌, length, Some, slice_get}
use Rattle.vss_lists.specs.Orders.{OrderRule, rule, rule_of_each, rules_of_each}
use Rattle.cell_net.specs.Runs.{Continues, Enters, Arrives, IsMet}
use Rattle.cell_net.specs.declared.ids.TrainId.{TrainId}
use Rattle.cell_net.specs.declared.plans.Sweep.{Sweep}
use Rattle.cell_net.specs.declared.plans.TrainRun.{TrainRun}
use Rattle.cell_net.specs.declared.trains.StopSpec.{StopSpec}
use Rattle.cell_net.specs.declared.trains.TrainSpec.{TrainSpec}
use Rattle.cell_net.specs.declared.parts.InstanceParts.{InstanceParts}
use Rattle.layout_rules.specs.Faults.{rules_of_cells}
use Rattle.layout_rules.specs.declared.sweeps.SweepFault.{SweepFault}
use Rattle.layout_rules.specs.declared.sweeps.SweepFault.TheVariants as SweepFaults
use Rattle.plan_checker.specs.declared.breach.Breach.{Breach}
use Rattle.plan_checker.specs.declared.breach.Breach.TheVariants as Breaches

-- the sweep goes on from the one before its place, if there is one
abbrev pub GoesOnFromBefore : TrainSpec → List Sweep → ℕ → Sweep → Type 0
GoesOnFromBefore t sweeps place w =
    (before : ℕ) (v : Sweep) → before + 1 ≡ place → slice_get sweeps before ≡ Some v → Continues t v.cells w.cells

-- what stands at the place of a run is a sweep of the train, and goes on from the one before
abbrev pub rules_of_sweep : InstanceParts → TrainId → TrainSpec → TrainRun → ℕ → Sweep → List (OrderRule Breach)
rules_of_sweep p train t r place w =
    rules_of_cells (Breaches.Path train (r.start + place)) (Breaches.Length train (r.start + place)) (Breaches.Speed train (r.start + place)) p t w.cells ++
    rule (Breaches.Join train (r.start + place)) (GoesOnFromBefore t r.sweeps place w) ∷ []

-- the breach that the fault of a sweep is, at a step
abbrev pub breach_of : SweepFault → TrainId → ℕ → Breach
breach_of SweepFaults.Path train step = Breaches.Path train step
breach_of SweepFaults.Length train step = Breaches.Length train step
breach_of SweepFaults.Speed train step = Breaches.Speed train step

-- each sweep of the run keeps its rules
abbrev pub rule_of_sweeps : InstanceParts → TrainId → TrainSpec → TrainRun → OrderRule Breach
rule_of_sweeps p train t r = rules_of_each (rules_of_sweep p train t r) r.sweeps

-- the stop, whatever its place, is met
abbrev pub IsMetAt : InstanceParts → TrainSpec → TrainRun → ℕ → StopSpec → Type 0
IsMetAt p t r place stop = IsMet p t r stop

-- the entry; then the sweeps in turn; then the arrival, told by the step of the last sweep; then the stops
abbrev pub rules_of_run : InstanceParts → TrainId → TrainSpec → TrainRun → List (OrderRule Breach)
rules_of_run p train t r =
    rule (Breaches.Entry train) (Enters t r) ∷
    rule_of_sweeps p train t r ∷
    rule (Breaches.Late train (r.start + length r.sweeps - 1)) (Arrives t r) ∷
    rule_of_each (Breaches.Stop train) (IsMetAt p t r) t.stops ∷ []
