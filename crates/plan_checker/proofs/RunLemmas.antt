-- On the breaches of sweeps.
use Rattle.std.proofs.Common.{◌+◌, ℕ, zero, suc, ap}
use Rattle.vss_lists.specs.Orders.{AreKept, IsFirstBroken}
use Rattle.cell_net.specs.Runs.{IsSweep}
use Rattle.cell_net.specs.declared.ids.TrainId.{TrainId}
use Rattle.cell_net.specs.declared.plans.Sweep.{Sweep}
use Rattle.cell_net.specs.declared.plans.TrainRun.{TrainRun}
use Rattle.cell_net.specs.declared.trains.TrainSpec.{TrainSpec}
use Rattle.cell_net.specs.declared.parts.InstanceParts.{InstanceParts}
use Rattle.layout_rules.specs.Faults.{IsSweepFaultOf}
use Rattle.layout_rules.specs.declared.sweeps.SweepFault.{SweepFault}
use Rattle.plan_checker.specs.RunRules.{GoesOnFromBefore, breach_of, rules_of_sweep}

-- the fault of a sweep is its breach
pub fault_is_breach : (p : InstanceParts) (train : TrainId) (t : TrainSpec) (r : TrainRun) (place : ℕ) (w : Sweep) (fault : SweepFault) →
    IsSweepFaultOf p t w.cells fault → IsFirstBroken (rules_of_sweep p train t r place w) (breach_of fault train (r.start + place))
unfolding IsFirstBroken
fault_is_breach p train t r place w fault (zero, (is, bad)) = (0, (ap (λ (f : SweepFault). breach_of f train (r.start + place)) is, bad))
fault_is_breach p train t r place w fault (suc zero, (path, (is, bad))) = (1, (path, (ap (λ (f : SweepFault). breach_of f train (r.start + place)) is, bad)))
fault_is_breach p train t r place w fault (suc (suc zero), (path, (long, (is, bad)))) =
    (2, (path, (long, (ap (λ (f : SweepFault). breach_of f train (r.start + place)) is, bad))))
fault_is_breach p train t r place w fault (suc (suc (suc n)), (path, (long, (slow, never)))) = absurd never

-- a sweep that goes on keeps its rules
pub sweep_kept : (p : InstanceParts) (train : TrainId) (t : TrainSpec) (r : TrainRun) (place : ℕ) (w : Sweep) →
    IsSweep p t w.cells → GoesOnFromBefore t r.sweeps place w → AreKept (rules_of_sweep p train t r place w)
sweep_kept p train t r place w sweep goes_on = (sweep.path, (sweep.long_enough, (sweep.slow_enough, (goes_on, tt))))
