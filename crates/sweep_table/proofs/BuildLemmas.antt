-- What was gathered are the train's sweeps, or too many.
use Rattle.std.proofs.Common.{◌≡◌, ◌<◌, ◌+◌, ℕ, List, [], get_or, ap, sym, ◌∙◌, refl, subst, arith}
use Rattle.std.proofs.lemmas.List.Elements.{Contains-get_or}
use Rattle.cell_net.specs.declared.cells.DirCell.{DirCell}
use Rattle.cell_net.specs.declared.trains.TrainSpec.{TrainSpec}
use Rattle.cell_net.specs.declared.parts.InstanceParts.{InstanceParts}
use Rattle.sweep_table.specs.Order.{IsSweepBefore}
use Rattle.sweep_table.specs.Growing.{AreAfter, IsGrowthFault, sweeps_below}
use Rattle.sweep_table.specs.Parts.{IsOfTrain}
use Rattle.sweep_table.specs.Sweeps.{AreSweepsOf, IsTableRefusal}
use Rattle.sweep_table.specs.declared.refusal.TableRefusal.{TableRefusal}
use Rattle.sweep_table.specs.declared.refusal.TableRefusal.TheVariants.{TooManySweeps, Memory}
use Rattle.sweep_table.proofs.OrderLaws.{not_before_itself}
use Rattle.sweep_table.proofs.SweepLaws.{each_sweep, sweeps_rise}

pub is_long : (p : InstanceParts) (t : TrainSpec) → IsOfTrain p t → 0 < t.length
is_long p t of = (of.rules.trains.at_each of.place t of.is).long

pub are_sweeps : (p : InstanceParts) (t : TrainSpec) (after : List (List DirCell)) (advances : ℕ) (sweeps : List (List DirCell)) → IsOfTrain p t → AreAfter p after → advances ≡ t.advance + 1 →
    sweeps ≡ sweeps_below p t.length after advances → AreSweepsOf p t sweeps
are_sweeps p t after advances sweeps of all count is =
    let same : sweeps ≡ sweeps_below p t.length after (t.advance + 1) = is ∙ ap (sweeps_below p t.length after) count in
    subst (AreSweepsOf p t) (sym same) (record { each = λ w. each_sweep p t after w all (is_long p t of); in_order = sweeps_rise p t after (t.advance + 1) all })

pub too_many : (p : InstanceParts) (t : TrainSpec) (after : List (List DirCell)) (advances : ℕ) (refusal : TableRefusal) → IsOfTrain p t → AreAfter p after → advances ≡ t.advance + 1 →
    IsGrowthFault [] (sweeps_below p t.length after advances) refusal → IsTableRefusal p t refusal
too_many p t after advances TooManySweeps of all count many =
    let are = are_sweeps p t after advances (sweeps_below p t.length after advances) of all count refl in
    let sweeps : List (List DirCell) = sweeps_below p t.length after advances in
    record {
      some = sweeps;
      are_sweeps = λ k d h. (are.each (get_or sweeps k d)).0 (Contains-get_or sweeps k d h);
      differ = λ i j d low high same. not_before_itself (get_or sweeps j d) (subst (λ w. IsSweepBefore w (get_or sweeps j d)) same (are.in_order i j d low high));
      many = omega arith;
    }
too_many p t after advances Memory of all count many = tt
