-- Why `flatten` does what its contract says.
use Rattle.std.proofs.Common.{arith}
use Rattle.node_groups.proofs.ForestLaws.{JoinsAlike-refl, JoinsAlike-trans, flat_more}
use Rattle.node_groups.proofs.forest.flatten.Goals as goal

pub loop-item-init : goal.loop-item-init
loop-item-init c = record { forest = c.requires.forest; alike = JoinsAlike-refl _; flat = λ k h. absurd (omega arith) }

pub loop-item-preserved : goal.loop-item-preserved
loop-item-preserved c =
    let before = c.loop-item.invariant in
    let lifted = c.lift.ensures in
    record { forest = lifted.forest; alike = JoinsAlike-trans _ _ _ before.alike lifted.joined; flat = flat_more _ _ _ _ before.forest lifted.lifted lifted.grandparent lifted.roots (omega arith) before.flat }
