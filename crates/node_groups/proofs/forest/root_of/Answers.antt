-- Why `root_of` does what its contract says.
use Rattle.std.proofs.Common.{arith}
use Rattle.node_groups.proofs.ForestLaws.{Joined-refl, JoinsAlike-refl, JoinsAlike-trans, joined_up}
use Rattle.node_groups.proofs.forest.root_of.Goals as goal

pub loop-parents-init : goal.loop-parents-init
loop-parents-init c = record {
  forest = c.requires.forest;
  within = c.requires.within;
  alike = JoinsAlike-refl _;
  roots = λ k h. h;
  reached = Joined-refl _ _;
}

pub loop-parents-preserved : goal.loop-parents-preserved
loop-parents-preserved c =
    let before = c.loop-parents.invariant in
    let lifted = c.lift-at.ensures in
    record {
      forest = lifted.forest;
      within = omega (arith, before.forest c.loop-parents.at before.within);
      alike = JoinsAlike-trans _ _ _ before.alike lifted.joined;
      roots = λ k h. lifted.roots k (before.roots k h);
      reached = joined_up _ _ _ _ _ lifted.joined lifted.lifted before.within before.reached;
    }
