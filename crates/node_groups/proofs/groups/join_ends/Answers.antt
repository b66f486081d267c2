-- Why `join_ends` does what its contract says.
use Rattle.std.proofs.Common.{refl, arith}
use Rattle.node_groups.proofs.GroupLemmas.{so_far_first, so_far_apart, so_far_joined, so_far_last}
use Rattle.node_groups.proofs.groups.join_ends.Goals as goal
use Rattle.node_groups.proofs.groups.join_ends.Goals.{then-meet_at, else-meet_at}

pub loop-at-init : goal.loop-at-init
loop-at-init c = so_far_first _ _ _ c.requires.roots

pub loop-at-preserved : goal.loop-at-preserved
loop-at-preserved c = elim c.if-meet_at.branch [
  | then-meet_at w ↦ rw w.parents-is
      (so_far_joined _ _ _ _ _ _ _ c.loop-at.invariant (omega arith) c.loop-at-test.true (w.if-meet_at.ensures.0 refl) w.join.ensures.forest w.join.ensures.adds)
  | else-meet_at w ↦ rw w.parents-is
      (so_far_apart _ _ _ _ _ _ c.loop-at.invariant (omega arith) c.loop-at-test.true w.if-meet_at.ensures.1)
]

pub returns-clause-joined : goal.returns-clause-joined
returns-clause-joined c = so_far_last _ _ _ _ c.loop-at.invariant c.loop-at-test.false c.requires.order
