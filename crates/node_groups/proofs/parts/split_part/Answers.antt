-- Why `split_part` does what its contract says.
use Rattle.std.proofs.Common.{arith}
use Rattle.node_groups.proofs.SplitLemmas.{one_group_first, one_group_more, one_group_all, one_group_fails}
use Rattle.node_groups.proofs.parts.split_part.Goals as goal
use Rattle.node_groups.proofs.parts.split_part.Goals.{else-before-end-via-then-before-end+else-groups-before, else-before-end-via-else-before-end}

pub loop-at-init : goal.loop-at-init
loop-at-init c = one_group_first _ _ c.requires.rising

pub loop-at-preserved : goal.loop-at-preserved
loop-at-preserved c = one_group_more _ _ c.requires.rising _ c.loop-at.invariant (omega arith) c.loop-at-test.true
    (λ same. elim c.else-before-end.branch [
      | else-before-end-via-then-before-end+else-groups-before w ↦ w.if-groups-before.false
      | else-before-end-via-else-before-end w ↦ absurd (w.if-before-end.false same)
    ])

pub returns : goal.returns
returns c = one_group_all _ _ c.requires.rising _ c.loop-at.invariant c.loop-at-test.false

pub returns-then-groups-before : goal.returns-then-groups-before
returns-then-groups-before c =
    one_group_fails _ _ c.requires.rising _ c.loop-at.invariant (omega arith) c.loop-at-test.true c.if-before-end.true c.if-groups-before.true
