-- What the loop of `+grow` keeps from turn to turn.
use Rattle.std.specs.Prelude.{◌≡◌, ◌≤◌, ◌++◌, ◌-◌, take, length}
use Rattle.std.specs.List.{flat_map}
use Rattle.sweep_table.specs.Growing.{branch, grown}
use Rattle.sweep_table.proofs.grow.+grow.Given as goal

abbrev pub decreases-grow : goal.decreases-grow
decreases-grow l = l.more

-- the path is as it was, and the sweeps over the next ones so far are kept, not too many
abbrev pub invariant-loop-place : goal.invariant-loop-place
invariant-loop-place l = (l.path.items ≡ l.fn.path.items) × (length l.sweeps ≤ 50000) × (l.sweeps ≡ l.fn.sweeps ++
    flat_map (branch l.growth.inst.now l.growth.train l.growth.after.now l.growth.count (grown l.growth.inst.now l.growth.train l.growth.after.now l.growth.count (l.more - 1)) l.fn.path.items) (take l.place l.next))
