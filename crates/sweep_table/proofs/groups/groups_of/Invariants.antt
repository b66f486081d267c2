-- What the loop of `groups_of` keeps from turn to turn.
use Rattle.sweep_table.specs.Groups.{AreGroupsBelow}
use Rattle.sweep_table.proofs.groups.groups_of.Given as goal

abbrev pub invariant-loop-place : goal.invariant-loop-place
invariant-loop-place l = AreGroupsBelow l.keys l.place l.groups.items
