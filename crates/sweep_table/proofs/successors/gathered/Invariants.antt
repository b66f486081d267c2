-- What the loop of `gathered` keeps from turn to turn.
use Rattle.std.specs.Prelude.{take}
use Rattle.sweep_table.specs.Successions.{AreSuccessorLists}
use Rattle.sweep_table.proofs.successors.gathered.Given as goal

abbrev pub invariant-loop-place : goal.invariant-loop-place
invariant-loop-place l = AreSuccessorLists (take l.place l.successions) l.count l.lists.items
