-- What the loop of `sweeps_of` keeps: the sweeps of the items so far.
use Rattle.std.specs.Prelude.{◌≡◌, map, take}
use Rattle.plan_laws.specs.Chains.{sweep_of}
use Rattle.plan_decoder.proofs.run.sweeps_of.Given as goal

abbrev pub invariant-loop-place : goal.invariant-loop-place
invariant-loop-place g l = l.sweeps.items ≡ map (sweep_of (g.M.Moves.table l.table l.inst)) (take l.place l.items)
