-- What the loop of `wired_lits` keeps from turn to turn.
use Rattle.std.proofs.Common.{◌≡◌, ◌∷◌, [], ◌++◌, length, map, take}
use Rattle.gate_tables.specs.Wiring.{at_pin}
use Rattle.gate_tables.proofs.wiring.wired_lits.Given as goal

abbrev pub invariant-loop-place : goal.invariant-loop-place
invariant-loop-place l = (length l.lits ≡ 4) × (take l.place l.lits ≡ map (at_pin (l.inputs ++ l.out ∷ [])) (take l.place l.clause.lits))
