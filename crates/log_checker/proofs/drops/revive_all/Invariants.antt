-- What the loop of `revive_all` keeps from turn to turn.
use Rattle.std.specs.Prelude.{take}
use Rattle.log_checker.specs.Drops.{Revives}
use Rattle.log_checker.proofs.drops.revive_all.Given as goal

-- the clauses up to here are revived
abbrev pub invariant-loop-id : goal.invariant-loop-id
invariant-loop-id l = Revives l.numbers l.initial.dropped l.dropped (take l.id-index l.ids)
