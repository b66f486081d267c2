-- What the loop of `drop_all` keeps from turn to turn.
use Rattle.std.specs.Prelude.{take}
use Rattle.log_checker.specs.Drops.{CanDrop, DropsAlso}
use Rattle.log_checker.proofs.drops.drop_all.Given as goal

-- the clauses up to here could be dropped, and are
abbrev pub invariant-loop-count : goal.invariant-loop-count
invariant-loop-count l = CanDrop l.numbers l.initial.dropped (take l.count l.ids) × DropsAlso l.numbers l.initial.dropped l.dropped (take l.count l.ids)
