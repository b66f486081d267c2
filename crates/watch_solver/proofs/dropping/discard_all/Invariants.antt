-- What the loop of `discard_all` keeps from turn to turn.
use Rattle.std.specs.Prelude.{take}
use Rattle.watch_solver.proofs.DropLemmas.{AreGone}
use Rattle.watch_solver.proofs.dropping.discard_all.Given as goal

abbrev pub invariant-ids : goal.invariant-ids
invariant-ids l = AreGone l.initial.store l.store l.trail (take l.id-index l.ids)
