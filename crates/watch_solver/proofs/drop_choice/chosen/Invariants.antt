-- What the loop of `chosen` keeps from turn to turn.
use Rattle.std.specs.Prelude.{◌≤◌}
use Rattle.watch_solver.proofs.DropLemmas.{AreChosenTo}
use Rattle.watch_solver.proofs.drop_choice.chosen.Given as goal

abbrev pub invariant-numbers : goal.invariant-numbers
invariant-numbers l = AreChosenTo l.state.store.live l.state.trail.entries l.state.given l.ids.items l.number × (l.state.given ≤ l.number)
