-- What the loop of `draw` keeps: the number after so many draws.
use Rattle.std.specs.Prelude.{◌≡◌, ◌<◌}
use Rattle.case_maker.specs.Draws.{state}
use Rattle.case_maker.proofs.draws.draw.Given as goal

abbrev pub invariant-loop : goal.invariant-loop
invariant-loop l = record { value : l.x ≡ state l.seed l.counter; below : l.x < 65537 }
