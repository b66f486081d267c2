-- What the loop of `borders_of` keeps: the borders that stand so far.
use Rattle.std.specs.Prelude.{◌≡◌}
use Rattle.plan_laws.specs.Telling.{told_layout}
use Rattle.plan_decoder.proofs.layout.borders_of.Given as goal

abbrev pub invariant-loop-number : goal.invariant-loop-number
invariant-loop-number l = l.borders.items ≡ told_layout l.values l.number
