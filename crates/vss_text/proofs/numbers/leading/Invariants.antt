-- What the loop of `leading` keeps from turn to turn.
use Rattle.vss_text.proofs.NumberLemmas.{AreRead}
use Rattle.vss_text.proofs.numbers.leading.Given as goal

-- the digits up to here are read
abbrev pub invariant-loop-count : goal.invariant-loop-count
invariant-loop-count l = AreRead l.text l.count l.value
