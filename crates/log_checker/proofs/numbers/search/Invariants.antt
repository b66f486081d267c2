-- What the loop of `search` keeps from turn to turn.
use Rattle.std.proofs.Common.{◌-◌}
use Rattle.log_checker.proofs.NumberLemmas.{IsBetween}
use Rattle.log_checker.proofs.numbers.search.Given as goal

-- the number stands between `low` and `high`, if anywhere
abbrev pub invariant-loop-low : goal.invariant-loop-low
invariant-loop-low l = IsBetween l.numbers l.id.0 l.low l.high

abbrev pub decreases-loop-low : goal.decreases-loop-low
decreases-loop-low l = l.high - l.low
