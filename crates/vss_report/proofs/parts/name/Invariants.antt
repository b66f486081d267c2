-- What the loop of `name` keeps from turn to turn.
use Rattle.vss_report.proofs.PartLemmas.{IsNameFront}
use Rattle.vss_report.proofs.parts.name.Given as goal

-- the bytes up to here may stand in a name
abbrev pub invariant-loop-count : goal.invariant-loop-count
invariant-loop-count l = IsNameFront l.text l.count
