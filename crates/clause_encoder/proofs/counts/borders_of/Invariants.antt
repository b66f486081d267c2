-- What the loop of `borders_of` keeps from turn to turn.
use Rattle.std.specs.Prelude.{◌≡◌}
use Rattle.clause_list.specs.BorderClauses.{border_lits}
use Rattle.clause_encoder.proofs.counts.borders_of.Given as goal

abbrev pub invariant-loop-candidate : goal.invariant-loop-candidate
invariant-loop-candidate l = l.borders.items ≡ border_lits l.candidate
