-- What the loop of `read_clause` keeps from turn to turn.
use Rattle.std.specs.Prelude.{◌≡◌, take}
use Rattle.std.specs.Option.{option_to_list}
use Rattle.sat_core.specs.Hints.{not_false}
use Rattle.log_checker.proofs.hints.read_clause.Given as goal

-- at most one literal up to here isn't false, and that one is kept
abbrev pub invariant-loop-lit : goal.invariant-loop-lit
invariant-loop-lit l = not_false l.assignment.lits (take l.lit-index l.lits) ≡ option_to_list l.remaining
