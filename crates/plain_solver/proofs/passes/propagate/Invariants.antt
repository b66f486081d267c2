-- What the loop of `propagate` keeps from turn to turn.
use Rattle.std.specs.Prelude.{◌≡◌, ◌-◌, length}
use Rattle.search_trail.specs.Trails.{Grows}
use Rattle.plain_solver.specs.Plain.{IsPlain}
use Rattle.plain_solver.proofs.passes.propagate.Given as goal

abbrev pub invariant-passes : goal.invariant-passes
invariant-passes l = IsPlain l.formula.clauses l.trail × Grows l.initial.trail l.trail × (l.count ≡ length l.trail.entries)

abbrev pub decreases-passes : goal.decreases-passes
decreases-passes l = l.trail.vars - length l.trail.entries
