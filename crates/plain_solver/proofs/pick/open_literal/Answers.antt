-- Why `open_literal` does what its contract says.
use Rattle.std.proofs.Common.{inl, inr}
use Rattle.search_trail.specs.Trails.{known_of}
use Rattle.trail_values.proofs.FullLaws.{told_more}
use Rattle.plain_solver.proofs.pick.open_literal.Goals.{in-Yes, in-No}
use Rattle.plain_solver.proofs.pick.open_literal.Goals as goal

pub variables-preserved : goal.variables-preserved
variables-preserved c = elim c.match-value.branch [
  | in-Yes w ↦ told_more (known_of c.args.trail.now.entries) c.variables.place c.literal-lit.result c.literal-lit.ensures.variable (inl w.in-Yes.ensures.value) c.variables.invariant
  | in-No w ↦ told_more (known_of c.args.trail.now.entries) c.variables.place c.literal-lit.result c.literal-lit.ensures.variable (inr w.in-No.ensures.value) c.variables.invariant
]
