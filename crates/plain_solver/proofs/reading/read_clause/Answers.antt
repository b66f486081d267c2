-- Why `read_clause` does what its contract says.
use Rattle.std.proofs.Common.{arith, sym, subst, ◌∙◌}
use Rattle.std.specs.Prelude.{None}
use Rattle.search_trail.specs.Trails.{known_of}
use Rattle.plain_solver.specs.Plain.{SoFar}
use Rattle.plain_solver.proofs.ReadingLemmas.{so_far_true, so_far_false, so_far_first, so_far_second, so_far_all}
use Rattle.plain_solver.proofs.reading.read_clause.Goals.{in-No, in-Open+else-is_some}
use Rattle.plain_solver.proofs.reading.read_clause.Goals as goal

pub returns-in-Yes : goal.returns-in-Yes
returns-in-Yes c = so_far_true (known_of c.args.trail.now.entries) c.args.lits.now c.loop-lit.lit-index _ c.loop-lit-test.true c.in-Yes.ensures.value

pub returns-then-is_some : goal.returns-then-is_some
returns-then-is_some c = so_far_second (known_of c.args.trail.now.entries) c.args.lits.now c.loop-lit.lit-index _ c.loop-lit.free c.requires.no_variable_twice c.loop-lit-test.true c.in-Open.ensures.value (sym c.is_some.ensures ∙ c.if-is_some.true) c.loop-lit.invariant

pub loop-lit-preserved : goal.loop-lit-preserved
loop-lit-preserved c = elim c.match-value.branch [
  | in-No w ↦ rw (w.free-is) (so_far_false (known_of c.args.trail.now.entries) c.args.lits.now c.loop-lit.lit-index _ c.loop-lit.free c.loop-lit-test.true w.in-No.ensures.value c.loop-lit.invariant)
  | in-Open+else-is_some w ↦ rw (w.free-is) (so_far_first (known_of c.args.trail.now.entries) c.args.lits.now c.loop-lit.lit-index _ c.loop-lit.free c.loop-lit-test.true w.in-Open.ensures.value (sym w.is_some.ensures ∙ w.if-is_some.false) c.loop-lit.invariant)
]

pub returns-in-None : goal.returns-in-None
returns-in-None c = so_far_all (known_of c.args.trail.now.entries) c.args.lits.now c.loop-lit.lit-index None (omega arith) (subst (SoFar (known_of c.args.trail.now.entries) _) c.in-None.is c.loop-lit.invariant)
