-- Why `not_false` does what its contract says.
use Rattle.std.proofs.Common.{ap, sym, subst, ◌∙◌}
use Rattle.std.proofs.lemmas.List.{take_all}
use Rattle.sat_core.specs.Hints.{is_known}
use Rattle.search_trail.specs.Trails.{AreFalse, known_of}
use Rattle.watch_store.proofs.ChooseLemmas.{false_more}
use Rattle.watch_store.proofs.choosing.not_false.Goals as goal

pub loop-lit-preserved : goal.loop-lit-preserved
loop-lit-preserved c = false_more (known_of c.args.trail.now.entries) c.args.lits.now c.loop-lit.lit-index _ c.loop-lit-test.true (ap (is_known (known_of c.args.trail.now.entries)) (sym c.negated.ensures) ∙ sym c.if-not-is_true.ensures.value) c.loop-lit.invariant

pub returns : goal.returns
returns c = subst (AreFalse (known_of c.args.trail.now.entries)) (take_all c.loop-lit.lit-index c.args.lits.now c.loop-lit-test.false) c.loop-lit.invariant
