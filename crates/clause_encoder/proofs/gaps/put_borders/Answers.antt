-- Why `put_borders` does what its contract says.
use Rattle.std.proofs.Common.{◌∙◌, ap, arith}
use Rattle.std.proofs.lemmas.List.{take_all}
use Rattle.clause_encoder.specs.WalkFitting.{on_walk}
use Rattle.clause_encoder.proofs.WalkLemmas.{border_more}
use Rattle.clause_encoder.proofs.gaps.put_borders.Goals as goal

pub loop-place-preserved : goal.loop-place-preserved
loop-place-preserved c = border_more c.args.number c.args.candidates.now c.loop-place.place _ _ _ c.is.result c.loop-place.invariant c.in_ok-push-2.ensures.items c.is.ensures c.loop-place-test.true

pub returns : goal.returns
returns c = c.loop-place.invariant ∙ ap (on_walk c.args.number) (take_all c.loop-place.place c.args.candidates.now (omega (arith, c.loop-place-test.false)))
