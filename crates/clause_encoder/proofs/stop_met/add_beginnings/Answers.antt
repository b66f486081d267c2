-- Why `add_beginnings` does what its contract says.
use Rattle.std.proofs.Common.{refl, arith, inl, inr, ◌∙◌, ap, ◌∷◌, [], ◌++◌}
use Rattle.clause_list.specs.Numbers.{is}
use Rattle.clause_encoder.proofs.WritingLemmas.{adds_none, adds_step, adds_done}
use Rattle.clause_encoder.proofs.stop_met.add_beginnings.Goals as goal

pub loop-step-init : goal.loop-step-init
loop-step-init c = (adds_none _ _ _ _ refl, inr refl)

pub loop-step-preserved : goal.loop-step-preserved
loop-step-preserved c = (adds_step _ _ _ _ _ _ c.loop-step.invariant.0 (c.in_ok-add.ensures.ok ∙ ap (λ lit. record c.loop-step.writer { open_lits = c.loop-step.writer.open_lits ++ lit ∷ [] }) (c.is.ensures ∙ ap is c.met.ensures)) (omega arith), inl (omega arith))

pub returns-clause-ok : goal.returns-clause-ok
returns-clause-ok c = adds_done _ _ _ _ _ _ c.loop-step.invariant.0 (omega arith) c.loop-step-test.false c.loop-step.invariant.1
