-- Why `numbered` does what its contract says.
use Rattle.std.proofs.Common.{◌∙◌, ◌+◌, ◌-◌, ◌*◌, sym, refl, ap, arith}
use Rattle.clause_encoder.proofs.BuildLemmas.{train_stored}
use Rattle.clause_encoder.proofs.build.numbered.Goals as goal

pub invariant_of-result : goal.invariant_of-result
invariant_of-result c =
    train_stored _ _ _ _ _ _ c.args.train.now.stops _ _ _ _ _ _ _ _
    c.requires.window.window c.requires.window.in_order c.requires.window.in_time refl (c.in-Ok-copied.ensures ∙ c.as_slice.ensures) c.requires.for_each c.requires.rising
    c.in-Ok.ensures.steps c.in-Ok.ensures.behind
    (ap (λ n. c.in-Ok.steps.1 + (c.args.train.now.by - c.args.train.now.start + 1) * n) (c.cell_count.ensures.value ∙ sym c.cell_count-2.ensures.value))
    c.in-Ok-stops_of.ensures.stops c.in-Ok-stops_of.ensures.behind refl (omega arith)
