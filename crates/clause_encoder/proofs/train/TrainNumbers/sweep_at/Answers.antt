-- Why `TrainNumbers::sweep_at` does what its contract says.
use Rattle.std.proofs.Common.{◌∙◌, ap, ◌+◌}
use Rattle.clause_encoder.proofs.TrainLemmas.{sweep_is, stored_step, kept_is}
use Rattle.clause_encoder.proofs.train.TrainNumbers.sweep_at.Goals as goal

pub returns : goal.returns
returns c =
    let kept = kept_is _ _ _ _ _ _ _ _ c.self.view_is c.self.invariant in
    let stored = stored_step _ _ _ _ _ _ _ _ c.args.step _ c.self.view_is c.self.invariant c.requires.after c.requires.before in
    ap (λ n. n + c.args.place) (c.index.ensures ∙ stored) ∙ (sweep_is _ c.args.step c.args.place kept c.requires.after c.requires.before c.requires.within).0
