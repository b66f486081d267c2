-- Why `TrainNumbers::met` does what its contract says.
use Rattle.std.proofs.Common.{◌≡◌, ◌∙◌, ap, arith, max}
use Rattle.clause_list.specs.StopClauses.{stop_at}
use Rattle.clause_encoder.proofs.TrainLemmas.{met_few, firsts_rise, stored_stop, kept_is}
use Rattle.clause_encoder.proofs.train.TrainNumbers.met.Goals as goal

pub overflow_add-result : goal.overflow_add-result
overflow_add-result c =
    let kept = kept_is _ _ _ _ _ _ _ _ c.self.view_is c.self.invariant in
    let stored = c.index.ensures ∙ stored_stop _ _ _ _ _ _ _ _ c.args.place _ c.self.view_is c.self.invariant c.requires.within in
    let few = met_few c.args.self.now c.args.place c.args.step c.requires.within c.requires.after c.requires.before in
    let rise = firsts_rise c.args.self.now kept in
    let from : c.later-from.result ≡ max (stop_at c.args.self.now c.args.place).from c.args.self.now.start = c.later-from.ensures ∙ ap (λ stop. max stop.from c.self.inside.start) c.stop.ensures ∙ ap (λ x. max (stop_at c.args.self.now c.args.place).from x.start) c.self.view_is in
    omega (arith, stored, few, rise.1, rise.2)
