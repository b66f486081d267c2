-- Why `paired` does what its contract says.
use Rattle.std.proofs.Common.{sym, ap, ◌∙◌, ◌++◌, ◌∷◌, [], get_or, arith}
use Rattle.rail_net.specs.Tables.{under}
use Rattle.rail_net.proofs.ZipLemmas.{zipped_more}
use Rattle.rail_net.proofs.joining.paired.Goals as goal

pub loop-at-preserved : goal.loop-at-preserved
loop-at-preserved c =
    c.in_ok-push.ensures.items ∙ (ap (λ es. es ++ under (get_or c.args.keys.now c.loop-at.at 0) (get_or c.args.values.now c.loop-at.at 0) ∷ []) c.loop-at.invariant
    ∙ sym (zipped_more under c.args.keys.now c.args.values.now c.loop-at.at 0 0 (omega arith) (omega arith)))
