-- Why `segments` does what its contract says.
use Rattle.std.proofs.Common.{sym, ap, ◌∙◌, ◌++◌, ◌∷◌, [], get_or, arith}
use Rattle.rail_net.specs.Tables.{track_segment}
use Rattle.rail_net.proofs.ZipLemmas.{zipped_more}
use Rattle.rail_net.proofs.joining.segments.Goals as goal

pub loop-at-preserved : goal.loop-at-preserved
loop-at-preserved c =
    c.in_ok-push.ensures.items ∙ (ap (λ es. es ++ track_segment (get_or c.args.ends.now c.loop-at.at (record { from = 0; to = 0 })) (get_or c.args.homes.now c.loop-at.at 0) ∷ []) c.loop-at.invariant
    ∙ sym (zipped_more track_segment c.args.ends.now c.args.homes.now c.loop-at.at (record { from = 0; to = 0 }) 0 (omega arith) (omega arith)))
