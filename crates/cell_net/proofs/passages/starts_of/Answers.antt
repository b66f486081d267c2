-- Why `starts_of` does what its contract says.
use Rattle.std.proofs.Common.{arith}
use Rattle.std.proofs.lemmas.Grind.{common_steps}
use Rattle.cell_net.proofs.PassageLemmas.{starts_push}
use Rattle.cell_net.proofs.passages.starts_of.Goals as goal

pub loop-end-preserved : goal.loop-end-preserved
loop-end-preserved c =
    let pushed = c.in_ok-push.ensures.items in
    rw pushed (
      starts_push _ _ _ c.loop-end.invariant.0 c.start_of.ensures.within
          (rw c.loop-end.invariant.1 c.start_of.ensures.split),
      grind (arith, common_steps),
    )
