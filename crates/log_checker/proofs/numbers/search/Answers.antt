-- Why `search` does what its contract says.
use Rattle.std.proofs.Common.{◌≡◌, arith, subst}
use Rattle.log_checker.proofs.NumberLemmas.{IsBetween, IsBetween-low, IsBetween-high, IsBetween-missing}
use Rattle.log_checker.proofs.numbers.search.Goals as goal
use Rattle.log_checker.proofs.numbers.search.Goals.{else-low-numbers-via-then-low-numbers+else-numbers-low, else-low-numbers-via-else-low-numbers}

pub loop-low-preserved-then-numbers-middle : goal.loop-low-preserved-then-numbers-middle
loop-low-preserved-then-numbers-middle c = IsBetween-low c.args.numbers.now c.args.id.0 c.loop-low.low c.loop-low.high _ _ c.requires c.loop-low.invariant (omega arith) (omega arith) c.if-numbers-middle.true

pub loop-low-preserved : goal.loop-low-preserved
loop-low-preserved c = IsBetween-high c.args.numbers.now c.args.id.0 c.loop-low.low c.loop-low.high _ _ c.requires c.loop-low.invariant (omega arith) (omega arith) c.if-numbers-middle.false

pub returns-else-low-numbers-clause-missing : goal.returns-else-low-numbers-clause-missing
returns-else-low-numbers-clause-missing c =
    let met : c.loop-low.high ≡ c.loop-low.low = omega arith in
    let here = subst (IsBetween c.args.numbers.now c.args.id.0 c.loop-low.low) met c.loop-low.invariant in
    elim c.else-low-numbers.branch [
      | else-low-numbers-via-then-low-numbers+else-numbers-low w ↦ IsBetween-missing c.args.numbers.now c.args.id.0 c.loop-low.low _ c.requires here (λ inside. w.if-numbers-low.false)
      | else-low-numbers-via-else-low-numbers w ↦ IsBetween-missing c.args.numbers.now c.args.id.0 c.loop-low.low (record { 0 = 0 }) c.requires here (λ inside. absurd (omega arith))
    ]
