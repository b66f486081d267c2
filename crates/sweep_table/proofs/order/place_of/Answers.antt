-- Why `place_of` does what its contract says.
use Rattle.std.proofs.Common.{◌≡◌, ◌<◌, ◌+◌, ◌-◌, ◌/◌, ap, ◌∙◌, refl, arith, subst}
use Rattle.std.specs.Prelude.{Some, slice_get}
use Rattle.std.proofs.lemmas.Option.{slice_get-get_or}
use Rattle.sweep_table.specs.Order.{IsSweepBefore}
use Rattle.sweep_table.proofs.OrderLaws.{below_place, from_place}
use Rattle.sweep_table.proofs.order.place_of.Goals as goal

pub loop-low-preserved-then-is_before : goal.loop-low-preserved-then-is_before
loop-low-preserved-then-is_before c = (
  c.loop-low.invariant.0,
  λ q at.
      let old = c.loop-low.invariant.1 q at in
      let above : c.loop-low.low + (c.loop-low.high - c.loop-low.low) / 2 < q = below_place _ _ q _ _ c.requires.order c.row.ensures.value at (c.if-is_before.ensures.0 refl) in
      (omega arith, old.1),
)

pub loop-low-preserved : goal.loop-low-preserved
loop-low-preserved c = (
  omega arith,
  λ q at.
      let old = c.loop-low.invariant.1 q at in
      (old.0, from_place _ _ q _ _ c.requires.order c.row.ensures.value at (λ (before : IsSweepBefore c.row.result.now c.args.cells.now). absurd (cc (c.if-is_before.ensures.1 before)))),
)

pub returns-clause-within : goal.returns-clause-within
returns-clause-within c =
    let here = c.loop-low.invariant.1 c.requires.there.0 (slice_get-get_or _ _ _ c.requires.there.1 ∙ ap Some c.requires.there.2) in
    omega (arith, c.requires.there.1)

pub returns-clause-value : goal.returns-clause-value
returns-clause-value c =
    let there : slice_get c.args.sweeps.now c.requires.there.0 ≡ Some c.args.cells.now = slice_get-get_or _ _ _ c.requires.there.1 ∙ ap Some c.requires.there.2 in
    let here = c.loop-low.invariant.1 c.requires.there.0 there in
    subst (λ n. slice_get c.args.sweeps.now n ≡ Some c.args.cells.now) (let e : c.requires.there.0 ≡ c.loop-low.low = omega arith in e) there
