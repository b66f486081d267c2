-- Why `homes_of` does what its contract says.
use Rattle.std.proofs.Common.{◌≡◌, ◌+◌, map, ◌∙◌, sym, ap, arith}
use Rattle.clause_list.specs.Ranges.{from_below}
use Rattle.clause_list.specs.Cones.{home}
use Rattle.clause_encoder.proofs.MarkLemmas.{rows_none, homes_more, next_home}
use Rattle.clause_encoder.proofs.marks.homes_of.Goals as goal

pub loop-step-init : goal.loop-step-init
loop-step-init g c = (c.new-homes.ensures.items ∙ sym (rows_none _), c.in_ok-marks.ensures)

pub loop-step-preserved : goal.loop-step-preserved
loop-step-preserved g c = (
  homes_more _ c.loop-step.step _ _ _ c.loop-step.invariant.0 c.loop-step.invariant.1 c.in_ok-push.ensures.items,
  next_home _ c.loop-step.step _ _ c.loop-step.invariant.1 c.in_ok-before.ensures,
)

pub returns : goal.returns
returns g c =
    let all : c.loop-step.step ≡ c.args.last = omega arith in
    homes_more _ c.loop-step.step _ _ _ c.loop-step.invariant.0 c.loop-step.invariant.1 c.in_ok-push-2.ensures.items
    ∙ ap (λ n. map (home (g.M.Moves.table c.args.table.now c.args.inst.now)) (from_below 0 (n + 1))) all
