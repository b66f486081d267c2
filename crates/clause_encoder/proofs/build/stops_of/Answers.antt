-- Why `stops_of` does what its contract says.
use Rattle.std.proofs.Common.{◌∙◌, sym, ap, length, arith}
use Rattle.clause_encoder.proofs.MarkLemmas.{rows_none, pushed_more}
use Rattle.clause_encoder.proofs.BuildLemmas.{stops_more}
use Rattle.clause_encoder.proofs.build.stops_of.Goals as goal

pub loop-place-init : goal.loop-place-init
loop-place-init c = (c.new-numbers.ensures.items ∙ sym (rows_none _), omega arith, omega arith)

pub loop-place-preserved : goal.loop-place-preserved
loop-place-preserved c = (
  pushed_more _ c.loop-place.place _ _ _ c.loop-place.invariant.0 c.in-Ok.ensures.items c.loop-place.invariant.1,
  stops_more _ _ _ _ _ _ _ _ _ c.as_slice-stops.ensures c.loop-place.invariant.1 (omega (arith, ap length c.as_slice-stops.ensures)) c.count_of-count.ensures,
  omega arith,
)
