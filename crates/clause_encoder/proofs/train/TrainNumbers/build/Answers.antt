-- Why `TrainNumbers::build` does what its contract says.
use Rattle.std.proofs.Common.{arith}
use Rattle.clause_encoder.proofs.BuildLemmas.{cones_rise, cone_count}
use Rattle.clause_encoder.proofs.train.TrainNumbers.build.Goals as goal

pub numbered-requires-clause-for_each : goal.numbered-requires-clause-for_each
numbered-requires-clause-for_each g c = omega (arith, cone_count _ _ _ _ c.in-Ok.ensures.cones)

pub numbered-requires-clause-rising : goal.numbered-requires-clause-rising
numbered-requires-clause-rising g c = cones_rise _ _ _ _ c.in-Ok.ensures.cones
