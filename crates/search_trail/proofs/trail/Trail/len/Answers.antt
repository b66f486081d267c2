-- Why `Trail::len` does what its contract says.
use Rattle.std.proofs.Common.{arith}
use Rattle.search_trail.proofs.trail.Trail.len.Goals as goal

pub overflow_cast-result : goal.overflow_cast-result
overflow_cast-result c = omega (arith, c.self.invariant.laws.few, c.self.invariant.laws.numbered)
