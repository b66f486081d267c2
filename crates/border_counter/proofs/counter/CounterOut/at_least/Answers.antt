-- Why `CounterOut::at_least` does what its contract says.
use Rattle.std.proofs.Common.{ap, arith}
use Rattle.border_counter.proofs.SumLemmas.{sum_to-pred}
use Rattle.border_counter.proofs.counter.CounterOut.at_least.Goals as goal

pub at_least-requires-clause-within : goal.at_least-requires-clause-within
at_least-requires-clause-within c =
    let many = ap (λ counter. counter.inputs) c.self.view_is in
    let last = sum_to-pred c.self.inside.inputs (omega (arith, many)) in
    let most = c.self.invariant in
    omega (arith, many, last, most)
