-- Why `at_least_number` does what its contract says.
use Rattle.std.proofs.Common.{◌+◌, ◌-◌, ap, arith}
use Rattle.border_counter.proofs.SumLemmas.{half_product}
use Rattle.clause_encoder.proofs.at_least.at_least_number.Goals as goal

pub returns : goal.returns
returns c = ap (λ n. c.args.first + n + (c.args.j - 1)) (half_product c.args.candidates (omega arith))
