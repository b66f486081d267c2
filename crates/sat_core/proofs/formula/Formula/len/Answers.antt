-- Why `Formula::len` does what its contract says.
use Rattle.std.proofs.Common.{length, ap, arith}
use Rattle.vss_rows.proofs.PieceLaws.{length-pieces}
use Rattle.sat_core.proofs.formula.Formula.len.Goals as goal

pub returns : goal.returns
returns c = omega (arith, length-pieces c.self.inside.lits.items 0 c.self.inside.ends.items, ap (λ formula. length formula.clauses) c.self.view_is)
