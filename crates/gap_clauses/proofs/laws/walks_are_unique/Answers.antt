-- Why `walks_are_unique` does what its contract says.
use Rattle.gap_clauses.proofs.OrderLaws.{listed_once}
use Rattle.gap_clauses.proofs.laws.walks_are_unique.Goals as goal

pub returns : goal.returns
returns c p e f = listed_once p e f
