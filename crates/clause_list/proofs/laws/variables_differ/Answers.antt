-- Why `variables_differ` does what its contract says.
use Rattle.clause_list.specs.Coding.{network_of, trains_of}
use Rattle.clause_list.proofs.CodedLaws.{coded_are_numbered}
use Rattle.clause_list.proofs.DifferLaws.{variables_differ}
use Rattle.clause_list.proofs.laws.variables_differ.Goals as goal

pub returns : goal.returns
returns c p tables vars rules same tabled last = variables_differ vars (network_of p) tables (trains_of p tables) (coded_are_numbered p tables vars rules same tabled last)
