-- Why `given_tasks_are_clauses` does what its contract says.
use Rattle.clause_list.specs.Coding.{network_of, trains_of, walks_in}
use Rattle.clause_list.proofs.CodedLaws.{coded_are_numbered}
use Rattle.clause_list.proofs.WalkLaws.{walks_are_over}
use Rattle.clause_list.proofs.WholeLaws.{given_task_are_clauses}
use Rattle.clause_list.proofs.laws.given_tasks_are_clauses.Goals as goal

pub returns : goal.returns
returns c p gaps tables layout vars rules are same tabled last = given_task_are_clauses vars (walks_in gaps) (network_of p) tables (trains_of p tables) layout (coded_are_numbered p tables vars rules same tabled last) (walks_are_over p gaps are)
