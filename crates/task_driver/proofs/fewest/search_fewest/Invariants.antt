-- What the loop of `search_fewest` keeps from turn to turn.
use Rattle.task_driver.proofs.SearchingLemmas.{IsOn}
use Rattle.task_driver.proofs.fewest.search_fewest.Given as goal

abbrev pub invariant-bounds : goal.invariant-bounds
invariant-bounds g l = IsOn l.inst l.fn.formula l.map l.fn.budget (g.S.Solver.solving l.solver) l.left l.units.items l.best l.clauses l.most

abbrev pub decreases-bounds : goal.decreases-bounds
decreases-bounds g l = l.most
