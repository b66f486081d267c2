-- Why `search` does what its contract says.
use Rattle.std.proofs.Common.{false, arith}
use Rattle.solver_face.proofs.SolvingLaws.{searched_on}
use Rattle.watch_solver.specs.Running.{watch_solving}
use Rattle.watch_solver.proofs.RoundLemmas.{last_searched}
use Rattle.watch_solver.proofs.search.search.Goals as goal

pub returns-in_err-answer-clause-searched : goal.returns-in_err-answer-clause-searched
returns-in_err-answer-clause-searched g c = searched_on (watch_solving c.args.state.now false) (watch_solving c.rounds.state false) (watch_solving c.round.new.state false) c.args.budget.now c.rounds.budget c.round.new.budget c.rounds.invariant.4 c.round.ensures.searched

pub returns-in-Some-clause-searched : goal.returns-in-Some-clause-searched
returns-in-Some-clause-searched g c = searched_on (watch_solving c.args.state.now false) (watch_solving c.rounds.state false) (watch_solving c.round.new.state false) c.args.budget.now c.rounds.budget c.round.new.budget c.rounds.invariant.4 c.round.ensures.searched

pub rounds-preserved : goal.rounds-preserved
rounds-preserved g c =
    let goes = c.in_ok-answer.ensures.goes_on c.in-None.is in
    let state = c.in_ok-answer.ensures.state in
    (state, goes.0, goes.1, omega (arith, last_searched c.rounds.state c.round.new.state c.rounds.budget c.round.new.budget c.rounds.invariant.0 state c.round.ensures.searched, c.rounds.invariant.3), searched_on (watch_solving c.args.state.now false) (watch_solving c.rounds.state false) (watch_solving c.round.new.state false) c.args.budget.now c.rounds.budget c.round.new.budget c.rounds.invariant.4 c.round.ensures.searched)
