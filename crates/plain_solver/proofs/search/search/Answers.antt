-- Why `search` does what its contract says.
use Rattle.std.proofs.Common.{false, arith}
use Rattle.solver_face.proofs.SolvingLaws.{searched_on}
use Rattle.plain_solver.specs.States.{solving_of}
use Rattle.plain_solver.proofs.StepLemmas.{refuted_of}
use Rattle.plain_solver.proofs.RoundLemmas.{searched_room}
use Rattle.plain_solver.proofs.search.search.Goals as goal

pub returns-then-state-clause-answer : goal.returns-then-state-clause-answer
returns-then-state-clause-answer c = refuted_of c.args.state.now false c.requires.state c.if-state.true

pub returns-in_err-answer-clause-searched : goal.returns-in_err-answer-clause-searched
returns-in_err-answer-clause-searched c = searched_on (solving_of c.args.state.now false) (solving_of c.rounds.state false) (solving_of c.round.new.state false) c.args.budget.now c.rounds.budget c.round.new.budget c.rounds.invariant.4 c.round.ensures.searched

pub returns-in-Some-clause-searched : goal.returns-in-Some-clause-searched
returns-in-Some-clause-searched c = searched_on (solving_of c.args.state.now false) (solving_of c.rounds.state false) (solving_of c.round.new.state false) c.args.budget.now c.rounds.budget c.round.new.budget c.rounds.invariant.4 c.round.ensures.searched

pub rounds-preserved : goal.rounds-preserved
rounds-preserved c =
    let goes = c.in_ok-answer.ensures.goes_on c.in-None.is in
    (c.round.ensures.state, goes.open_yet, goes.some, omega (arith, searched_room c.rounds.state c.round.new.state c.rounds.budget c.round.new.budget c.rounds.invariant.0 c.round.ensures.state c.round.ensures.searched, c.rounds.invariant.3), searched_on (solving_of c.args.state.now false) (solving_of c.rounds.state false) (solving_of c.round.new.state false) c.args.budget.now c.rounds.budget c.round.new.budget c.rounds.invariant.4 c.round.ensures.searched)
