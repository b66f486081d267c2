-- Why `settle` does what its contract says.
use Rattle.plain_solver.proofs.FullLemmas.{settle_decide, settle_sat}
use Rattle.plain_solver.proofs.search.settle.Goals as goal

pub returns-in-Some-clause-state : goal.returns-in-Some-clause-state
returns-in-Some-clause-state c = settle_decide c.args.state.now c.decide.new.self c.in-Some.lit c.requires.state c.requires.at_rest c.in-Some.ensures.value.0 c.in-Some.ensures.value.1 c.decide.ensures.one_more

pub returns-in-None-clause-answer : goal.returns-in-None-clause-answer
returns-in-None-clause-answer c = λ left some. settle_sat c.args.state.now c.show.new.valuation left c.requires.state c.requires.at_rest c.in-None.ensures.value c.show.ensures.long c.show.ensures.truths some
