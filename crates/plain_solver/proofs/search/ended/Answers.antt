-- Why `ended` does what its contract says.
use Rattle.plain_solver.proofs.StepLemmas.{refuted_of, spent_of}
use Rattle.std.proofs.Common.{false, ◌∙◌, sym}
use Rattle.plain_solver.proofs.search.ended.Goals as goal

pub returns-then-state-clause-answer : goal.returns-then-state-clause-answer
returns-then-state-clause-answer c = refuted_of c.args.state.now false c.requires.state c.if-state.true

pub returns-then-left-eq0-clause-answer : goal.returns-then-left-eq0-clause-answer
returns-then-left-eq0-clause-answer c = spent_of c.args.state.now false c.args.budget.now c.requires.state c.if-state.false c.requires.add_last (sym c.left.ensures ∙ c.if-left-eq0.true)
