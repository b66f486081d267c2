-- The judge's verdict is told.
use Rattle.std.proofs.Common.{Ok, ap}
use Rattle.vss_answers.specs.declared.answer.Answer.{Answer}
use Rattle.vss_answers.proofs.answering.judged.Goals as goal

pub returns-in-Ok : goal.returns-in-Ok
returns-in-Ok c = record {
  found = c.in-Ok.verdict;
  is = c.in-Ok.ensures.verdict;
  told = ap (λ (a : Answer). Ok a) c.answer_of.ensures;
}
