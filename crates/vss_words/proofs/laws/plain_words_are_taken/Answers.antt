-- Each task's words are walked over one by one.
use Rattle.vss_words.proofs.PlainLemmas.{borders, budget, budget_twice, check, generate, help, judge, make, optimise, verify}
use Rattle.vss_words.proofs.laws.plain_words_are_taken.Goals as goal

pub returns : goal.returns
returns c = record {
  verify = verify;
  generate = generate;
  optimise = optimise;
  judge = judge;
  check = check;
  make = make;
  budget = budget;
  borders = borders;
  budget_twice = budget_twice;
  help = help;
}
