-- Why `numbered` does what its contract says.
use Rattle.std.proofs.Common.{arith}
use Rattle.vss_text.specs.Numbers.{IsShort, ended}
use Rattle.vss_report.proofs.PartLemmas.{word_missed, rest_missed}
use Rattle.vss_report.proofs.parts.numbered.Goals as goal

pub returns-in-Err-clause-missed : goal.returns-in-Err-clause-missed
returns-in-Err-clause-missed c = word_missed IsShort (ended 10) c.args.words.now c.args.text.now c.in-Err.miss 0 (omega arith) c.in-Err.ensures.missed

pub returns-in-Err-number-clause-missed : goal.returns-in-Err-number-clause-missed
returns-in-Err-number-clause-missed c = rest_missed IsShort (ended 10) c.args.words.now c.args.text.now c.in-Ok.rest.now c.in-Err-number.miss c.in-Ok.ensures.found c.in-Err-number.ensures.missed
