-- Why `worded` does what its contract says.
use Rattle.std.proofs.Common.{◌∷◌, []}
use Rattle.vss_names.specs.Names.{IsName}
use Rattle.vss_report.specs.Readings.{named}
use Rattle.vss_report.proofs.PartLemmas.{word_missed, rest_missed, letter}
use Rattle.vss_report.proofs.parts.worded.Goals as goal

pub returns-in-Err-clause-missed : goal.returns-in-Err-clause-missed
returns-in-Err-clause-missed c = word_missed IsName (named 10) c.args.words.now c.args.text.now c.in-Err.miss (88 ∷ []) letter c.in-Err.ensures.missed

pub returns-in-Err-name-clause-missed : goal.returns-in-Err-name-clause-missed
returns-in-Err-name-clause-missed c = rest_missed IsName (named 10) c.args.words.now c.args.text.now c.in-Ok.rest.now c.in-Err-name.miss c.in-Ok.ensures.found c.in-Err-name.ensures.missed
