-- Why `named_number` does what its contract says.
use Rattle.std.proofs.Common.{◌∷◌, [], sym, refl, arith, append_assoc, ◌∙◌}
use Rattle.vss_names.specs.Names.{IsName}
use Rattle.vss_text.specs.Numbers.{IsShort, ended}
use Rattle.vss_text.specs.Reading.{Both, both_spelled}
use Rattle.vss_text.proofs.ReadingLaws.{misses_first, misses_second}
use Rattle.vss_report.specs.Readings.{named}
use Rattle.vss_report.proofs.PartLemmas.{word_missed, rest_missed, letter, name_read_once}
use Rattle.vss_report.proofs.parts.named_number.Goals as goal

pub returns-in-Err-clause-missed : goal.returns-in-Err-clause-missed
returns-in-Err-clause-missed c = word_missed (Both IsName IsShort) (both_spelled (named 32) (ended 10)) c.args.words.now c.args.text.now c.in-Err.miss (88 ∷ [], 0) (letter, omega arith) c.in-Err.ensures.missed

pub returns-in-Err-name-clause-missed : goal.returns-in-Err-name-clause-missed
returns-in-Err-name-clause-missed c =
    rest_missed (Both IsName IsShort) (both_spelled (named 32) (ended 10)) c.args.words.now c.args.text.now c.in-Ok.rest.now c.in-Err-name.miss c.in-Ok.ensures.found
    (misses_first IsName (named 32) IsShort (ended 10) c.in-Ok.rest.now c.in-Err-name.miss 0 (omega arith) c.in-Err-name.ensures.missed)

pub returns-in-Err-number-clause-missed : goal.returns-in-Err-number-clause-missed
returns-in-Err-number-clause-missed c =
    rest_missed (Both IsName IsShort) (both_spelled (named 32) (ended 10)) c.args.words.now c.args.text.now c.in-Ok.rest.now c.in-Err-number.miss c.in-Ok.ensures.found
    (misses_second IsName (named 32) IsShort (ended 10) c.in-Ok.rest.now c.in-Ok-name.found.1.now c.in-Err-number.miss c.in-Ok-name.found.0.now (name_read_once 32 refl) c.in-Ok-name.ensures.fits
    (c.in-Ok-name.ensures.found ∙ sym (append_assoc c.in-Ok-name.found.0.now (32 ∷ []) c.in-Ok-name.found.1.now)) c.in-Err-number.ensures.missed)
