-- Why `miss_of` does what its contract says.
use Rattle.std.proofs.Common.{None, Some}
use Rattle.std.proofs.lemmas.Bool.Decides.{Decides-eqb}
use Rattle.std.proofs.lemmas.Slice.Eq.{strip_prefix_is}
use Rattle.vss_text.proofs.ReadingLaws.{never_word, short_word}
use Rattle.vss_text.proofs.fixed.miss_of.Goals as goal

pub returns-in-Some : goal.returns-in-Some
returns-in-Some c =
    short_word c.args.word.now c.args.text.now c.in-Some.field-0.now c.requires
    (strip_prefix_is Decides-eqb c.args.word.now c.args.text.now (Some c.in-Some.field-0) c.in-Some.ensures.cases)

pub returns-in-None : goal.returns-in-None
returns-in-None c =
    never_word c.args.word.now c.args.text.now c.requires
    (strip_prefix_is Decides-eqb c.args.word.now c.args.text.now None c.in-None.ensures.cases)
