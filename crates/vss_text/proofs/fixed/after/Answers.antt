-- Why `after` does what its contract says.
use Rattle.std.proofs.Common.{None, Some}
use Rattle.std.proofs.lemmas.Bool.Decides.{Decides-eqb}
use Rattle.std.proofs.lemmas.Slice.Eq.{strip_prefix_is}
use Rattle.vss_text.proofs.fixed.after.Goals as goal

pub miss_of-requires : goal.miss_of-requires
miss_of-requires c = strip_prefix_is Decides-eqb c.args.text.now c.args.word.now None c.in-None.ensures.cases

pub returns-in-Some-clause-found : goal.returns-in-Some-clause-found
returns-in-Some-clause-found c = strip_prefix_is Decides-eqb c.args.text.now c.args.word.now (Some c.in-Some.rest) c.in-Some.ensures.cases
