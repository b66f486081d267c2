-- Why `are_whole_steps` does what its contract says.
use Rattle.std.proofs.lemmas.Bool.{eq-eqb, eqb-true}
use Rattle.discretise.proofs.RuleLemmas.{whole_rest, whole_steps}
use Rattle.discretise.proofs.rules.are_whole_steps.Goals as goal

pub returns : goal.returns
returns c = (
  λ same. whole_steps c.args.timetable.now c.args.metres (eqb-true _ _ same),
  λ whole. eq-eqb _ _ (whole_rest c.args.timetable.now c.args.metres whole),
)
