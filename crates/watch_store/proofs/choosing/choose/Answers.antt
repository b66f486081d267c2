-- Why `choose` does what its contract says.
use Rattle.watch_store.proofs.ChooseLemmas.{chosen_latest}
use Rattle.watch_store.proofs.choosing.choose.Goals as goal

pub returns-in-None-replacement : goal.returns-in-None-replacement
returns-in-None-replacement c = chosen_latest c.args.trail.now c.args.lits.now c.in-Some.lit c.latest-second.result c.in-Some.ensures.0 c.in-Some.ensures.1 c.in-None-replacement.ensures c.requires.watchable c.latest-second.ensures.stands c.latest-second.ensures.latest
