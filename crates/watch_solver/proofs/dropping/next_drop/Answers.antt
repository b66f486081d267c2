-- Why `next_drop` does what its contract says.
use Rattle.std.proofs.Common.{inr}
use Rattle.watch_solver.proofs.DropLemmas.{drop_place_next}
use Rattle.watch_solver.proofs.dropping.next_drop.Goals as goal

pub returns : goal.returns
returns c = inr (drop_place_next c.args.place c.requires)
