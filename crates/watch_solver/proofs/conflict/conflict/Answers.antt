-- Why `conflict` does what its contract says.
use Rattle.watch_solver.proofs.conflict.conflict.Goals as goal

pub learn_with-requires-clause-over : goal.learn_with-requires-clause-over
learn_with-requires-clause-over c = (c.requires.state.running c.requires.open).fits.over
