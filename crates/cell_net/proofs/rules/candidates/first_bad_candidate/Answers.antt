-- Why `first_bad_candidate` does what its contract says.
use Rattle.cell_net.proofs.rules.candidates.first_bad_candidate.Goals as goal

pub returns : goal.returns
returns c = let found = c.first_break.ensures in rw c.as_slice.ensures at found
