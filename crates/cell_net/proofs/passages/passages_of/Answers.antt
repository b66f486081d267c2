-- Why `passages_of` does what its contract says.
use Rattle.cell_net.proofs.PassageLemmas.{passages_permuted}
use Rattle.cell_net.proofs.passages.passages_of.Goals as goal

pub returns : goal.returns
returns c = (passages_permuted _ _ _ c.sort_passages.ensures.same c.in_ok-passages.ensures, c.sort_passages.ensures.rising)
