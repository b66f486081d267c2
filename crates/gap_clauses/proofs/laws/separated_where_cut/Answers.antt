-- Why `separated_where_cut` does what its contract says.
use Rattle.gap_clauses.proofs.Shortening.{cut_separates}
use Rattle.gap_clauses.proofs.laws.separated_where_cut.Goals as goal

pub returns : goal.returns
returns c p borders = cut_separates p borders
