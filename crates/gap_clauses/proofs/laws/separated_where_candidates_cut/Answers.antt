-- Why `separated_where_candidates_cut` does what its contract says.
use Rattle.gap_clauses.proofs.CandidateLaws.{candidates_separate}
use Rattle.gap_clauses.proofs.laws.separated_where_candidates_cut.Goals as goal

pub returns : goal.returns
returns c p borders gaps are = candidates_separate p borders gaps are
