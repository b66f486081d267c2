-- Why `adds_nothing` does what its contract says.
use Rattle.std.proofs.Common.{[], length}
use Rattle.conflict_learn.proofs.CallLemmas.{clause_over}
use Rattle.conflict_learn.proofs.lower.adds_nothing.Goals as goal

pub are_marked-requires : goal.are_marked-requires
are_marked-requires g c = (clause_over (g.C.Clauses.live c.args.clauses.now) (record { vars = length c.args.marks.now; entries = []; read = 0; present = 0 }) c.args.id c.in-Some.lits.now c.requires c.in-Some.ensures).in_range
