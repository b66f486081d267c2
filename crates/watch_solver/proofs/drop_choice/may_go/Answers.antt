-- Why `may_go` does what its contract says.
use Rattle.sat_core.specs.Clauses.{IsClause}
use Rattle.watch_solver.proofs.SeatLemmas.{found_all}
use Rattle.watch_solver.proofs.drop_choice.may_go.Goals as goal

pub is_reason-requires : goal.is_reason-requires
is_reason-requires c = (found_all (IsClause c.args.trail.now.vars) c.args.store.now.live c.args.id c.in-Some.lits.now c.requires.fits.over c.in-Some.ensures).in_range
