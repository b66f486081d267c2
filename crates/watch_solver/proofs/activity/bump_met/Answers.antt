-- Why `bump_met` does what its contract says.
use Rattle.std.proofs.Common.{ℕ, sym, subst}
use Rattle.std.specs.Prelude.{All}
use Rattle.sat_core.specs.Clauses.{IsClause, IsOver}
use Rattle.watch_solver.proofs.SeatLemmas.{found_all}
use Rattle.watch_solver.proofs.activity.bump_met.Goals as goal

pub bump_all-requires-clause-over : goal.bump_all-requires-clause-over
bump_all-requires-clause-over c =
    subst (λ (n : ℕ). All (IsOver n) c.in-Some.lits.now) (sym c.hints.invariant.1)
    (found_all (IsClause c.args.order.now.vars) c.args.store.now.live _ c.in-Some.lits.now c.requires.over c.in-Some.ensures).in_range
