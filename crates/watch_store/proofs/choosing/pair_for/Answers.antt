-- Why `pair_for` does what its contract says.
use Rattle.std.proofs.Common.{ℕ, subst}
use Rattle.std.specs.Prelude.{All}
use Rattle.sat_core.specs.Clauses.{IsOver}
use Rattle.watch_store.proofs.choosing.pair_for.Goals as goal

pub choose-requires-clause-in_range : goal.choose-requires-clause-in_range
choose-requires-clause-in_range c = subst (λ (n : ℕ). All (IsOver n) c.args.lits.now) c.requires.same c.requires.clause.in_range
