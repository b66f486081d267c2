-- What the search for the latest false literal keeps.
use Rattle.std.specs.Prelude.{◌≡◌, ◌≢◌, take, All}
use Rattle.sat_core.specs.Clauses.{negated}
use Rattle.watch_store.proofs.choosing.latest.Given as goal

abbrev pub invariant-loop-lit : goal.invariant-loop-lit
invariant-loop-lit l = All (λ lit. All (λ e. e.lit ≡ negated lit → e.level ≢ l.trail.present) l.trail.entries) (take l.lit-index l.lits)
