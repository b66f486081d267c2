-- What putting the clauses of a formula keeps.
use Rattle.std.specs.Prelude.{◌≡◌, take}
use Rattle.sat_core.specs.Derivation.{numbered_from}
use Rattle.watch_store.specs.Places.{live_in}
use Rattle.watch_store.specs.Fits.{IsKeeping}
use Rattle.watch_store.proofs.filling.fill.Given as goal

abbrev pub invariant-clauses : goal.invariant-clauses
invariant-clauses l = (IsKeeping l.table l.heads l.nodes.items) × (l.table.vars ≡ l.formula.vars) × (live_in l.table ≡ numbered_from 1 (take l.place l.formula.clauses))
