-- What putting the live clauses keeps.
use Rattle.std.specs.Prelude.{◌≡◌, take}
use Rattle.watch_store.specs.Places.{live_from, live_in}
use Rattle.watch_store.specs.Watching.{watches_of}
use Rattle.watch_store.specs.Fits.{IsKeeping, ArePairsOf}
use Rattle.watch_store.proofs.compacting.refill.Given as goal

abbrev pub invariant-numbers : goal.invariant-numbers
invariant-numbers l = (IsKeeping l.table l.heads l.nodes.items) × (l.table.vars ≡ l.from.vars) × (live_in l.table ≡ live_from l.from.clauses 0 (take l.number l.from.places)) × (ArePairsOf l.from.vars (watches_of l.watching) (watches_of l.nodes.items))
