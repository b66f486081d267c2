-- What the search for a literal that isn't false keeps.
use Rattle.std.specs.Prelude.{take}
use Rattle.search_trail.specs.Trails.{AreFalse, known_of}
use Rattle.watch_store.proofs.choosing.not_false.Given as goal

abbrev pub invariant-loop-lit : goal.invariant-loop-lit
invariant-loop-lit l = AreFalse (known_of l.trail.entries) (take l.lit-index l.lits)
