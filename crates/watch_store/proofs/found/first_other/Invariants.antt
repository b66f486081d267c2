-- What the search for another literal keeps.
use Rattle.std.specs.Prelude.{take}
use Rattle.search_trail.specs.Trails.{known_of}
use Rattle.watch_store.specs.Walking.{OthersFalse}
use Rattle.watch_store.proofs.found.first_other.Given as goal

abbrev pub invariant-loop-lit : goal.invariant-loop-lit
invariant-loop-lit l = OthersFalse (known_of l.trail.entries) (take l.lit-index l.lits) l.partner
