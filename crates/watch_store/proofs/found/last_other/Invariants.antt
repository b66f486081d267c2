-- What the search for another literal from the end keeps.
use Rattle.std.specs.Prelude.{drop}
use Rattle.search_trail.specs.Trails.{known_of}
use Rattle.watch_store.specs.Walking.{OthersFalse}
use Rattle.watch_store.proofs.found.last_other.Given as goal

abbrev pub invariant-from_end : goal.invariant-from_end
invariant-from_end l = OthersFalse (known_of l.trail.entries) (drop l.place l.lits) l.partner
