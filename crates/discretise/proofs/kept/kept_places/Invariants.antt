-- What the loop of `kept_places` keeps from turn to turn.
use Rattle.std.proofs.Common.{◌≡◌, map, ℕ, List}
use Rattle.std.specs.List.{range_with_len}
use Rattle.discretise.specs.Picks.{Picks}
use Rattle.discretise.specs.Places.{IsKeptPlace, candidate}
use Rattle.discretise.proofs.kept.kept_places.Given as goal

abbrev pub invariant-loop-number : goal.invariant-loop-number
invariant-loop-number l = (numbers : List ℕ) × Picks (IsKeptPlace l.net l.timetable l.tracks l.candidates) (range_with_len 0 l.number) numbers × (l.kept.items ≡ map candidate numbers)
