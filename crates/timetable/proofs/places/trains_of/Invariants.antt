-- What the loop of `trains_of` keeps from turn to turn.
use Rattle.std.proofs.Common.{take}
use Rattle.std.specs.List.{AllZip}
use Rattle.vss_lists.specs.Breaks.{HoldsBelow}
use Rattle.timetable.specs.Places.{IsTrainFor, KnowsPlaces}
use Rattle.timetable.proofs.places.trains_of.Given as goal

abbrev pub invariant-loop-place : goal.invariant-loop-place
invariant-loop-place l = record {
  trains : AllZip (IsTrainFor l.net) (take l.place l.entries) l.trains.items;
  known : HoldsBelow (λ place t. KnowsPlaces l.net t) l.entries l.place;
}
