-- What the loop of `stops_of` keeps from turn to turn.
use Rattle.std.proofs.Common.{take}
use Rattle.std.specs.List.{AllZip}
use Rattle.vss_lists.specs.Breaks.{HoldsBelow}
use Rattle.timetable.specs.Places.{IsStopFor, KnowsStation}
use Rattle.timetable.proofs.places.stops_of.Given as goal

abbrev pub invariant-loop-place : goal.invariant-loop-place
invariant-loop-place l = record {
  stops : AllZip (IsStopFor l.net) (take l.place l.entries) l.stops.items;
  known : HoldsBelow (KnowsStation l.net) l.entries l.place;
}
