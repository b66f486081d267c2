-- What the loop of `trains_of` keeps from turn to turn.
use Rattle.std.proofs.Common.{take}
use Rattle.std.specs.List.{AllZip}
use Rattle.discretise.specs.Trains.{IsTrainBetween}
use Rattle.discretise.proofs.trains.trains_of.Given as goal

abbrev pub invariant-loop-at : goal.invariant-loop-at
invariant-loop-at l = AllZip (IsTrainBetween l.ends l.timetable) (take l.at l.timetable.trains) l.trains.items
