-- What the loop of `put_trains` keeps: the texts of the trains so far.
use Rattle.std.specs.Prelude.{◌≡◌, ◌-◌, ◌++◌}
use Rattle.std.specs.List.{flat_map, range_with_len}
use Rattle.case_maker.specs.Timetables.{train_of}
use Rattle.case_maker.proofs.timetable.put_trains.Given as goal

abbrev pub invariant-loop-train : goal.invariant-loop-train
invariant-loop-train l = l.out.items ≡ l.fn.out.items ++ flat_map (train_of l.seed l.size) (range_with_len 0 (l.train - 0))
