-- What the loop of `file_in` keeps from turn to turn.
use Rattle.std.proofs.Common.{◌≡◌, length, take}
use Rattle.rail_net.specs.Entries.{AreValues}
use Rattle.rail_net.proofs.entries.file_in.Given as goal

abbrev pub invariant-loop-at : goal.invariant-loop-at
invariant-loop-at l = record {
  len : length l.values ≡ length l.initial.values;
  values : AreValues (take l.at l.entries) l.values;
}
