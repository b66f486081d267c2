-- What the loop of `mark_in` keeps from turn to turn.
use Rattle.std.proofs.Common.{◌≡◌, length, take}
use Rattle.rail_net.proofs.EntryLemmas.{AreMarked}
use Rattle.rail_net.proofs.entries.mark_in.Given as goal

abbrev pub invariant-loop-at : goal.invariant-loop-at
invariant-loop-at l = record {
  len : length l.marks ≡ length l.initial.marks;
  marks : AreMarked (take l.at l.entries) l.values l.marks;
}
