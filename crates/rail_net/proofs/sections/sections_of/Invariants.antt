-- What the loop of `sections_of` keeps from turn to turn.
use Rattle.std.proofs.Common.{◌≡◌, ℕ, length, Some, slice_get}
use Rattle.vss_lists.specs.Breaks.{HoldsBelow}
use Rattle.rail_net.specs.Parts.{IsTrackOfSection}
use Rattle.rail_net.specs.Rules.{IsOfSomeSection}
use Rattle.rail_net.proofs.sections.sections_of.Given as goal

abbrev pub invariant-loop-place : goal.invariant-loop-place
invariant-loop-place l = record {
  count : length l.homes.items ≡ l.place;
  each : (track section : ℕ) → slice_get l.homes.items track ≡ Some section → IsTrackOfSection l.parts section track;
  listed : HoldsBelow (IsOfSomeSection l.parts) l.parts.tracks l.place;
}
