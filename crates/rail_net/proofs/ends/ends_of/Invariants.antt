-- What the loop of `ends_of` keeps from turn to turn.
use Rattle.std.proofs.Common.{◌≡◌, ℕ, length, Some, slice_get}
use Rattle.vss_lists.specs.Breaks.{HoldsBelow}
use Rattle.rail_net.specs.Parts.{node_names}
use Rattle.rail_net.specs.Rules.{KnowsNodes}
use Rattle.rail_net.specs.Tables.{AreNodes}
use Rattle.rail_net.specs.declared.ends.TrackEnds.{TrackEnds}
use Rattle.rail_net.specs.declared.parts.TrackPart.{TrackPart}
use Rattle.rail_net.proofs.ends.ends_of.Given as goal

abbrev pub invariant-loop-place : goal.invariant-loop-place
invariant-loop-place l = record {
  count : length l.ends.items ≡ l.place;
  each : (k : ℕ) (t : TrackPart) (e : TrackEnds) → slice_get l.parts.tracks k ≡ Some t → slice_get l.ends.items k ≡ Some e → AreNodes (node_names l.parts) t e;
  known : HoldsBelow (KnowsNodes l.parts) l.parts.tracks l.place;
}
