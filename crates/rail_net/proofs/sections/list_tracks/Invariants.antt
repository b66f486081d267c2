-- What the loop of `list_tracks` keeps from turn to turn.
use Rattle.std.proofs.Common.{take}
use Rattle.rail_net.specs.Rules.{AreKnown}
use Rattle.rail_net.specs.Tables.{AddsListings}
use Rattle.rail_net.proofs.sections.list_tracks.Given as goal

abbrev pub invariant-loop-at : goal.invariant-loop-at
invariant-loop-at l = record {
  added : AddsListings l.tracks l.place (take l.at l.section.tracks) l.initial.entries.items l.entries.items;
  known : AreKnown l.tracks (take l.at l.section.tracks);
}
