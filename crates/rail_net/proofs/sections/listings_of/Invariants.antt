-- What the loop of `listings_of` keeps from turn to turn.
use Rattle.std.proofs.Common.{take}
use Rattle.vss_lists.specs.Breaks.{HoldsBelow}
use Rattle.rail_net.specs.Parts.{listings_from, track_names}
use Rattle.rail_net.specs.Rules.{ListsTracks}
use Rattle.rail_net.specs.Tables.{Numbers}
use Rattle.rail_net.proofs.sections.listings_of.Given as goal

abbrev pub invariant-loop-place : goal.invariant-loop-place
invariant-loop-place l = record {
  entries : Numbers (track_names l.parts) (listings_from 0 (take l.place l.parts.sections)) l.entries.items;
  known : HoldsBelow (ListsTracks l.parts) l.parts.sections l.place;
}
