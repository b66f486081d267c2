-- What the loop of `index_of` keeps from turn to turn.
use Rattle.std.proofs.Common.{◌≡◌, map, take, string_bytes}
use Rattle.vss_lists.specs.Breaks.{HoldsBelow}
use Rattle.rail_net.specs.Rules.{HasNewName}
use Rattle.rail_net.proofs.names.index_of.Given as goal

abbrev pub invariant-loop-place : goal.invariant-loop-place
invariant-loop-place g l = record {
  names : map string_bytes l.names.keys ≡ map g.T.Named.name_of (take l.place l.items);
  new : HoldsBelow (HasNewName g.T.Named.name_of l.items) l.items l.place;
}
