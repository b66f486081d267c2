-- Why `joins_of` does what its contract says.
use Rattle.std.proofs.Common.{◌≡◌, ◌++◌, List, subst, ap, ◌∙◌, map, length}
use Rattle.std.specs.List.{range_with_len}
use Rattle.cell_net.specs.declared.cells.JoinSpec.{JoinSpec}
use Rattle.discretise.specs.Picks.{Picks}
use Rattle.discretise.specs.Joins.{AddsJoins, AreJoins, IsPassage, cut_joins, ends_at, join_of, node_pairs}
use Rattle.discretise.specs.declared.tracks.GridTrack.{GridTrack}
use Rattle.discretise.specs.declared.ends.TrackEnd.{TrackEnd}
use Rattle.rail_net.specs.declared.parts.NetParts.{NetParts}
use Rattle.discretise.proofs.JoinLemmas.{rows_are}
use Rattle.discretise.proofs.joins.joins_of.Goals as goal

all_joins : (p : NetParts) (gs : List GridTrack) (rows : List (List TrackEnd)) (old new : List JoinSpec) → old ≡ cut_joins gs → rows ≡ map (ends_at gs) (range_with_len 0 (length p.nodes))
    → AddsJoins p (node_pairs rows) old new → AreJoins p gs new
unfolding AddsJoins
all_joins p gs rows old new cuts are (passages, picked, is) = record {
  passages = passages;
  picked = subst (λ rs. Picks (IsPassage p) (node_pairs rs) passages) are picked;
  are = is ∙ ap (λ js. js ++ map join_of passages) cuts;
}

pub returns : goal.returns
returns c = all_joins c.args.net.now c.args.tracks.now c.args.ends.now c.in_ok-joins.joins.items c.add_node_joins.new.joins.items c.in_ok-joins.ensures
    (rows_are (length c.args.net.now.nodes) c.args.tracks.now c.args.ends.now c.requires.ends) c.in_ok-add_node_joins.ensures
