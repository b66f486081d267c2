-- Why `ends_at` does what its contract says.
use Rattle.std.proofs.lemmas.List.{take_rest}
use Rattle.node_groups.proofs.EndLemmas.{nodes_rise}
use Rattle.node_groups.proofs.StretchLemmas.{rest_rises, stretch_at}
use Rattle.node_groups.proofs.ends.ends_at.Goals as goal

pub count_below-requires : goal.count_below-requires
count_below-requires c = nodes_rise _ c.requires

pub count_up_to-requires : goal.count_up_to-requires
count_up_to-requires c = rw take_rest (rest_rises _ _ (nodes_rise _ c.requires))

pub returns : goal.returns
returns c =
    let up_to = rw take_rest at c.count_up_to.ensures in
    rw take_rest (stretch_at _ _ _ _ c.count_below.ensures.within up_to.within c.count_below.ensures.split up_to.split)
