-- Why `join` does what its contract says.
use Rattle.node_groups.proofs.ForestLaws.{JoinsAlike-trans, AddsPair_linked, AddsPair_flipped, AddsPair_after, joined_after}
use Rattle.node_groups.proofs.forest.join.Goals as goal

pub returns-then-first_root-second_root-clause-adds : goal.returns-then-first_root-second_root-clause-adds
returns-then-first_root-second_root-clause-adds c =
    let first = c.root_of-first_root.ensures in
    let second = c.root_of-second_root.ensures in
    AddsPair_after _ _ _ _ _ (JoinsAlike-trans _ _ _ first.joined second.joined)
    (AddsPair_linked _ _ _ _ _ second.root (joined_after _ _ _ _ second.joined first.reached) second.reached)

pub returns-else-first_root-second_root-clause-adds : goal.returns-else-first_root-second_root-clause-adds
returns-else-first_root-second_root-clause-adds c =
    let first = c.root_of-first_root.ensures in
    let second = c.root_of-second_root.ensures in
    AddsPair_after _ _ _ _ _ (JoinsAlike-trans _ _ _ first.joined second.joined)
    (AddsPair_flipped _ _ _ _
    (AddsPair_linked _ _ _ _ _ (second.roots _ first.root) second.reached (joined_after _ _ _ _ second.joined first.reached)))
