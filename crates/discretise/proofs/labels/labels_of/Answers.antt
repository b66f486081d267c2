-- Why `labels_of` does what its contract says.
use Rattle.std.proofs.Common.{◌<◌, ℕ, List, length, sym, subst}
use Rattle.std.specs.Prelude.{All}
use Rattle.discretise.proofs.SceneLemmas.{joints_within}
use Rattle.discretise.proofs.labels.labels_of.Goals as goal

pub place_labels-requires-clause-joints : goal.place_labels-requires-clause-joints
place_labels-requires-clause-joints c =
    let p = c.args.net.now in
    subst (λ (js : List ℕ). All (λ n. n < length p.nodes) js) (sym c.deref-2.ensures.value) (joints_within p c.args.grid.now.joints.items c.requires.grid.are_joints)
