-- Why `node_of_joint` does what its contract says.
use Rattle.discretise.proofs.KeptLemmas.{joint_named}
use Rattle.discretise.proofs.TrackLemmas.{node_there}
use Rattle.discretise.proofs.kept.node_of_joint.Goals as goal

pub unreachable-requires : goal.unreachable-requires
unreachable-requires c = let there = joint_named c.args.net.now c.args.name.now c.requires in c.in_default.ensures there.0 there.1

pub returns-clause-within : goal.returns-clause-within
returns-clause-within c = node_there c.args.net.now c.in-Some.number c.args.name.now c.in-Some.ensures
