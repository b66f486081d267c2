-- The parts of every scene keep the rules of an instance, and have its labels.
use Rattle.discretise.proofs.InstanceLemmas.{is_instance}
use Rattle.discretise.proofs.LabelLemmas.{labelled}
use Rattle.discretise.proofs.laws.scenes_are_instances.Goals as goal

pub returns : goal.returns
returns c p t net timed kept i l is = (
  is_instance p t is.tracks is.joints i net timed kept is.are_tracks is.are_joints is.parts,
  labelled p t is.tracks is.joints net timed is.are_tracks is.are_joints i l is.parts is.names,
)
