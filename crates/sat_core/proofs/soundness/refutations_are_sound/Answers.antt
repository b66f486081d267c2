-- Why `refutations_are_sound` does what its contract says.
use Rattle.sat_core.proofs.SoundnessLemmas.{refuted_is_unsatisfiable}
use Rattle.sat_core.proofs.soundness.refutations_are_sound.Goals as goal

pub returns : goal.returns
returns c = refuted_is_unsatisfiable
