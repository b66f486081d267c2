-- Why `refuted_searches_are_sound` does what its contract says.
use Rattle.sat_core.proofs.SoundnessLemmas.{refuted_with_units}
use Rattle.sat_core.proofs.soundness.refuted_searches_are_sound.Goals as goal

pub returns : goal.returns
returns c = refuted_with_units
