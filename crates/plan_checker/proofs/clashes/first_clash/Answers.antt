-- Why `first_clash` does what its contract says.
use Rattle.plan_checker.proofs.ClashLemmas.{is_sound}
use Rattle.plan_checker.proofs.clashes.first_clash.Goals as goal

pub first_clash_in-requires-clause-sound : goal.first_clash_in-requires-clause-sound
first_clash_in-requires-clause-sound c = is_sound _ c.parts.ensures.rules c.requires.classes (rw c.as_slice.ensures c.requires.runs)
