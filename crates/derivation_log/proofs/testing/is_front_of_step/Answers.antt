-- Why `is_front_of_step` does what its contract says.
use Rattle.std.proofs.Common.{◌≡◌, true, false}
use Rattle.derivation_log.proofs.NumberLemmas.{none_left, empty_is}
use Rattle.derivation_log.proofs.StepLemmas.{front_whole, no_front, front_wrong}
use Rattle.derivation_log.proofs.testing.is_front_of_step.Goals as goal

pub returns-in-Ok : goal.returns-in-Ok
returns-in-Ok c = (
  λ empty. front_whole c.args.bytes.now c.in-Ok.rest.now c.in-Ok.field-0-0 c.in-Ok.ensures.found (none_left c.in-Ok.rest.now c.is_empty.result c.is_empty.ensures empty),
  λ front. empty_is c.in-Ok.rest.now c.is_empty.result c.is_empty.ensures (no_front c.args.bytes.now c.in-Ok.rest.now c.in-Ok.field-0-0 c.in-Ok.ensures.found front),
)

pub returns-in-Err-Wrong : goal.returns-in-Err-Wrong
returns-in-Err-Wrong c = (λ never. absurd (let same : false ≡ true = never in cc), λ front. absurd (front_wrong c.args.bytes.now (rw c.in-Err-Wrong.field-0-is at c.in-Err-Wrong.ensures.missed) front))
