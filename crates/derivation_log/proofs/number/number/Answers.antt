-- Why `number` does what its contract says.
use Rattle.std.proofs.Common.{◌≡◌, ◌≢◌, true, false, arith, refl}
use Rattle.std.specs.Prelude.{slice_index}
use Rattle.derivation_log.proofs.NumberLemmas.{not_zero, never_zero, log_misses}
use Rattle.derivation_log.proofs.number.number.Goals as goal

pub returns-then-begins_with-clause-missed : goal.returns-then-begins_with-clause-missed
returns-then-begins_with-clause-missed c = never_zero c.args.text.now (c.if-begins_with.ensures.0 refl)

pub returns-in-Ok-clause-in_range : goal.returns-in-Ok-clause-in_range
returns-in-Ok-clause-in_range c =
    let no_zero_first : slice_index c.args.text.now 0 ≢ 48 = λ zero. let never : false ≡ true = c.if-begins_with.ensures.1 zero in cc in
    let some : c.in-Ok.value ≢ 0 = not_zero c.in-Ok.value c.args.text.now c.in-Ok.rest.now no_zero_first c.in-Ok.ensures.found in
    (omega arith, omega (arith, c.in-Ok.ensures.short))

pub returns-in-Err-clause-missed : goal.returns-in-Err-clause-missed
returns-in-Err-clause-missed c = log_misses c.args.text.now c.in-Err.miss (λ zero. let never : false ≡ true = c.if-begins_with.ensures.1 zero in cc) c.in-Err.ensures.missed
