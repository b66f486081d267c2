-- Why `read_step` does what its contract says.
use Rattle.std.proofs.Common.{length, ap, arith}
use Rattle.derivation_log.proofs.NumberLemmas.{some_left}
use Rattle.derivation_log.proofs.StepLemmas.{is_begun, missed_line}
use Rattle.derivation_log.proofs.read.read_step.Goals as goal

pub returns-then-not-is_empty-clause-bad : goal.returns-then-not-is_empty-clause-bad
returns-then-not-is_empty-clause-bad c = λ _ step range is.
    let begun = is_begun c.args.line.now c.in-Ok.rest.now c.in-Ok.text c.in-Ok.ensures.found.step step c.in-Ok.ensures.found range is in
    omega (arith, some_left c.in-Ok.rest.now c.is_empty.result c.is_empty.ensures c.if-not-is_empty.true, ap length begun.0)

pub returns-in-Err-clause-bad : goal.returns-in-Err-clause-bad
returns-in-Err-clause-bad c = λ _. missed_line c.args.line.now c.in-Err.field-0 c.in-Err.ensures.missed

pub returns-in-Ok-read-clause-only : goal.returns-in-Ok-read-clause-only
returns-in-Ok-read-clause-only c = λ other range is.
    c.in-Ok-read.ensures.only other range (is_begun c.args.line.now c.in-Ok.rest.now c.in-Ok.text c.in-Ok.ensures.found.step other c.in-Ok.ensures.found range is).1
