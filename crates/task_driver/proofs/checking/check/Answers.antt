-- Why `check` does what its contract says.
use Rattle.task_driver.proofs.EncodingLemmas.{verdict_of}
use Rattle.task_driver.proofs.checking.check.Goals as goal

pub returns-in-Ok : goal.returns-in-Ok
returns-in-Ok c = verdict_of c.args.inst.now c.args.refutation.now c.in_ok-encoded.encoded.formula c.in_ok-encoded.encoded.map c.in-Ok.verdict c.in_ok-encoded.ensures.ok c.in-Ok.ensures.verdict
