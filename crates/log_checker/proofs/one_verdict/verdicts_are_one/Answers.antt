-- Why `verdicts_are_one` does what its contract says.
use Rattle.sat_core.proofs.StepLaws.{accepted_no_fault, one_fault}
use Rattle.log_checker.proofs.VerdictLemmas.{one_verdict}
use Rattle.log_checker.proofs.one_verdict.verdicts_are_one.Goals as goal

pub returns : goal.returns
returns c = record { one_verdict = one_verdict; accepted = accepted_no_fault; one_fault = one_fault }
