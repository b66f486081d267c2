-- Why `Gathered::take` does what its contract says.
use Rattle.std.proofs.Common.{◌<◌, ◌++◌, ◌∷◌, [], List, length, refl}
use Rattle.vss_report.specs.Lines.{ReportLine}
use Rattle.vss_report.specs.Readings.{SaysLine}
use Rattle.vss_report.specs.Refutations.{steps_of_lines}
use Rattle.vss_report.proofs.RefutationLemmas.{on_err_any, steps_some, gathered_refutes, gathered_step, gathered_other, says_other, other_read}
use Rattle.vss_report.proofs.gathered.Gathered.take.Goals as goal

pub returns-in_err-step-in-Step-clause-err : goal.returns-in_err-step-in-Step-clause-err
returns-in_err-step-in-Step-clause-err c =
    let some : (lines : List ReportLine) (l : ReportLine) → SaysLine c.args.line.now l → 0 < length (steps_of_lines (lines ++ l ∷ [])) = λ lines l says. steps_some c.args.line.now c.in-Step.text lines l c.in-Step.is says in
    on_err_any _ _ some

pub returns-in_err-push-in-Step-clause-err : goal.returns-in_err-push-in-Step-clause-err
returns-in_err-push-in-Step-clause-err c =
    let some : (lines : List ReportLine) (l : ReportLine) → SaysLine c.args.line.now l → 0 < length (steps_of_lines (lines ++ l ∷ [])) = λ lines l says. steps_some c.args.line.now c.in-Step.text lines l c.in-Step.is says in
    on_err_any _ _ some

pub returns-in-Refutes-clause-ok : goal.returns-in-Refutes-clause-ok
returns-in-Refutes-clause-ok c = λ lines l before fits says counted.
    gathered_refutes c.args.line.now c.in-Refutes.bound lines l c.args.self.now _ c.args.number c.in-Refutes.is says counted refl refl before

pub returns-in_ok-push-in-Step-clause-ok : goal.returns-in_ok-push-in-Step-clause-ok
returns-in_ok-push-in-Step-clause-ok c = λ lines l before fits says counted.
    gathered_step c.args.line.now c.in-Step.text c.in_ok-step-in-Step.step lines l c.args.self.now _ c.in-Step.is says fits c.in_ok-step-in-Step.ensures.only refl c.in_ok-push-in-Step.ensures.items before

pub returns-in_default-clause-ok : goal.returns-in_default-clause-ok
returns-in_default-clause-ok c = λ lines l before fits says counted.
    gathered_other lines l c.args.self.now (says_other c.args.line.now l (other_read c.args.line.now c.in_default.not-Refutes c.in_default.not-Step) says) before
