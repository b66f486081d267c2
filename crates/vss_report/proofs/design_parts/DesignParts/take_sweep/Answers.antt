-- Why `DesignParts::take_sweep` does what its contract says.
use Rattle.std.proofs.Common.{refl}
use Rattle.vss_report.proofs.PlaceRuns.{run_before}
use Rattle.vss_report.proofs.TakenLemmas.{sweep_taken}
use Rattle.vss_report.proofs.design_parts.DesignParts.take_sweep.Goals as goal

pub returns-in-Ok-clause-ok : goal.returns-in-Ok-clause-ok
returns-in-Ok-clause-ok c = λ named is_text lines behind taken.
    let found = (rw c.in-Ok-Some.field-0-is at c.in-Ok-Some.ensures) named is_text in
    sweep_taken c.args.scene.now.labels lines c.args.self.now _ named c.in-Ok-Some.sweep taken (run_before behind.at lines behind.leads behind.may_stand.among) found.0 found.1 c.in-Ok.ensures refl refl refl
