-- Why `DesignParts::begin_run` does what its contract says.
use Rattle.std.proofs.Common.{refl}
use Rattle.vss_report.proofs.TakenLemmas.{run_taken}
use Rattle.vss_report.proofs.design_parts.DesignParts.begin_run.Goals as goal

pub returns : goal.returns
returns c = λ labels train next lines behind taken.
    run_taken labels lines c.args.self.now _ train c.args.start _ taken next refl c.new-sweeps.ensures refl refl refl c.in_ok-push.ensures.items
