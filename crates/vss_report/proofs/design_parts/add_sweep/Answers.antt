-- Why `add_sweep` does what its contract says.
use Rattle.vss_report.proofs.TakenLemmas.{adds_sweep}
use Rattle.vss_report.proofs.design_parts.add_sweep.Goals as goal

pub returns : goal.returns
returns c = rw (c.in_ok-push-2.ensures.items, c.in-Some.ensures.items, c.from_vec-sweeps.ensures, c.in_ok-push.ensures.items, c.into_vec-sweeps.ensures) (adds_sweep c.pop.new.self.items c.in-Some.field-0 c.args.sweep)
