-- Why `stands_at` does what its contract says.
use Rattle.std.proofs.Common.{sym}
use Rattle.plan_checker.proofs.StopLemmas.{stands_there}
use Rattle.plan_checker.proofs.stops.stands_at.Goals as goal

pub returns-in-Some : goal.returns-in-Some
returns-in-Some c =
    let told = rw c.as_slice.ensures at c.stands.ensures in
    let at = stands_there c.args.inst.now c.args.train.now c.args.run.now c.args.stop.station c.args.place c.in-Some.sweep.now (sym c.in-Some.ensures.value) in
    (λ holds. at.0 (told.0 holds), λ stands. told.1 (at.1 stands))
