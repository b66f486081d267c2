-- Why `DesignParts::take_run` does what its contract says.
use Rattle.std.proofs.Common.{◌≡◌, false, true, inl, inr, refl}
use Rattle.vss_report.proofs.TakenLemmas.{out_of_turn}
use Rattle.vss_report.proofs.design_parts.DesignParts.take_run.Goals as goal

pub returns-in-Ok-clause-ok : goal.returns-in-Ok-clause-ok
returns-in-Ok-clause-ok c = c.in-Ok.ensures c.args.scene.now.labels c.args.train.now (rw c.as_slice.ensures.value at c.if-is_due.ensures.0 refl)

pub returns-then-has_all_runs-clause-err : goal.returns-then-has_all_runs-clause-err
returns-then-has_all_runs-clause-err c = λ lines behind taken.
    (refl, out_of_turn c.args.scene.now.labels lines c.args.self.now c.args.train.now taken (λ is. let wrong : false ≡ true = c.if-is_due.ensures.1 (rw c.as_slice.ensures.value is) in cc) (inl (rw c.as_slice-trains.ensures at c.if-has_all_runs.ensures.0 refl)))

pub returns-then-is_train-clause-err : goal.returns-then-is_train-clause-err
returns-then-is_train-clause-err c = λ lines behind taken.
    (refl, out_of_turn c.args.scene.now.labels lines c.args.self.now c.args.train.now taken (λ is. let wrong : false ≡ true = c.if-is_due.ensures.1 (rw c.as_slice.ensures.value is) in cc) (inr (rw c.as_slice-trains.ensures at c.if-is_train.ensures.0 refl)))
