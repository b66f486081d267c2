-- Why `sweeps_of` does what its contract says.
use Rattle.std.proofs.Common.{refl}
use Rattle.std.proofs.lemmas.Result.{IfOk-weaker, IfErr-weaker}
use Rattle.sweep_table.proofs.BuildLemmas.{are_sweeps, too_many}
use Rattle.sweep_table.proofs.build.sweeps_of.Goals as goal

pub returns-in-Ok-clause-sweeps : goal.returns-in-Ok-clause-sweeps
returns-in-Ok-clause-sweeps c = IfOk-weaker c.gather.result _ _ (λ sweeps is. are_sweeps _ _ _ _ sweeps c.requires c.in-Ok.ensures refl is) c.gather.ensures.ok

pub returns-in-Ok-clause-refusal : goal.returns-in-Ok-clause-refusal
returns-in-Ok-clause-refusal c = IfErr-weaker c.gather.result _ _ (λ refusal fault. too_many _ _ _ _ refusal c.requires c.in-Ok.ensures refl fault) c.gather.ensures.err
