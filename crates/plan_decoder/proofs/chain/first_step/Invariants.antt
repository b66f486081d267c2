-- What the loop of `first_step` keeps: the first step is the one from here on.
use Rattle.std.specs.Prelude.{◌≡◌, ◌-◌}
use Rattle.plan_laws.specs.Telling.{first_step, told_step}
use Rattle.plan_decoder.proofs.chain.first_step.Given as goal

abbrev pub invariant-loop-step : goal.invariant-loop-step
invariant-loop-step l = told_step l.values l.train ≡ first_step l.values l.train (l.train.latest - l.step) l.step
