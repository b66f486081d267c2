-- Why `generate` does what its contract says.
use Rattle.std.proofs.Common.{ℕ, ◌∙◌, ap, min}
use Rattle.derivation_log.specs.declared.step.Bound.TheVariants.{AtMost}
use Rattle.task_driver.specs.Questions.{of_at_most}
use Rattle.task_driver.proofs.given.generate.Goals as goal

pub returns : goal.returns
returns g c = c.search_once.ensures (of_at_most c.args.most) (ap AtMost (c.min-bound.ensures ∙ ap (λ (n : ℕ). min c.args.most n) c.candidate_count.ensures.value))
