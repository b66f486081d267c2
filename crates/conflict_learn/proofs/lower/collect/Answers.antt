-- Why `collect` does what its contract says.
use Rattle.std.proofs.Common.{◌∙◌, inl, inr, ap, arith, get_or}
use Rattle.std.proofs.lemmas.Bool.{cases_eq}
use Rattle.conflict_learn.proofs.LowerLemmas.{place_is}
use Rattle.conflict_learn.proofs.lower.collect.Goals as goal

pub loop-var-preserved : goal.loop-var-preserved
loop-var-preserved c = λ k below within at. elim (cases_eq at.0 c.loop-var.var-index) [
  | inl here ↦ c.in_ok-note.ensures.noted k below (place_is c.args.trail.now (get_or c.args.touched.now c.loop-var.var-index (record { 0 = 0 })).0 k c.place.result c.requires.laws within (λ e. at.2 (record { 0 = 0 }) e ∙ ap (λ n. (get_or c.args.touched.now n (record { 0 = 0 })).0) here) c.place.ensures.value)
  | inr apart ↦ c.in_ok-note.ensures.kept k (c.loop-var.invariant k below within (at.0, omega (arith, at.1), at.2))
]

pub returns : goal.returns
returns c = record { all = λ k below within at. c.loop-var.invariant k below within (at.0, omega (arith, at.1), at.2) }
