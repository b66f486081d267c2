-- Why `mark` does what its contract says.
use Rattle.std.proofs.Common.{cond, ◌∙◌, ap, sym}
use Rattle.std.specs.Prelude.{nat_eq}
use Rattle.conflict_learn.proofs.WorkLemmas.{MarksOf-new, bool_byte_is}
use Rattle.conflict_learn.proofs.marking.mark.Goals as goal

pub returns-clause-marks : goal.returns-clause-marks
returns-clause-marks c = rw (c.mark.ensures.value) (MarksOf-new c.args.trail.now c.args.marks.now c.args.lit c.level.result c.from.result c.len-len.ensures.laws c.requires.long c.requires.assigned.0 (sym c.is_marked.ensures.value ∙ c.if-is_marked.false) c.level.ensures.value (c.from.ensures ∙ (bool_byte_is (nat_eq c.level.result c.now.result) ∙ ap (λ n. cond (nat_eq c.level.result n) 1 0) c.now.ensures.value)))
