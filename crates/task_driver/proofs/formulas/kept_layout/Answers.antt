-- Why the kept borders are a layout.
use Rattle.std.proofs.Common.{◌≡◌, ◌≤◌, ◌∙◌, ◌++◌, length, ap, arith}
use Rattle.task_driver.proofs.Truth.{kept_layout, layout_counts}
use Rattle.task_driver.proofs.formulas.kept_layout.Goals as goal

pub new-requires : goal.new-requires
new-requires c =
    let all : c.extend_from_slice.new.self.items ≡ c.args.inst.now.kept = c.in_ok-extend_from_slice.ensures.items ∙ (ap (λ xs. xs ++ c.kept.result.now) c.new-borders.ensures.items ∙ c.kept.ensures) in
    let few : length c.args.inst.now.kept ≤ length c.args.inst.now.candidates = (layout_counts c.args.inst.now c.parts-parts.ensures.rules c.args.inst.now.kept (kept_layout c.args.inst.now c.parts-parts.ensures.rules)).1 in
    omega (arith, ap length all, c.parts-parts.ensures.rules.few_candidates)
