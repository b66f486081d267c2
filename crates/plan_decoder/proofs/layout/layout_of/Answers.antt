-- Why the borders that stand are a layout's.
use Rattle.std.proofs.Common.{◌≡◌, ◌≤◌, ◌∙◌, ap, length, arith}
use Rattle.plan_laws.specs.Telling.{told_layout}
use Rattle.plan_decoder.proofs.LayoutLemmas.{layout_few, told_is_set}
use Rattle.plan_decoder.proofs.layout.layout_of.Goals as goal

pub new-requires : goal.new-requires
new-requires c =
    let few : length (told_layout c.args.values.now c.args.map.now.candidates) ≤ c.args.map.now.candidates = layout_few c.args.values.now c.args.map.now.candidates in
    let size : length c.in_ok-borders.borders.items ≡ length (told_layout c.args.values.now c.args.map.now.candidates) = ap length c.in_ok-borders.ensures in
    let same : c.args.map.now.candidates ≡ length c.args.inst.now.candidates = c.requires in
    omega (arith, c.candidate_count-count.ensures.value, c.candidate_count-count.ensures.few)

pub unreachable-requires : goal.unreachable-requires
unreachable-requires c = c.layout_refusals_are_exclusive.ensures.borders c.args.inst.now c.in_ok-borders.borders.items c.in-Err.field-0 c.in-Err.ensures.refusal (told_is_set c.args.values.now c.args.inst.now c.in_ok-borders.borders.items (c.in_ok-borders.ensures ∙ ap (told_layout c.args.values.now) c.requires))
