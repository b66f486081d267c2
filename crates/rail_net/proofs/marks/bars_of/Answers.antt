-- Why `bars_of` does what its contract says.
use Rattle.std.proofs.Common.{◌<◌, subst, sym, ◌∙◌}
use Rattle.std.specs.List.{All}
use Rattle.rail_net.specs.Entries.{AreMixed}
use Rattle.rail_net.proofs.NodeLemmas.{keys_below}
use Rattle.rail_net.proofs.SectionLemmas.{are_bars, bars, bars_within}
use Rattle.rail_net.proofs.marks.bars_of.Goals as goal

pub mixed-requires : goal.mixed-requires
mixed-requires c =
    subst (All (λ e. e.key < c.len.result)) (sym (c.deref.ensures.value ∙ c.in_ok-entries.ensures))
    (keys_below (bars c.args.parts.now c.args.ends.now) c.len.result (bars_within c.args.parts.now c.args.ends.now c.requires.ends c.requires.new c.len.result c.len.ensures))

pub returns : goal.returns
returns c =
    are_bars c.args.parts.now c.args.ends.now c.requires.ends c.requires.new c.in_ok-marks.marks.items
    (c.in_ok-marks.ensures.len ∙ c.len.ensures)
    (subst (λ es. AreMixed es c.in_ok-marks.marks.items) (c.deref.ensures.value ∙ c.in_ok-entries.ensures) c.in_ok-marks.ensures.marks)
