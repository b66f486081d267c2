-- Why `splits_of` does what its contract says.
use Rattle.std.proofs.Common.{◌<◌, subst, sym, ◌∙◌}
use Rattle.std.specs.List.{All}
use Rattle.rail_net.specs.Entries.{AreMixed}
use Rattle.rail_net.proofs.NodeLemmas.{spread_within}
use Rattle.rail_net.proofs.SectionLemmas.{are_splits}
use Rattle.rail_net.proofs.marks.splits_of.Goals as goal

pub mixed-requires : goal.mixed-requires
mixed-requires c =
    subst (All (λ e. e.key < c.len.result)) (sym (c.deref.ensures.value ∙ c.in_ok-entries.ensures))
    (spread_within c.args.parts.now c.args.ends.now c.args.homes.now c.requires.ends c.len.result c.len.ensures)

pub returns : goal.returns
returns c =
    are_splits c.args.parts.now c.args.ends.now c.args.homes.now c.requires.ends c.requires.new c.requires.homes c.requires.once c.in_ok-marks.marks.items
    (c.in_ok-marks.ensures.len ∙ c.len.ensures)
    (subst (λ es. AreMixed es c.in_ok-marks.marks.items) (c.deref.ensures.value ∙ c.in_ok-entries.ensures) c.in_ok-marks.ensures.marks)
