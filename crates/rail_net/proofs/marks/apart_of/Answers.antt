-- Why `apart_of` does what its contract says.
use Rattle.std.proofs.Common.{◌≡◌, ◌<◌, subst, sym, ap, ◌∙◌}
use Rattle.std.specs.List.{All}
use Rattle.rail_net.specs.Entries.{AreMixed}
use Rattle.rail_net.specs.Tables.{paired}
use Rattle.rail_net.proofs.NodeLemmas.{keys_below}
use Rattle.rail_net.proofs.SectionLemmas.{are_apart, paired_keys}
use Rattle.rail_net.proofs.marks.apart_of.Goals as goal

pub mixed-requires : goal.mixed-requires
mixed-requires c =
    let p = c.args.parts.now in
    let homes = c.args.homes.now in
    let groups = c.in_ok-groups.groups.items in
    let seen : c.deref-2.result.now ≡ paired homes groups = c.deref-2.ensures.value ∙ (c.in_ok-entries.ensures ∙ ap (paired homes) c.deref.ensures.value) in
    subst (All (λ e. e.key < c.len.result)) (sym seen)
    (keys_below (paired homes groups) c.len.result (paired_keys p c.args.ends.now homes c.requires.ends c.requires.new c.requires.homes c.requires.once groups c.len.result c.len.ensures))

pub returns : goal.returns
returns c =
    let p = c.args.parts.now in
    let homes = c.args.homes.now in
    let groups = c.in_ok-groups.groups.items in
    let marks = c.in_ok-marks.marks.items in
    let seen : c.deref-2.result.now ≡ paired homes groups = c.deref-2.ensures.value ∙ (c.in_ok-entries.ensures ∙ ap (paired homes) c.deref.ensures.value) in
    are_apart p c.args.ends.now homes c.requires.ends c.requires.new c.requires.homes c.requires.once groups c.in_ok-groups.ensures.len c.in_ok-groups.ensures.reach marks
    (c.in_ok-marks.ensures.len ∙ c.len.ensures) (subst (λ es. AreMixed es marks) seen c.in_ok-marks.ensures.marks)
