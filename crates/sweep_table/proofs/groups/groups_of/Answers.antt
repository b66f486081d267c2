-- Why `groups_of` does what its contract says.
use Rattle.std.proofs.Common.{◌≡◌, length, refl, subst, arith}
use Rattle.sweep_table.specs.Groups.{AreGroupsBelow}
use Rattle.sweep_table.proofs.GroupLemmas.{none_grouped, grouped_more}
use Rattle.sweep_table.proofs.groups.groups_of.Goals as goal

pub loop-place-init : goal.loop-place-init
loop-place-init c = none_grouped _ _ c.in_ok-groups.ensures.count c.in_ok-groups.ensures.none

pub loop-place-preserved : goal.loop-place-preserved
loop-place-preserved c = grouped_more _ _ _ _ _ _ c.loop-place.invariant (c.requires.in_range c.loop-place.place 0 c.loop-place-test.true) refl refl (λ d. c.in_ok-put.ensures d)

pub returns : goal.returns
returns c = subst (λ n. AreGroupsBelow c.args.keys.now n c.loop-place.groups.items) (let e : c.loop-place.place ≡ length c.args.keys.now = omega arith in e) c.loop-place.invariant
