-- Why `gathered` does what its contract says.
use Rattle.std.proofs.Common.{◌≡◌, ◌<◌, get_or, length, take, subst, sym}
use Rattle.std.proofs.lemmas.List.{get_or_default, take_more}
use Rattle.sweep_table.specs.Successions.{AreSuccessorLists}
use Rattle.sweep_table.specs.declared.successors.Succession.{Succession}
use Rattle.sweep_table.proofs.SuccessionLemmas.{gathered_one_more, no_higher_before, no_succession, none_gathered}
use Rattle.sweep_table.proofs.successors.gathered.Goals as goal

pub loop-place-init : goal.loop-place-init
loop-place-init c = none_gathered _ _ c.in_ok-lists.ensures.count c.in_ok-lists.ensures.none

pub loop-place-preserved : goal.loop-place-preserved
loop-place-preserved c =
    let all = c.args.successions.now in
    let place = c.loop-place.place in
    let within : place < length all = c.loop-place-test.true in
    let s : Succession = get_or all place no_succession in
    let at : get_or all place s ≡ s = get_or_default all place s no_succession within in
    let there = rw c.directed_number.ensures at c.in_ok-put_new.ensures.there in
    let new = rw c.directed_number.ensures at c.in_ok-put_new.ensures.new in
    subst (λ found. AreSuccessorLists found c.args.count c.put_new.new.lists.items) (sym (take_more all place no_succession within))
    (gathered_one_more (take place all) s c.args.count _ _ c.loop-place.invariant (c.requires.in_range place no_succession within) (no_higher_before all place s c.requires.rising within at) there new)
