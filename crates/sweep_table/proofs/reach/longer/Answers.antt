-- Why `longer` does what its contract says.
use Rattle.std.proofs.Common.{◌≡◌, ◌∙◌, List, false, ap, get_or, rules, sym}
use Rattle.cell_net.specs.declared.cells.DirCell.{DirCell}
use Rattle.sweep_table.proofs.ReachLemmas.{longer_is_dead, slow_is_dead}
use Rattle.sweep_table.proofs.reach.longer.Goals as goal

pub returns-then-not-is_within_limit : goal.returns-then-not-is_within_limit
returns-then-not-is_within_limit c = λ more few some.
    let slow : c.is_within_limit.result ≡ false = search rules in
    slow_is_dead _ _ _ _ more c.args.directed (sym c.is_within_limit.ensures ∙ slow)

pub returns-then-furthest-round : goal.returns-then-furthest-round
returns-then-furthest-round c = λ more few low.
    let row = λ (e : List DirCell). ap (λ n. get_or c.args.growth.now.after.now n e) (sym c.directed_number.ensures) ∙ c.row-next.ensures.item e in
    longer_is_dead _ _ _ _ c.args.round _ more c.furthest_of-furthest.result c.args.reach.now c.args.directed _ c.requires.so_far c.requires.after c.requires.cell row c.furthest_of-furthest.ensures few low
