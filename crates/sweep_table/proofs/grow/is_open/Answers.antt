-- Why `is_open` does what its contract says.
use Rattle.std.proofs.Common.{◌<◌, ◌∙◌, get_or, subst, sym}
use Rattle.std.proofs.lemmas.Bool.{leb-false}
use Rattle.sweep_table.specs.Reach.{reach_of}
use Rattle.sweep_table.proofs.GrowLemmas.{branch_no}
use Rattle.sweep_table.proofs.ReachLemmas.{beyond_reach}
use Rattle.sweep_table.proofs.grow.is_open.Goals as goal

pub returns-then-may_go_on-clause-closed : goal.returns-then-may_go_on-clause-closed
returns-then-may_go_on-clause-closed c = λ short.
    let low : get_or c.args.reach.now c.directed_number.result 0 < c.args.more = leb-false c.args.more (get_or c.args.reach.now c.directed_number.result 0) short in
    let over : reach_of c.args.reach.now c.args.directed < c.args.more = subst (λ n. get_or c.args.reach.now n 0 < c.args.more) c.directed_number.ensures low in
    beyond_reach _ _ _ _ c.args.more c.args.reach.now c.args.directed c.args.path.now c.requires.reach c.requires.cell c.requires.within over

pub returns-else-may_go_on-clause-closed : goal.returns-else-may_go_on-clause-closed
returns-else-may_go_on-clause-closed c = λ _. branch_no _ _ _ _ _ _ _ (sym c.may_go_on.ensures ∙ c.if-may_go_on.false)
