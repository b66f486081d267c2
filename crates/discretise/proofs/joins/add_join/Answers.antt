-- Why `add_join` does what its contract says.
use Rattle.std.proofs.Common.{subst, sym, List}
use Rattle.cell_net.specs.declared.cells.JoinSpec.{JoinSpec}
use Rattle.discretise.specs.Joins.{AddsJoins, pair_with}
use Rattle.std.specs.Prelude.{◌∷◌, []}
use Rattle.discretise.proofs.JoinLemmas.{adds_not, adds_one}
use Rattle.discretise.proofs.joins.add_join.Goals as goal

pub returns-in_ok-push : goal.returns-in_ok-push
returns-in_ok-push c =
    subst (λ (js : List JoinSpec). AddsJoins c.args.net.now (pair_with c.args.node c.args.end c.args.other ∷ []) c.args.joins.now.items js) (sym c.in_ok-push.ensures.items)
    (adds_one c.args.net.now (pair_with c.args.node c.args.end c.args.other) c.args.joins.now.items (c.passage.ensures.0 c.if-passage.true))

pub returns-else-passage : goal.returns-else-passage
returns-else-passage c =
    adds_not c.args.net.now (pair_with c.args.node c.args.end c.args.other) c.args.joins.now.items (λ leads. let told = c.if-passage.ensures.1 leads in absurd cc)
