-- Why `lengthen_over` does what its contract says.
use Rattle.std.proofs.Common.{◌≡◌, ◌++◌, ◌∙◌, List, [], length, get_or, ap, sym, subst, arith}
use Rattle.std.specs.Prelude.{Contains, IfErr, OnOk}
use Rattle.std.specs.List.{flat_map}
use Rattle.std.proofs.lemmas.Bool.{eqb-true}
use Rattle.std.proofs.lemmas.List.{append-nil, nil_from_length}
use Rattle.std.proofs.lemmas.List.Elements.{Contains-get_or}
use Rattle.cell_net.specs.Space.{IsCell}
use Rattle.cell_net.specs.declared.ids.CellId.{CellId}
use Rattle.cell_net.specs.declared.parts.InstanceParts.{InstanceParts}
use Rattle.gap_clauses.specs.Fans.{AreBehind, IsStop, behind, longer, walk_at}
use Rattle.gap_clauses.specs.Walks.{Step, end_of}
use Rattle.gap_clauses.proofs.OnceLaws.{behind_new, over_no_more}
use Rattle.gap_clauses.proofs.OverLaws.{behind_is, over_no, over_nowhere, over_yes}
use Rattle.gap_clauses.proofs.WalkLaws.{end_is_cell, shares_cell}
use Rattle.gap_clauses.proofs.search.lengthen_over.Goals as goal

pub behind_last-cells-requires-clause-last : goal.behind_last-cells-requires-clause-last
behind_last-cells-requires-clause-last c =
    let w : List Step = walk_at c.args.fan.now.walks c.args.place in
    end_is_cell c.args.search.now.inst.now c.args.fan.now.first w (end_of c.args.fan.now.first w) c.requires.first c.requires.walk.leads

pub returns-then-is_empty-clause-ok : goal.returns-then-is_empty-clause-ok
returns-then-is_empty-clause-ok c =
    let p : InstanceParts = c.args.search.now.inst.now in
    let w : List Step = walk_at c.args.fan.now.walks c.args.place in
    let nowhere : behind p c.args.search.now.neighbours.now (end_of c.args.fan.now.first w) c.args.node ≡ [] = sym c.behind_last-cells.ensures ∙ nil_from_length c.behind_last-cells.result.now (eqb-true _ _ (sym c.is_empty.ensures ∙ c.if-is_empty.true)) in
    sym (append-nil c.args.fan.now.walks) ∙ ap (λ ws. c.args.fan.now.walks ++ ws) (sym (over_nowhere p c.args.search.now.neighbours.now c.args.fan.now.first c.args.node w nowhere))

pub goes_over-requires-clause-at_last : goal.goes_over-requires-clause-at_last
goes_over-requires-clause-at_last c one not_last =
    let size = ap length c.behind_last-cells.ensures in
    let few : length c.behind_last-cells.result.now ≡ 1 = eqb-true _ _ one in
    over_no_more c.args.search.now.inst.now c.args.search.now.neighbours.now c.args.fan.now.first (walk_at c.args.fan.now.walks c.args.place) c.args.node c.requires.rows c.requires.first c.requires.walk
    (omega (arith, size, few)) (omega (arith, size, few)) not_last

pub returns-then-goes_over-clause-ok : goal.returns-then-goes_over-clause-ok
returns-then-goes_over-clause-ok c =
    let none = over_no c.args.search.now.inst.now c.args.search.now.neighbours.now c.args.fan.now.first c.args.node (walk_at c.args.fan.now.walks c.args.place) (sym c.goes_over.ensures ∙ c.if-goes_over.true) in
    sym (append-nil c.args.fan.now.walks) ∙ ap (λ ws. c.args.fan.now.walks ++ ws) (sym none)

pub lengthen_into-requires-clause-cells : goal.lengthen_into-requires-clause-cells
lengthen_into-requires-clause-cells c k d h =
    let p : InstanceParts = c.args.search.now.inst.now in
    let w : List Step = walk_at c.args.fan.now.walks c.args.place in
    let e : CellId = end_of c.args.fan.now.first w in
    let here : IsCell p e = end_is_cell p c.args.fan.now.first w e c.requires.first c.requires.walk.leads in
    let are : AreBehind p e c.args.node (behind p c.args.search.now.neighbours.now e c.args.node) = behind_is p c.args.search.now.neighbours.now e c.args.node c.requires.rows here in
    let x : CellId = get_or c.behind_last-cells.result.now k d in
    let there : Contains (behind p c.args.search.now.neighbours.now e c.args.node) x = subst (λ cs. Contains cs x) c.behind_last-cells.ensures (Contains-get_or c.behind_last-cells.result.now k d h) in
    let cell = shares_cell p e c.args.node x ((are.which x).0 there).0 in
    omega (arith, cell, c.requires.cells)

pub lengthen_into-requires-clause-new : goal.lengthen_into-requires-clause-new
lengthen_into-requires-clause-new c k d h =
    let p : InstanceParts = c.args.search.now.inst.now in
    let w : List Step = walk_at c.args.fan.now.walks c.args.place in
    let x : CellId = get_or c.behind_last-cells.result.now k d in
    behind_new p c.args.search.now.neighbours.now c.args.fan.now.first w c.args.node x c.requires.rows c.requires.first c.requires.walk (sym c.goes_over.ensures ∙ c.if-goes_over.false)
    (subst (λ cs. Contains cs x) c.behind_last-cells.ensures (Contains-get_or c.behind_last-cells.result.now k d h))

pub returns-clause-ok : goal.returns-clause-ok
returns-clause-ok c =
    let w : List Step = walk_at c.args.fan.now.walks c.args.place in
    let all = over_yes c.args.search.now.inst.now c.args.search.now.neighbours.now c.args.fan.now.first c.args.node w (sym c.goes_over.ensures ∙ c.if-goes_over.false) in
    subst (λ (ws : List (List Step)). OnOk c.lengthen_into.result (c.lengthen_into.new.fan.walks ≡ c.args.fan.now.walks ++ ws)) (ap (flat_map (longer c.args.fan.now.first c.args.node w)) c.behind_last-cells.ensures ∙ sym all) c.lengthen_into.ensures.ok

pub returns-clause-err : goal.returns-clause-err
returns-clause-err c =
    let w : List Step = walk_at c.args.fan.now.walks c.args.place in
    let all = over_yes c.args.search.now.inst.now c.args.search.now.neighbours.now c.args.fan.now.first c.args.node w (sym c.goes_over.ensures ∙ c.if-goes_over.false) in
    subst (λ (ws : List (List Step)). IfErr c.lengthen_into.result (IsStop c.args.fan.now.first (c.args.fan.now.walks ++ ws))) (ap (flat_map (longer c.args.fan.now.first c.args.node w)) c.behind_last-cells.ensures ∙ sym all) c.lengthen_into.ensures.err
