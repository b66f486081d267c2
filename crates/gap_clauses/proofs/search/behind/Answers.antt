-- Why `behind` does what its contract says.
use Rattle.std.proofs.Common.{◌∙◌, [], sym}
use Rattle.std.proofs.lemmas.Bool.{eq-eqb, ne_eqb}
use Rattle.gap_clauses.proofs.OverLaws.{behind_high, behind_low, behind_none}
use Rattle.gap_clauses.proofs.search.behind.Goals as goal

pub returns-then-spec-node : goal.returns-then-spec-node
returns-then-spec-node c = sym (behind_low c.args.search.now.inst.now c.args.search.now.neighbours.now c.args.cell c.args.node c.cell-spec.result c.cell-spec.ensures (eq-eqb _ _ c.if-spec-node.true) ∙ c.row.ensures.item [])

pub returns-then-spec-node-2 : goal.returns-then-spec-node-2
returns-then-spec-node-2 c = sym (behind_high c.args.search.now.inst.now c.args.search.now.neighbours.now c.args.cell c.args.node c.cell-spec.result c.cell-spec.ensures (ne_eqb _ _ c.if-spec-node.false) (eq-eqb _ _ c.if-spec-node-2.true) ∙ c.row-then-spec-node-2.ensures.item [])

pub returns-else-spec-node-2 : goal.returns-else-spec-node-2
returns-else-spec-node-2 c = sym (behind_none c.args.search.now.inst.now c.args.search.now.neighbours.now c.args.cell c.args.node c.cell-spec.result c.cell-spec.ensures (ne_eqb _ _ c.if-spec-node.false) (ne_eqb _ _ c.if-spec-node-2.false))
