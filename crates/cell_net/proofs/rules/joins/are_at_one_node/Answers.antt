-- Why `are_at_one_node` does what its contract says.
use Rattle.std.proofs.Common.{◌≡◌, subst}
use Rattle.cell_net.specs.Rules.{IsNodeOf}
use Rattle.cell_net.proofs.RuleLemmas.{one_node}
use Rattle.cell_net.proofs.rules.joins.are_at_one_node.Goals as goal

pub returns-in-Some : goal.returns-in-Some
returns-in-Some c = (
  λ there. (c.in-Some.node, c.in-Some.ensures, c.is_node_of.ensures.0 there),
  λ both. let same : both.0 ≡ c.in-Some.node = one_node _ _ _ _ both.1 c.in-Some.ensures in
      c.is_node_of.ensures.1 (subst (IsNodeOf c.args.parts.now c.args.other) same both.2),
)
