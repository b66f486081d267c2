-- Why `test_nodes` does what its contract says.
use Rattle.std.proofs.Common.{refl}
use Rattle.rail_net.specs.Refusals.{node_rules}
use Rattle.rail_net.specs.declared.refusal.ListKind.TheVariants.{Nodes, Tracks}
use Rattle.rail_net.specs.declared.refusal.NetFault.TheVariants.{NodeDegree, TipNotHere, PairsNotHere, LoopTrack}
use Rattle.rail_net.proofs.OrderLemmas.{told_place}
use Rattle.rail_net.proofs.build.test_nodes.Goals as goal

pub returns-in-Some-clause-refusal : goal.returns-in-Some-clause-refusal
returns-in-Some-clause-refusal c = told_place (node_rules c.args.parts.now) 0 NodeDegree Nodes c.in-Some.item c.named.result c.named.ensures (c.in-Some.item, refl, c.in-Some.ensures)

pub returns-in-Some-first_bad_tip-clause-refusal : goal.returns-in-Some-first_bad_tip-clause-refusal
returns-in-Some-first_bad_tip-clause-refusal c = told_place (node_rules c.args.parts.now) 1 TipNotHere Nodes c.in-Some-first_bad_tip.item c.named-in-Some-first_bad_tip.result c.named-in-Some-first_bad_tip.ensures (c.in-None.ensures, (c.in-Some-first_bad_tip.item, refl, c.in-Some-first_bad_tip.ensures))

pub returns-in-Some-first_bad_pairs-clause-refusal : goal.returns-in-Some-first_bad_pairs-clause-refusal
returns-in-Some-first_bad_pairs-clause-refusal c = told_place (node_rules c.args.parts.now) 2 PairsNotHere Nodes c.in-Some-first_bad_pairs.item c.named-in-Some-first_bad_pairs.result c.named-in-Some-first_bad_pairs.ensures (c.in-None.ensures, (c.in-None-first_bad_tip.ensures, (c.in-Some-first_bad_pairs.item, refl, c.in-Some-first_bad_pairs.ensures)))

pub returns-in-Some-first_loop-clause-refusal : goal.returns-in-Some-first_loop-clause-refusal
returns-in-Some-first_loop-clause-refusal c = told_place (node_rules c.args.parts.now) 3 LoopTrack Tracks c.in-Some-first_loop.item c.named-in-Some-first_loop.result c.named-in-Some-first_loop.ensures (c.in-None.ensures, (c.in-None-first_bad_tip.ensures, (c.in-None-first_bad_pairs.ensures, (c.in-Some-first_loop.item, refl, c.in-Some-first_loop.ensures))))
