-- One text more.
use Rattle.std.proofs.Common.{arith}
use Rattle.case_maker.specs.Networks.{nodes_of}
use Rattle.case_maker.proofs.LoopLemmas.{one_more}
use Rattle.case_maker.proofs.network.put_each_nodes.Goals as goal

pub loop-i-preserved : goal.loop-i-preserved
loop-i-preserved c = one_more nodes_of 1 c.loop-i.i c.args.out.now.items c.loop-i.out.items c.put_nodes_of.new.out.items (omega arith) c.loop-i.invariant c.in_ok-put_nodes_of.ensures
