-- One text more.
use Rattle.std.proofs.Common.{arith}
use Rattle.case_maker.specs.Networks.{station_of}
use Rattle.case_maker.proofs.LoopLemmas.{one_more}
use Rattle.case_maker.proofs.network.put_each_station.Goals as goal

pub loop-i-preserved : goal.loop-i-preserved
loop-i-preserved c = one_more station_of 1 c.loop-i.i c.args.out.now.items c.loop-i.out.items c.put_station.new.out.items (omega arith) c.loop-i.invariant c.in_ok-put_station.ensures
