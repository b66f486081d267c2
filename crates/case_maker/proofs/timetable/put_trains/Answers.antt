-- One text more.
use Rattle.std.proofs.Common.{arith}
use Rattle.case_maker.specs.Timetables.{train_of}
use Rattle.case_maker.proofs.LoopLemmas.{one_more}
use Rattle.case_maker.proofs.timetable.put_trains.Goals as goal

pub loop-train-preserved : goal.loop-train-preserved
loop-train-preserved c = one_more (train_of c.args.seed c.args.size) 0 c.loop-train.train c.args.out.now.items c.loop-train.out.items c.put_train.new.out.items (omega arith) c.loop-train.invariant c.in_ok-put_train.ensures
