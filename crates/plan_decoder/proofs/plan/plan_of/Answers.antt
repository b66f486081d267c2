-- The steps of the loop over trains.
use Rattle.std.proofs.Common.{◌∙◌, arith}
use Rattle.clause_encoder.specs.TableLists.{tables_of}
use Rattle.plan_laws.specs.Telling.{told_run_of}
use Rattle.plan_decoder.proofs.PlanLemmas.{runs_none, runs_more, one_run}
use Rattle.plan_decoder.proofs.plan.plan_of.Goals as goal

pub loop-train-init : goal.loop-train-init
loop-train-init g c = c.new-runs.ensures.items ∙ runs_none (told_run_of c.args.values.now (tables_of g.M.Moves.table c.args.inst.now c.args.tables.now) c.args.map.now.trains)

pub loop-train-preserved : goal.loop-train-preserved
loop-train-preserved g c =
    runs_more (told_run_of c.args.values.now (tables_of g.M.Moves.table c.args.inst.now c.args.tables.now) c.args.map.now.trains) c.loop-train.train c.loop-train.runs.items c.push.new.self.items c.in_ok-run.run' c.loop-train.invariant c.in_ok-push.ensures.items
    (one_run g.M.Moves.table c.args.values.now c.args.inst.now c.args.tables.now c.args.map.now.trains c.loop-train.train c.index-tables-train.result c.numbers.result.now c.in_ok-run.run' (omega arith) c.index-tables-train.is c.numbers.ensures c.in_ok-run.ensures)
