-- Why `sweep_tables` does what its contract says.
use Rattle.std.proofs.Common.{◌≡◌, length, subst, arith}
use Rattle.clause_encoder.specs.SweepTables.{HaveTables}
use Rattle.clause_encoder.proofs.TableLemmas.{tables_none, tables_more, table_refused}
use Rattle.clause_encoder.proofs.tables.sweep_tables.Goals as goal

pub loop-place-init : goal.loop-place-init
loop-place-init c = tables_none _ _ c.new-tables.ensures.items

pub loop-place-preserved : goal.loop-place-preserved
loop-place-preserved c = tables_more _ _ _ _ c.in-Ok.table c.loop-place.invariant c.in-Ok-push.ensures.items (record { rules = c.in-Ok.ensures.rules; few = c.in-Ok.ensures.few; of_train = c.in-Ok.ensures.sweeps })

pub returns-in-Err-clause-err : goal.returns-in-Err-clause-err
returns-in-Err-clause-err c = table_refused c.in-Err.refusal _ _ _ _ _ c.train-train.ensures.value (c.in-Err.ensures.refusal _ c.train-train.ensures.value) c.loop-place.invariant c.refusal_of.ensures

pub returns-clause-ok : goal.returns-clause-ok
returns-clause-ok c =
    let all : c.loop-place.place ≡ length c.args.inst.now.trains = omega arith in
    subst (λ n. HaveTables c.args.inst.now n c.loop-place.tables.items) all c.loop-place.invariant
