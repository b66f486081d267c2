-- Why `numbers_of` does what its contract says.
use Rattle.std.proofs.Common.{◌∙◌, ◌<◌, ◌++◌, ◌∷◌, [], length, sym, ap, arith}
use Rattle.std.proofs.lemmas.List.{get_or-map, length-map}
use Rattle.clause_list.specs.WholeList.{no_table}
use Rattle.clause_encoder.specs.TableLists.{table_over, tables_of}
use Rattle.clause_list.specs.Numbers.{behind_train}
use Rattle.clause_list.specs.Coding.{behind_all}
use Rattle.clause_encoder.proofs.BuildLemmas.{train_more, fault_more, one_le}
use Rattle.clause_encoder.proofs.trains.numbers_of.Goals as goal

pub returns-in-Err-clause-err : goal.returns-in-Err-clause-err
returns-in-Err-clause-err g c =
    let within : c.loop-place.place < length c.args.tables.now = omega arith in
    let at = ap (table_over g.M.Moves.table c.args.inst.now) (sym c.table_of-table.ensures) ∙ sym (get_or-map (table_over g.M.Moves.table c.args.inst.now) c.args.tables.now c.loop-place.place c.table_of-table.result.now no_table within) in
    let more = train_more c.args.inst.now c.args.first (tables_of g.M.Moves.table c.args.inst.now c.args.tables.now) c.args.inst.now.trains c.loop-place.place c.loop-place.next c.loop-place.trains.items (g.M.Moves.table c.table_of-table.result.now c.args.inst.now) c.train-train.result.now c.loop-place.invariant.0 c.loop-place.invariant.1 at c.train-train.ensures.value (omega (arith, length-map c.args.tables.now (table_over g.M.Moves.table c.args.inst.now))) (omega arith) in
    fault_more _ _ _ more.2 c.in-Err.ensures.err

pub loop-place-preserved : goal.loop-place-preserved
loop-place-preserved g c =
    let within : c.loop-place.place < length c.args.tables.now = omega arith in
    let at = ap (table_over g.M.Moves.table c.args.inst.now) (sym c.table_of-table.ensures) ∙ sym (get_or-map (table_over g.M.Moves.table c.args.inst.now) c.args.tables.now c.loop-place.place c.table_of-table.result.now no_table within) in
    let more = train_more c.args.inst.now c.args.first (tables_of g.M.Moves.table c.args.inst.now c.args.tables.now) c.args.inst.now.trains c.loop-place.place c.loop-place.next c.loop-place.trains.items (g.M.Moves.table c.table_of-table.result.now c.args.inst.now) c.train-train.result.now c.loop-place.invariant.0 c.loop-place.invariant.1 at c.train-train.ensures.value (omega (arith, length-map c.args.tables.now (table_over g.M.Moves.table c.args.inst.now))) (omega arith) in
    let grown = c.in-Ok-push.ensures.items ∙ ap (λ a. c.loop-place.trains.items ++ a ∷ []) c.in-Ok.ensures.ok in
    let behind = c.behind-next.ensures ∙ ap behind_train c.in-Ok.ensures.ok in
    (grown ∙ more.0, behind ∙ more.1 ∙ sym (ap (behind_all c.args.first) grown), omega (arith, behind, one_le c.args.inst.now c.loop-place.next (g.M.Moves.table c.table_of-table.result.now c.args.inst.now) c.train-train.result.now c.loop-place.invariant.2), omega (arith, c.behind-next.ensures, c.in-Ok.ensures.few))
