-- Why `numbers_with` does what its contract says.
use Rattle.std.proofs.Common.{◌≤◌, arith}
use Rattle.clause_list.specs.Coding.{first_of_count}
use Rattle.clause_encoder.specs.TableLists.{tables_of}
use Rattle.clause_encoder.proofs.EncodeLemmas.{are_numbers, first_le}
use Rattle.clause_encoder.proofs.numbers.numbers_with.Goals as goal

pub returns-then-first-clause-err : goal.returns-then-first-clause-err
returns-then-first-clause-err g c =
    let le : c.first_of_trains-first.result ≤ first_of_count c.args.inst.now (tables_of g.M.Moves.table c.args.inst.now c.args.tables.now) = first_le c.args.inst.now (tables_of g.M.Moves.table c.args.inst.now c.args.tables.now) _ _ c.in-Ok.ensures c.first_of_trains-first.ensures in
    (c.requires.walks, omega arith)

pub returns-in-Ok-numbers_of-clause-ok : goal.returns-in-Ok-numbers_of-clause-ok
returns-in-Ok-numbers_of-clause-ok g c = are_numbers c.args.inst.now (tables_of g.M.Moves.table c.args.inst.now c.args.tables.now) _ _ _ _ _ c.in-Ok.ensures c.requires.gaps c.requires.walks c.first_of_trains-first.ensures c.in-Ok-numbers_of.ensures.ok c.in-Ok-numbers_of.ensures.behind c.in-Ok-numbers_of.ensures.few
