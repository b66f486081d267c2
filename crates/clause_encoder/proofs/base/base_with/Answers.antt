-- Why `base_with` does what its contract says.
use Rattle.std.proofs.Common.{◌≡◌, refl, arith}
use Rattle.clause_list.specs.Coding.{first_of_count}
use Rattle.clause_encoder.specs.TableLists.{tables_of}
use Rattle.clause_encoder.specs.Encoding.{base_sized}
use Rattle.clause_encoder.proofs.EncodeLemmas.{base_is, size_refused}
use Rattle.clause_encoder.proofs.EncodingLemmas.{base_encoding}
use Rattle.clause_encoder.proofs.base.base_with.Goals as goal

pub returns-then-more_vars-most-clause-err : goal.returns-then-more_vars-most-clause-err
returns-then-more_vars-most-clause-err g c =
    let end : c.args.numbers.behind ≡ first_of_count c.args.inst.now (tables_of g.M.Moves.table c.args.inst.now c.args.tables.now) = c.requires.numbers.behind_is in
    (c.requires.numbers.few_walks, omega (arith, end))

pub returns-in-Ok-clause-ok : goal.returns-in-Ok-clause-ok
returns-in-Ok-clause-ok g c =
    base_encoding c.args.inst.now (tables_of g.M.Moves.table c.args.inst.now c.args.tables.now) c.args.numbers.net c.args.numbers.gaps c.args.numbers.trains.items c.args.numbers.behind c.args.more_vars _ _ c.requires.numbers (omega arith)
    c.in-Ok.ensures.vars c.in-Ok.ensures.clauses c.in-Ok.ensures.few c.candidate_count.ensures.value refl refl

pub returns-in-Err-clause-err : goal.returns-in-Err-clause-err
returns-in-Err-clause-err g c =
    let end : c.args.numbers.behind ≡ first_of_count c.args.inst.now (tables_of g.M.Moves.table c.args.inst.now c.args.tables.now) = c.requires.numbers.behind_is in
    size_refused c.in-Err.refusal c.args.inst.now _ (base_sized c.args.inst.now (tables_of g.M.Moves.table c.args.inst.now c.args.tables.now)) 0 c.args.numbers.gaps _ c.requires.numbers.gaps_are c.requires.numbers.few_walks (omega (arith, end))
    (base_is c.args.inst.now (tables_of g.M.Moves.table c.args.inst.now c.args.tables.now) c.args.numbers.net c.args.numbers.gaps c.args.numbers.trains.items c.args.numbers.behind c.requires.numbers)
    c.in-Err.ensures.refusal
