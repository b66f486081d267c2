-- Why `encode_given` does what its contract says.
use Rattle.std.proofs.Common.{◌∙◌, ap, subst, refl}
use Rattle.clause_encoder.specs.declared.task.Task.TheVariants.{Given}
use Rattle.clause_encoder.specs.TableLists.{tables_of}
use Rattle.clause_encoder.specs.Plans.{given_list}
use Rattle.clause_encoder.specs.Sizes.{HasFewClauses}
use Rattle.clause_encoder.specs.Encoding.{sized_clauses}
use Rattle.clause_encoder.proofs.EncodeLemmas.{given_is, size_refused}
use Rattle.clause_encoder.proofs.EncodingLemmas.{given_encoding, few_given}
use Rattle.clause_encoder.proofs.encoder.encode_given.Goals as goal

pub returns-in-Ok-clause-ok : goal.returns-in-Ok-clause-ok
returns-in-Ok-clause-ok g c =
    given_encoding c.args.inst.now (tables_of g.M.Moves.table c.args.inst.now c.args.tables.now) c.args.numbers.net c.args.numbers.gaps c.args.numbers.trains.items c.args.numbers.behind c.args.layout.now c.args._bound _ _ c.requires.numbers c.in-Ok.ensures.vars
    (c.in-Ok.ensures.clauses ∙ ap (given_list c.args.numbers.gaps c.args.numbers.net (tables_of g.M.Moves.table c.args.inst.now c.args.tables.now) c.args.numbers.trains.items) c.borders.ensures)
    (subst (λ layout. HasFewClauses ((given_list c.args.numbers.gaps c.args.numbers.net (tables_of g.M.Moves.table c.args.inst.now c.args.tables.now) c.args.numbers.trains.items) layout) 0) c.borders.ensures c.in-Ok.ensures.few)
    c.candidate_count.ensures.value refl refl

pub returns-in-Err-clause-err : goal.returns-in-Err-clause-err
returns-in-Err-clause-err g c =
    size_refused c.in-Err.refusal c.args.inst.now _ (sized_clauses c.args.inst.now (tables_of g.M.Moves.table c.args.inst.now c.args.tables.now) (Given c.args.layout.now)) 0 c.args.numbers.gaps _ c.requires.numbers.gaps_are c.requires.numbers.few_walks
    (few_given _ _ _ _ _ _ c.requires.numbers)
    (ap (given_list c.args.numbers.gaps c.args.numbers.net (tables_of g.M.Moves.table c.args.inst.now c.args.tables.now) c.args.numbers.trains.items) c.borders.ensures ∙ given_is c.args.inst.now (tables_of g.M.Moves.table c.args.inst.now c.args.tables.now) c.args.numbers.net c.args.numbers.gaps c.args.numbers.trains.items c.args.numbers.behind c.args.layout.now c.requires.numbers)
    c.in-Err.ensures.refusal
