-- Why `write` of `FreeList` does what its contract says.
use Rattle.clause_list.specs.BorderClauses.{most_clauses}
use Rattle.clause_encoder.specs.Plans.{free_list}
use Rattle.clause_encoder.proofs.WritingLemmas.{then_ok, then_err, cause_either, where_true}
use Rattle.clause_encoder.proofs.lists.FreeListListing.write.Goals as goal

pub returns-in-Err-clause-err : goal.returns-in-Err-clause-err
unfolding free_list
returns-in-Err-clause-err g c = cause_either c.in-Err.fault c.args.keeps _ _ (most_clauses c.args.self.now.numbers.now.behind c.args.self.now.numbers.now.net.candidates c.args.self.now.bound) c.in-Err.ensures.err

pub returns-then-keeps-clause-ok : goal.returns-then-keeps-clause-ok
unfolding free_list
returns-then-keeps-clause-ok g c = then_ok c.write_bound.result _ _ _ _ _ _ c.in-Ok.ensures.ok c.write_bound.ensures.ok (where_true c.args.keeps _ _ c.if-keeps.true)

pub returns-then-keeps-clause-err : goal.returns-then-keeps-clause-err
unfolding free_list
returns-then-keeps-clause-err g c = then_err c.write_bound.result _ _ _ _ _ c.in-Ok.ensures.ok c.write_bound.ensures.err (where_true c.args.keeps _ _ c.if-keeps.true)
