-- Why `fill` does what its contract says.
use Rattle.std.proofs.Common.{◌<◌, length, ap, ◌∙◌, arith}
use Rattle.watch_store.specs.Places.{PlacedClauses, live_in}
use Rattle.watch_store.proofs.FillLemmas.{next_free, one_more}
use Rattle.watch_store.proofs.filling.fill.Goals as goal

pub put-requires-clause-new_number : goal.put-requires-clause-new_number
put-requires-clause-new_number c = next_free c.args.formula.now.clauses c.clauses.place (live_in c.clauses.table) (omega (arith, c.clauses-test.true, c.len-place-end.ensures)) c.clauses.invariant.2

pub clauses-preserved : goal.clauses-preserved
clauses-preserved c =
    let within : c.clauses.place < length c.args.formula.now.clauses = omega (arith, c.clauses-test.true, c.len-place-end.ensures) in (
      c.in_ok-put.ensures.keeping,
      ap (λ (t : PlacedClauses). t.vars) c.in_ok-put.ensures.table ∙ c.clauses.invariant.1,
      one_more c.args.formula.now.clauses c.clauses.place c.clause-lits.result.now (live_in c.clauses.table) (live_in c.put.new.table) within c.clause-lits.ensures.lits c.clauses.invariant.2 c.in_ok-put.ensures.live,
    )
