-- Why `refill` does what its contract says.
use Rattle.std.proofs.Common.{◌≡◌, ◌<◌, ℕ, List, [], length, sym, subst, arith}
use Rattle.std.specs.Prelude.{None}
use Rattle.sat_core.specs.declared.literal.Lit.{Lit}
use Rattle.sat_core.specs.Clauses.{IsClause}
use Rattle.sat_core.specs.Hints.{clause_of}
use Rattle.watch_store.specs.Places.{live_in}
use Rattle.watch_store.specs.Fits.{IsPair}
use Rattle.watch_store.proofs.CompactLemmas.{number_free, refilled_some, refilled_none}
use Rattle.watch_store.proofs.compacting.refill.Goals.{in-Some+in_ok-put-in-Some, in-None}
use Rattle.watch_store.proofs.compacting.refill.Goals as goal

pub put-requires-clause-new_number : goal.put-requires-clause-new_number
put-requires-clause-new_number c =
    subst (λ (n : ℕ). clause_of (live_in c.numbers.table) (record { 0 = n }) ≡ None) (sym c.in_ok-id.ensures)
    (number_free c.args.from.now c.numbers.number (live_in c.numbers.table) (omega (arith, c.numbers-test.true, c.numbers-number-end.ensures)) c.numbers.invariant.2)

pub put-requires-clause-clause : goal.put-requires-clause-clause
put-requires-clause-clause c =
    let within : c.in-Some.place < length c.args.from.now.clauses = c.in-Some.ensures.laws.within c.in_ok-id.id.0 c.in-Some.place c.in-Some.ensures.value in
    subst (λ (n : ℕ). IsClause n c.clause-lits.result.now) (sym c.numbers.invariant.1) (subst (IsClause c.args.from.now.vars) c.clause-lits.ensures (c.in-Some.ensures.laws.all_clauses c.in-Some.place [] within))

pub put-requires-clause-pair : goal.put-requires-clause-pair
put-requires-clause-pair c =
    subst (λ (n : ℕ). IsPair n c.clause-lits.result.now c.same_pair-pair.result.0 c.same_pair-pair.result.1) (sym c.numbers.invariant.1)
    (subst (λ (ls : List Lit). IsPair c.args.from.now.vars ls c.same_pair-pair.result.0 c.same_pair-pair.result.1) c.clause-lits.ensures c.same_pair-pair.ensures.pair)

pub numbers-preserved : goal.numbers-preserved
numbers-preserved c =
    let within : c.numbers.number < length c.args.from.now.places = omega (arith, c.numbers-test.true, c.numbers-number-end.ensures) in
    elim c.match-place.branch [
      | in-Some+in_ok-put-in-Some w ↦ rw (w.table-is, w.heads-is, w.nodes-is)
          (refilled_some c.args.from.now c.numbers.table w.put.new.table w.put.new.heads c.args.watching.now c.numbers.nodes.items w.put.new.nodes.items c.numbers.number w.in-Some.place c.in_ok-id.id w.clause-lits.result.now w.same_pair-pair.result.0 w.same_pair-pair.result.1 within c.in_ok-id.ensures w.in-Some.ensures.value w.clause-lits.ensures w.same_pair-pair.ensures.same c.numbers.invariant.0.watching.two_each c.numbers.invariant.1 c.numbers.invariant.2 c.numbers.invariant.3 w.in_ok-put-in-Some.ensures.keeping w.in_ok-put-in-Some.ensures.table w.in_ok-put-in-Some.ensures.watches w.in_ok-put-in-Some.ensures.live)
      | in-None w ↦ rw (w.table-is, w.heads-is, w.nodes-is)
          (c.numbers.invariant.0, c.numbers.invariant.1, refilled_none c.args.from.now c.numbers.number c.in_ok-id.id (live_in c.numbers.table) within c.in_ok-id.ensures w.in-None.ensures.value c.numbers.invariant.2, c.numbers.invariant.3)
    ]
