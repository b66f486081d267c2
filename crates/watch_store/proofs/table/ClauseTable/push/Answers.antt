-- Why `ClauseTable::push` does what its contract says.
use Rattle.std.proofs.Common.{◌≡◌, List, length, ap, sym, subst, arith}
use Rattle.std.specs.Prelude.{None}
use Rattle.sat_core.specs.declared.literal.ClauseId.{ClauseId}
use Rattle.sat_core.specs.Clauses.{IsClause}
use Rattle.sat_core.specs.Hints.{clause_of}
use Rattle.watch_store.specs.Places.{PlacedClauses, ArePlaced, live_in}
use Rattle.watch_store.proofs.PlaceLemmas.{ArePlaced-with, pushed_table}
use Rattle.watch_store.proofs.table.ClauseTable.push.Goals as goal

pub invariant_of-self-2 : goal.invariant_of-self-2
invariant_of-self-2 c =
    let table : PlacedClauses = record { vars = c.self.inside.vars; clauses = c.self.inside.clauses; numbers = c.self.inside.numbers.items; places = c.self.inside.places.items } in
    subst ArePlaced
    (sym (pushed_table table c.args.id c.args.lits.now c.push.new.self c.push_reserved.new.self.items c.pad.new.places.items c.len-place.result
    c.in_ok-push.ensures.ok
    (rw c.in_ok-reserve.ensures.items at c.push_reserved.ensures.items)
    (rw c.in_ok-reserve-2.ensures.items at c.pad.ensures)
    (omega (arith, c.len-place.ensures, ap (λ (ns : List ClauseId). length ns) c.in_ok-reserve.ensures.items, c.self.invariant.all_numbered))))
    (ArePlaced-with table c.args.id c.args.lits.now
    (subst (λ (t : PlacedClauses). IsClause t.vars c.args.lits.now) (sym c.self.view_is) c.requires.clause)
    (subst (λ (t : PlacedClauses). clause_of (live_in t) c.args.id ≡ None) (sym c.self.view_is) c.requires.new_number)
    c.self.invariant)
