-- Why `ClauseTable::end` does what its contract says.
use Rattle.std.proofs.Common.{◌≡◌, ◌<◌, length, sym, subst, ◌∙◌, arith}
use Rattle.std.proofs.lemmas.List.{get_or_default}
use Rattle.watch_store.specs.Places.{PlacedClauses, IsLiveAt, number_of_place}
use Rattle.watch_store.proofs.PlaceLemmas.{ArePlaced-without}
use Rattle.watch_store.proofs.table.ClauseTable.end.Goals as goal

pub invariant_of-self : goal.invariant_of-self
invariant_of-self c =
    let table : PlacedClauses = record { vars = c.self.inside.vars; clauses = c.self.inside.clauses; numbers = c.self.inside.numbers.items; places = c.self.inside.places.items } in
    let live : IsLiveAt table c.args.place = subst (λ (t : PlacedClauses). IsLiveAt t c.args.place) (sym c.self.view_is) c.requires in
    let within : c.args.place < length c.self.inside.numbers.items = omega (arith, c.self.invariant.within (number_of_place table c.args.place).0 c.args.place live, c.self.invariant.all_numbered) in
    let same : c.index-id.result.now ≡ number_of_place table c.args.place = c.index-id.ensures ∙ get_or_default c.self.inside.numbers.items c.args.place c.index-id.result.now (record { 0 = 0 }) within in
    rw same (ArePlaced-without table c.args.place c.self.invariant)
