-- Why `ClauseTable::lits` does what its contract says.
use Rattle.std.proofs.Common.{List, ap, ◌∙◌}
use Rattle.std.specs.Prelude.{Some}
use Rattle.sat_core.specs.declared.literal.Lit.{Lit}
use Rattle.watch_store.proofs.PlaceLemmas.{placed_clause, unplaced_clause}
use Rattle.watch_store.proofs.table.ClauseTable.lits.Goals as goal

pub clause-requires : goal.clause-requires
clause-requires c = c.place.ensures.laws.within c.args.id.0 c.in-Some.place c.in-Some.ensures.value

pub returns-in-Some : goal.returns-in-Some
returns-in-Some c = placed_clause c.args.self.now c.args.id c.in-Some.place c.in-Some.ensures.value ∙ ap (λ (ls : List Lit). Some ls) c.clause.ensures

pub returns-in-None : goal.returns-in-None
returns-in-None c = unplaced_clause c.args.self.now c.args.id c.in-None.ensures.value
