-- Why `put` does what its contract says.
use Rattle.std.proofs.Common.{arith}
use Rattle.watch_store.proofs.AddLemmas.{IsKeeping-with}
use Rattle.watch_store.proofs.PlaceLemmas.{live_with}
use Rattle.watch_store.proofs.adding.put.Goals as goal

pub returns-clause-keeping : goal.returns-clause-keeping
returns-clause-keeping c = rw (c.in_ok-push.ensures.ok) (IsKeeping-with c.args.table.now c.args.heads.now c.add_pair.new.heads c.args.nodes.now.items c.add_pair.new.nodes.items c.args.id c.args.lits.now c.args.pair.0 c.args.pair.1 c.requires.keeping c.requires.new_number c.requires.clause c.requires.pair (omega (arith, c.if-len-ge-MOST_CLAUSES.false, c.len.ensures.value)) c.add_pair.auto.heads (rw c.in_ok-reserve.ensures.items at c.add_pair.ensures.watches) c.add_pair.ensures.chained)

pub returns-clause-live : goal.returns-clause-live
returns-clause-live c = rw (c.in_ok-push.ensures.ok) (live_with c.args.table.now c.args.id c.args.lits.now c.requires.keeping.placed c.requires.new_number)
