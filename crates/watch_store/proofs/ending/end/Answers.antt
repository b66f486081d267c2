-- Why `end` does what its contract says.
use Rattle.watch_store.specs.Watching.{watches_of}
use Rattle.watch_store.proofs.EndLemmas.{IsEndable-of, IsKeeping-without, node_room}
use Rattle.watch_store.proofs.ending.end.Goals as goal

pub quiet-requires-clause-pair : goal.quiet-requires-clause-pair
quiet-requires-clause-pair c = rw (c.vars-vars.ensures) (IsEndable-of c.args.table.now c.args.place (watches_of c.args.nodes.now) (node_room c.args.table.now c.args.heads.now c.args.nodes.now c.args.place c.requires.live c.requires.keeping) c.requires.keeping.watching)

pub returns-clause-keeping : goal.returns-clause-keeping
returns-clause-keeping c = rw (c.end.ensures) (IsKeeping-without c.args.table.now c.args.heads.now c.quiet.new.heads c.args.nodes.now c.quiet.new.nodes c.args.place c.requires.live (rw c.vars-vars.ensures at c.quiet.ensures.watches) c.quiet.auto.heads c.quiet.ensures.chained c.requires.keeping)
