-- Why `train_of` does what its contract says.
use Rattle.std.proofs.Common.{subst, sym}
use Rattle.rail_net.specs.Parts.{IsNode}
use Rattle.timetable.proofs.PlaceLemmas.{no_node_there}
use Rattle.timetable.proofs.places.train_of.Goals as goal

pub returns-in-None-clause-miss : goal.returns-in-None-clause-miss
returns-in-None-clause-miss c = λ knows.
    let p = c.args.net.now in
    no_node_there p c.args.entry.now.from (λ node is. c.in-None.ensures node (subst (λ name. IsNode p name node) (sym c.as_str.ensures) is)) knows.from

pub returns-in-None-node_named-clause-miss : goal.returns-in-None-node_named-clause-miss
returns-in-None-node_named-clause-miss c = λ knows.
    let p = c.args.net.now in
    no_node_there p c.args.entry.now.to (λ node is. c.in-None-node_named.ensures node (subst (λ name. IsNode p name node) (sym c.as_str-2.ensures) is)) knows.to
