-- Why `quiet` does what its contract says.
use Rattle.std.proofs.Common.{◌+◌, ◌<◌, length, arith}
use Rattle.std.proofs.lemmas.List.{length-map}
use Rattle.watch_store.specs.declared.node.Node.{Node}
use Rattle.watch_store.specs.Watching.{watches_of}
use Rattle.watch_store.proofs.EndLemmas.{idle_elsewhere, second_elsewhere, low_read}
use Rattle.watch_store.proofs.ending.quiet.Goals as goal

pub rest-requires-clause-elsewhere : goal.rest-requires-clause-elsewhere
rest-requires-clause-elsewhere c =
    let within : c.args.node < length (watches_of c.args.nodes.now) = omega (arith, c.requires.within, length-map c.args.nodes.now (λ (x : Node). x.watch)) in
    idle_elsewhere (watches_of c.args.nodes.now) c.args.vars c.args.node c.idle.result.0 c.idle.result.0 within (c.requires.pair.named c.idle.result.0).0 (low_read c.args.nodes.now c.args.vars c.args.node _ c.idle.result.0 (omega (arith, c.requires.within)) c.if-nodes-node.false) c.idle.ensures.0

pub rest-requires-2-clause-elsewhere : goal.rest-requires-2-clause-elsewhere
rest-requires-2-clause-elsewhere c =
    let within : c.args.node + 1 < length (watches_of c.args.nodes.now) = omega (arith, c.requires.within, length-map c.args.nodes.now (λ (x : Node). x.watch)) in
    rw (c.rest.ensures.watches) (second_elsewhere (watches_of c.args.nodes.now) c.args.vars c.args.node c.idle.result.0 c.idle.result.1 within c.requires.pair (low_read c.args.nodes.now c.args.vars c.args.node _ c.idle.result.1 (omega (arith, c.requires.within)) c.if-nodes-node.false) c.idle.ensures.1)
