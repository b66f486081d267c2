-- Why `find` does what its contract says.
use Rattle.std.proofs.Common.{◌<◌, length, arith}
use Rattle.watch_store.specs.Watching.{watches_of, nexts_of, homes_of}
use Rattle.watch_store.proofs.RelinkLemmas.{next_read}
use Rattle.watch_store.proofs.FindLemmas.{homes_long, finding_start, finding_found, finding_at, finding_on}
use Rattle.watch_store.proofs.finding.find.Goals as goal

pub chain-init : goal.chain-init
chain-init c = finding_start c.args.heads.now (nexts_of c.args.nodes.now) (homes_of (watches_of c.args.nodes.now)) c.args.home c.args.node c.requires.home (omega (arith, homes_long c.args.nodes.now, c.requires.node)) c.requires.lives c.requires.chained

pub returns-then-at-node : goal.returns-then-at-node
returns-then-at-node c = finding_found c.args.heads.now (nexts_of c.args.nodes.now) (homes_of (watches_of c.args.nodes.now)) c.args.home c.args.node c.chain.before c.chain.at c.chain.visited c.if-at-node.true c.chain.invariant

pub bounds-nodes-at : goal.bounds-nodes-at
bounds-nodes-at c = omega (arith, (finding_at c.args.heads.now (nexts_of c.args.nodes.now) (homes_of (watches_of c.args.nodes.now)) c.args.home c.args.node c.chain.before c.chain.at c.chain.visited c.chain.invariant).0, homes_long c.args.nodes.now)

pub chain-preserved : goal.chain-preserved
chain-preserved c =
    let within : c.chain.at < length c.args.nodes.now = omega (arith, (finding_at c.args.heads.now (nexts_of c.args.nodes.now) (homes_of (watches_of c.args.nodes.now)) c.args.home c.args.node c.chain.before c.chain.at c.chain.visited c.chain.invariant).0, homes_long c.args.nodes.now) in
    rw (next_read c.args.nodes.now c.chain.at _ within) (finding_on c.args.heads.now (nexts_of c.args.nodes.now) (homes_of (watches_of c.args.nodes.now)) c.args.home c.args.node c.chain.before c.chain.at c.chain.visited c.if-at-node.false c.chain.invariant)
