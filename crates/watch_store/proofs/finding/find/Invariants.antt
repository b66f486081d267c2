-- What the search for a node keeps.
use Rattle.watch_store.specs.Watching.{watches_of, nexts_of, homes_of}
use Rattle.watch_store.proofs.FindLemmas.{IsFinding}
use Rattle.watch_store.proofs.finding.find.Given as goal

abbrev pub invariant-chain : goal.invariant-chain
invariant-chain l = IsFinding l.heads (nexts_of l.nodes) (homes_of (watches_of l.nodes)) l.home l.node l.before l.at l.visited
