-- What the walk along a chain keeps.
use Rattle.watch_store.proofs.LoopLemmas.{IsWalking}
use Rattle.watch_store.proofs.walk.walk.Given as goal

abbrev pub invariant-chain : goal.invariant-chain
invariant-chain g l = IsWalking l.table l.heads l.nodes l.initial.trail l.trail l.home l.before l.at l.visited l.initial.steps l.steps
