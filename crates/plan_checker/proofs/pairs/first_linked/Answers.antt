-- Why `first_linked` does what its contract says.
use Rattle.plan_checker.specs.ClashSearch.{IsSeparatedFromAll}
use Rattle.plan_checker.proofs.ListSteps.{holds_more}
use Rattle.plan_checker.proofs.PairLemmas.{linked_at, separated_from_each}
use Rattle.plan_checker.proofs.pairs.first_linked.Goals as goal

pub returns-in-Some : goal.returns-in-Some
returns-in-Some c = linked_at c.args.traffic.now _ _ _ _ _ c.loop-directed-test.true c.loop-directed.invariant c.in-Some.ensures

pub loop-directed-preserved : goal.loop-directed-preserved
loop-directed-preserved c = holds_more (IsSeparatedFromAll c.args.traffic.now c.args.other.now) _ _ _ c.loop-directed.invariant c.in-None.ensures

pub returns : goal.returns
returns c = separated_from_each c.args.traffic.now _ _ _ c.loop-directed-test.false c.loop-directed.invariant
