-- Why `both_ways` does what its contract says.
use Rattle.std.proofs.Common.{◌≡◌, take, arith}
use Rattle.std.proofs.lemmas.List.{take_more, take_all}
use Rattle.cell_net.specs.declared.cells.End.TheVariants.{Low}
use Rattle.cell_net.specs.declared.cells.JoinSpec.{JoinSpec}
use Rattle.sweep_table.proofs.SuccessionLemmas.{both_more}
use Rattle.sweep_table.proofs.successors.both_ways.Goals as goal

-- what a read past the end would give
some_join : JoinSpec
some_join = record { one = record { cell = record { 0 = 0 }; end = Low }; other = record { cell = record { 0 = 0 }; end = Low } }

pub loop-join-preserved : goal.loop-join-preserved
unfolding some_join
loop-join-preserved c =
    let first = c.in_ok-push.ensures.items in
    let second = c.in_ok-push-2.ensures.items in
    let more = take_more c.args.joins.now c.loop-join.join-index some_join (omega arith) in
    rw (second, first, c.succession_over.ensures, c.succession_over-in-loop-join.ensures, more) (both_more _ _ _ c.loop-join.invariant)

pub returns : goal.returns
returns c = let all : take c.loop-join.join-index c.args.joins.now ≡ c.args.joins.now = take_all c.loop-join.join-index c.args.joins.now (omega arith) in
    rw all at c.loop-join.invariant
