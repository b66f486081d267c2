-- Why `lengthen_all` does what its contract says.
use Rattle.std.proofs.Common.{◌≡◌, ◌<◌, ◌+◌, ◌-◌, ◌++◌, ◌∙◌, List, [], length, take, ap, sym, subst, arith}
use Rattle.std.specs.Prelude.{slice_range}
use Rattle.cell_net.specs.Space.{IsCell}
use Rattle.cell_net.specs.declared.parts.InstanceParts.{InstanceParts}
use Rattle.gap_clauses.specs.Fans.{all_over, over, walk_at}
use Rattle.gap_clauses.specs.Walks.{IsWalkFrom, Step}
use Rattle.gap_clauses.proofs.SearchLemmas.{stop_alike, stop_within, walk_between, walk_kept, walks_more}
use Rattle.gap_clauses.proofs.search.lengthen_all.Goals as goal

pub lengthen_over-requires-clause-first : goal.lengthen_over-requires-clause-first
lengthen_over-requires-clause-first c = subst (IsCell c.args.search.now.inst.now) (sym c.loop-place.invariant.0) c.requires.first

pub lengthen_over-requires-clause-walk : goal.lengthen_over-requires-clause-walk
lengthen_over-requires-clause-walk c =
    let p : InstanceParts = c.args.search.now.inst.now in
    let within : c.loop-place.place < length c.args.fan.now.walks = omega (arith, c.loop-place-test.true, c.requires.within) in
    let kept = walk_kept c.args.fan.now.walks c.loop-place.fan.walks _ c.loop-place.place c.loop-place.invariant.2 within in
    subst (λ e. IsWalkFrom p e (walk_at c.loop-place.fan.walks c.loop-place.place)) (sym c.loop-place.invariant.0) (subst (IsWalkFrom p c.args.fan.now.first) (sym kept) (c.requires.walks c.loop-place.place [] within))

pub returns-in-Err-clause-err : goal.returns-in-Err-clause-err
returns-in-Err-clause-err c =
    let old : List (List Step) = c.args.fan.now.walks in
    let w : List Step = walk_at old c.loop-place.place in
    let there = walk_between old c.args.from c.args.end c.loop-place.place (omega (arith, c.loop-place.auto.place)) c.loop-place-test.true c.requires.within in
    let kept = walk_kept old c.loop-place.fan.walks _ c.loop-place.place c.loop-place.invariant.2 (omega (arith, c.loop-place-test.true, c.requires.within)) in
    let same : over c.args.search.now.inst.now c.args.search.now.neighbours.now c.loop-place.fan.first c.args.node (walk_at c.loop-place.fan.walks c.loop-place.place) ≡ over c.args.search.now.inst.now c.args.search.now.neighbours.now c.args.fan.now.first c.args.node w =
    ap (λ e. over c.args.search.now.inst.now c.args.search.now.neighbours.now e c.args.node (walk_at c.loop-place.fan.walks c.loop-place.place)) c.loop-place.invariant.0
    ∙ ap (over c.args.search.now.inst.now c.args.search.now.neighbours.now c.args.fan.now.first c.args.node) kept in
    stop_within (over c.args.search.now.inst.now c.args.search.now.neighbours.now c.args.fan.now.first c.args.node) c.args.fan.now.first (slice_range old c.args.from c.args.end) (c.loop-place.place - c.args.from) w old c.loop-place.fan.walks _ c.in-Err.stop
    there.0 there.1 c.loop-place.invariant.2 same (stop_alike c.args.fan.now.first c.loop-place.fan.first _ c.in-Err.stop (sym c.loop-place.invariant.0) c.in-Err.ensures.err)

pub loop-place-preserved : goal.loop-place-preserved
loop-place-preserved c =
    let old : List (List Step) = c.args.fan.now.walks in
    let w : List Step = walk_at old c.loop-place.place in
    let there = walk_between old c.args.from c.args.end c.loop-place.place (omega (arith, c.loop-place.auto.place)) c.loop-place-test.true c.requires.within in
    let kept = walk_kept old c.loop-place.fan.walks _ c.loop-place.place c.loop-place.invariant.2 (omega (arith, c.loop-place-test.true, c.requires.within)) in
    let same : over c.args.search.now.inst.now c.args.search.now.neighbours.now c.loop-place.fan.first c.args.node (walk_at c.loop-place.fan.walks c.loop-place.place) ≡ over c.args.search.now.inst.now c.args.search.now.neighbours.now c.args.fan.now.first c.args.node w =
    ap (λ e. over c.args.search.now.inst.now c.args.search.now.neighbours.now e c.args.node (walk_at c.loop-place.fan.walks c.loop-place.place)) c.loop-place.invariant.0
    ∙ ap (over c.args.search.now.inst.now c.args.search.now.neighbours.now c.args.fan.now.first c.args.node) kept in
    let one : c.loop-place.place - c.args.from + 1 ≡ c.loop-place.place + 1 - c.args.from = omega (arith, c.loop-place.auto.place) in (
      c.lengthen_over.ensures.first ∙ c.loop-place.invariant.0,
      c.lengthen_over.ensures.cells ∙ c.loop-place.invariant.1,
      walks_more (over c.args.search.now.inst.now c.args.search.now.neighbours.now c.args.fan.now.first c.args.node) (slice_range old c.args.from c.args.end) (c.loop-place.place - c.args.from) w old c.loop-place.fan.walks c.lengthen_over.new.fan.walks _
          there.0 there.1 c.loop-place.invariant.2 c.in-Ok.ensures.ok same
          ∙ ap (λ k. old ++ all_over c.args.search.now.inst.now c.args.search.now.neighbours.now c.args.fan.now.first c.args.node (take k (slice_range old c.args.from c.args.end))) one,
    )
