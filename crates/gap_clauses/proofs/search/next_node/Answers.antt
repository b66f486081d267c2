-- Why `next_node` does what its contract says.
use Rattle.std.proofs.Common.{◌∙◌, ap, sym, arith}
use Rattle.std.specs.Prelude.{slice_get}
use Rattle.std.proofs.lemmas.List.Elements.{All-same}
use Rattle.cell_net.specs.declared.ids.CellId.{CellId}
use Rattle.gap_clauses.specs.Fans.{GoesOverNext}
use Rattle.gap_clauses.proofs.SearchLemmas.{goes_more, slice_whole}
use Rattle.gap_clauses.proofs.search.next_node.Goals as goal

pub loop-place-preserved : goal.loop-place-preserved
loop-place-preserved c = (
  c.lower-next.ensures.not_below,
  goes_more c.args.search.now.inst.now c.args.fan.now.first c.args.below c.loop-place.next c.lower-next.result c.args.fan.now.walks c.args.from c.args.end c.loop-place.place c.cell-spec.result (omega (arith, c.loop-place.auto.place)) c.loop-place-test.true c.requires.within
      (ap (λ (l : CellId). slice_get c.args.search.now.inst.now.cells l.0) (sym c.last_cell.ensures) ∙ c.cell-spec.ensures) (c.lower-next.ensures.others _ c.lower.ensures.node) c.lower-next.ensures.node (λ m was. c.lower-next.ensures.others m (c.lower.ensures.others m was)) c.loop-place.invariant.1,
)

pub returns-clause-next : goal.returns-clause-next
returns-clause-next c = All-same (GoesOverNext c.args.search.now.inst.now c.args.fan.now.first c.args.below c.loop-place.next) _ _
    (sym (slice_whole c.args.fan.now.walks c.args.from c.args.end c.loop-place.place (omega (arith, c.loop-place-test.false)))) c.loop-place.invariant.1
