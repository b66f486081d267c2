-- Why `+visit` does what its contract says.
use Rattle.std.proofs.Common.{◌≡◌, ◌+◌, ◌++◌, ◌∙◌, ℕ, List, length, refl, subst, sym, take, arith}
use Rattle.std.specs.Prelude.{slice_range}
use Rattle.std.proofs.lemmas.List.{take_all}
use Rattle.cell_net.specs.Space.{IsCell}
use Rattle.cell_net.specs.declared.parts.InstanceParts.{InstanceParts}
use Rattle.gap_clauses.specs.Fans.{AreListed, FanParts, IsDone, all_over, nodes_at}
use Rattle.gap_clauses.specs.Walks.{Step}
use Rattle.gap_clauses.proofs.ListedLaws.{done_none}
use Rattle.gap_clauses.proofs.SearchLemmas.{search_stop, stop_alike, visit_done, visit_leads, visit_on, visit_over, visit_ready, visit_smaller, visit_stays, visit_walks}
use Rattle.gap_clauses.proofs.search.+visit.Goals as goal
use Rattle.gap_clauses.proofs.search.+visit.Goals.{then-begin-len+in-Ok-visit, else-begin-len}

-- what the loop keeps, where it is done below the number behind this one
abbrev IsKept : InstanceParts → FanParts → ℕ → ℕ → FanParts → Type 0
IsKept p old from m fan = (fan.first ≡ old.first) × (fan.cells ≡ old.cells) × (take (length old.walks) fan.walks ≡ old.walks) × AreListed p old.first (IsDone (nodes_at old.walks from) (m + 1)) fan.walks

pub loop-node-init : goal.loop-node-init
loop-node-init t c = (refl, refl, take_all (length c.args.fan.now.walks) c.args.fan.now.walks (omega arith), done_none c.args.search.now.inst.now c.args.fan.now.first (nodes_at c.args.fan.now.walks c.args.from) c.args.fan.now.walks c.requires.group.all)

pub next_node-requires-clause-last : goal.next_node-requires-clause-last
next_node-requires-clause-last t c = visit_leads c.args.search.now.inst.now c.loop-node.fan.first c.args.fan.now.first (IsDone (nodes_at c.args.fan.now.walks c.args.from) c.loop-node.below) c.loop-node.fan.walks c.loop-node.invariant.0 c.requires.first c.loop-node.invariant.3

pub lengthen_all-requires-clause-first : goal.lengthen_all-requires-clause-first
lengthen_all-requires-clause-first t c = subst (IsCell c.args.search.now.inst.now) (sym c.loop-node.invariant.0) c.requires.first

pub lengthen_all-requires-clause-walks : goal.lengthen_all-requires-clause-walks
lengthen_all-requires-clause-walks t c = visit_walks c.args.search.now.inst.now c.loop-node.fan.first c.args.fan.now.first (IsDone (nodes_at c.args.fan.now.walks c.args.from) c.loop-node.below) c.loop-node.fan.walks c.loop-node.invariant.0 c.loop-node.invariant.3

pub returns-in-Err-clause-err : goal.returns-in-Err-clause-err
returns-in-Err-clause-err t c =
    let new : List (List Step) = c.loop-node.fan.walks ++ all_over c.args.search.now.inst.now c.args.search.now.neighbours.now c.loop-node.fan.first c.in-Some.node (slice_range c.loop-node.fan.walks c.args.from c.len-end.result) in
    let further = visit_over c.args.search.now.inst.now c.args.search.now.neighbours.now c.args.fan.now c.args.from c.len-end.result c.loop-node.fan.first c.loop-node.fan.walks new c.loop-node.below c.in-Some.node c.requires c.len-end.ensures c.loop-node.invariant.0 c.loop-node.invariant.2 c.loop-node.invariant.3 c.in-Some.ensures.not_below c.in-Some.ensures.next refl in
    search_stop c.args.search.now.inst.now c.args.fan.now.first _ new c.in-Err.stop further.up_to (stop_alike c.args.fan.now.first c.loop-node.fan.first new c.in-Err.stop (sym c.loop-node.invariant.0) c.in-Err.ensures.err)

pub visit-requires : goal.visit-requires
visit-requires t c =
    let further = visit_over c.args.search.now.inst.now c.args.search.now.neighbours.now c.args.fan.now c.args.from c.len-end.result c.loop-node.fan.first c.loop-node.fan.walks c.lengthen_all.new.fan.walks c.loop-node.below c.in-Some.node c.requires c.len-end.ensures c.loop-node.invariant.0 c.loop-node.invariant.2 c.loop-node.invariant.3 c.in-Some.ensures.not_below c.in-Some.ensures.next c.in-Ok.ensures.ok in (
      omega (arith, c.decreases, visit_smaller c.args.search.now.inst.now c.args.search.now.neighbours.now c.args.fan.now c.lengthen_all.new.fan c.args.from c.len-begin.result c.in-Some.node.0 c.loop-node.fan.walks c.requires further (c.in-Ok.ensures.first ∙ c.loop-node.invariant.0) (c.in-Ok.ensures.cells ∙ c.loop-node.invariant.1) c.len-begin.ensures (omega (arith, c.if-begin-len.true, c.len.ensures))),
      visit_ready c.args.search.now.inst.now c.args.search.now.neighbours.now c.args.fan.now c.lengthen_all.new.fan c.args.from c.len-begin.result c.in-Some.node.0 c.loop-node.fan.walks c.requires further (c.in-Ok.ensures.first ∙ c.loop-node.invariant.0) (c.in-Ok.ensures.cells ∙ c.loop-node.invariant.1) c.len-begin.ensures (omega (arith, c.if-begin-len.true, c.len.ensures)),
    )

pub loop-node-preserved : goal.loop-node-preserved
loop-node-preserved t c =
    let further = visit_over c.args.search.now.inst.now c.args.search.now.neighbours.now c.args.fan.now c.args.from c.len-end.result c.loop-node.fan.first c.loop-node.fan.walks c.lengthen_all.new.fan.walks c.loop-node.below c.in-Some.node c.requires c.len-end.ensures c.loop-node.invariant.0 c.loop-node.invariant.2 c.loop-node.invariant.3 c.in-Some.ensures.not_below c.in-Some.ensures.next c.in-Ok.ensures.ok in
    let first = c.in-Ok.ensures.first ∙ c.loop-node.invariant.0 in
    let cells = c.in-Ok.ensures.cells ∙ c.loop-node.invariant.1 in
    elim c.if-begin-len.branch [
      | then-begin-len+in-Ok-visit w ↦ subst (IsKept c.args.search.now.inst.now c.args.fan.now c.args.from c.from-below.result) (sym w.fan-is)
          (visit_on c.args.search.now.inst.now c.args.search.now.neighbours.now c.args.fan.now c.lengthen_all.new.fan w.visit.new.fan c.args.from c.len-begin.result c.in-Some.node.0 c.from-below.result c.loop-node.fan.walks c.requires further first cells c.len-begin.ensures
          (omega (arith, w.if-begin-len.true, c.len.ensures)) c.loop-node.invariant.2 w.in-Ok-visit.ensures.first w.in-Ok-visit.ensures.cells w.in-Ok-visit.ensures.keeps w.in-Ok-visit.ensures.ok c.from-below.ensures)
      | else-begin-len w ↦ subst (IsKept c.args.search.now.inst.now c.args.fan.now c.args.from c.from-below.result) (sym w.fan-is)
          (visit_stays c.args.search.now.inst.now c.args.fan.now c.lengthen_all.new.fan c.args.from c.in-Some.node.0 c.from-below.result c.loop-node.fan.walks further first cells (omega (arith, w.if-begin-len.false, c.len.ensures, c.len-begin.ensures)) c.loop-node.invariant.2 c.from-below.ensures)
    ]

pub returns-clause-ok : goal.returns-clause-ok
returns-clause-ok t c = visit_done c.args.search.now.inst.now c.args.search.now.neighbours.now c.args.fan.now c.args.from c.len-end.result c.loop-node.below c.loop-node.fan.first c.loop-node.fan.walks c.requires c.len-end.ensures c.loop-node.invariant.0 c.loop-node.invariant.2 c.loop-node.invariant.3 c.in_default.ensures.next
