-- Why `directed_of` does what its contract says.
use Rattle.std.proofs.Common.{◌≡◌, ◌++◌, ◌∷◌, [], ◌∙◌, ap, sym, arith}
use Rattle.std.proofs.lemmas.List.Elements.{All-push, All-same}
use Rattle.cell_net.specs.Space.{IsCell}
use Rattle.cell_net.specs.declared.cells.DirCell.{DirCell}
use Rattle.sweep_table.specs.Growing.{lowward, highward}
use Rattle.sweep_table.proofs.GrowLemmas.{directed_more}
use Rattle.sweep_table.proofs.grow.directed_of.Goals as goal

pub loop-cell-preserved : goal.loop-cell-preserved
loop-cell-preserved c =
    let one : c.push.new.self.items ≡ c.loop-cell.all.items ++ lowward c.loop-cell.cell ∷ [] = cc (c.in_ok-push.ensures.items, c.lowward.ensures) in
    let two : c.push-in-loop-cell.new.self.items ≡ c.push.new.self.items ++ highward c.loop-cell.cell ∷ [] = cc (c.in_ok-push-2.ensures.items, c.highward.ensures) in
    let low : IsCell c.args.inst.now (lowward c.loop-cell.cell).cell = omega arith in
    let high : IsCell c.args.inst.now (highward c.loop-cell.cell).cell = omega arith in (
      two ∙ (ap (λ ds. ds ++ highward c.loop-cell.cell ∷ []) (one ∙ ap (λ ds. ds ++ lowward c.loop-cell.cell ∷ []) c.loop-cell.invariant.0) ∙ sym (directed_more c.loop-cell.cell)),
      All-same (λ (d : DirCell). IsCell c.args.inst.now d.cell) _ _ two (All-push (λ (d : DirCell). IsCell c.args.inst.now d.cell) _ _ (All-same (λ (d : DirCell). IsCell c.args.inst.now d.cell) _ _ one (All-push (λ (d : DirCell). IsCell c.args.inst.now d.cell) _ _ c.loop-cell.invariant.1 low)) high),
    )
