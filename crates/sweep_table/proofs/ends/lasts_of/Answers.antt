-- Why `lasts_of` does what its contract says.
use Rattle.std.proofs.Common.{◌-◌, List, [], length, drop, sym, arith, subst}
use Rattle.std.specs.Prelude.{Contains}
use Rattle.std.proofs.lemmas.List.{take_rest}
use Rattle.cell_net.specs.declared.cells.DirCell.{DirCell}
use Rattle.sweep_table.proofs.EndLemmas.{places_more}
use Rattle.sweep_table.proofs.ends.lasts_of.Goals as goal

pub place_of-requires-clause-there : goal.place_of-requires-clause-there
place_of-requires-clause-there c =
    let there : Contains c.args.sweeps.now (drop (length c.row-cells.result.now - c.args.train) c.row-cells.result.now) =
    subst (λ (w : List DirCell). Contains c.args.sweeps.now (drop (length w - c.args.train) w)) (c.row-cells.ensures.item []) (c.requires.last c.loop-place.place [] (omega arith)) in
    subst (Contains c.args.sweeps.now) (sym (take_rest c.row-cells.result.now (length c.row-cells.result.now - c.args.train))) there

pub loop-place-preserved : goal.loop-place-preserved
loop-place-preserved c = places_more _ _ _ _ _ _ _ _ c.loop-place.invariant c.row-cells.ensures.value (take_rest c.row-cells.result.now (length c.row-cells.result.now - c.args.train)) c.place_of.ensures.within c.place_of.ensures.value c.in_ok-push.ensures.items
