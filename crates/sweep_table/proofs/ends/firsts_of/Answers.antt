-- Why `firsts_of` does what its contract says.
use Rattle.std.proofs.Common.{List, [], take, refl, arith, subst}
use Rattle.std.specs.Prelude.{Contains}
use Rattle.cell_net.specs.declared.cells.DirCell.{DirCell}
use Rattle.sweep_table.proofs.EndLemmas.{places_more}
use Rattle.sweep_table.proofs.ends.firsts_of.Goals as goal

pub place_of-requires-clause-there : goal.place_of-requires-clause-there
place_of-requires-clause-there c = subst (λ (w : List DirCell). Contains c.args.sweeps.now (take c.args.train w)) (c.row-cells.ensures.item []) (c.requires.first c.loop-place.place [] (omega arith))

pub loop-place-preserved : goal.loop-place-preserved
loop-place-preserved c = places_more _ _ _ _ _ _ _ _ c.loop-place.invariant c.row-cells.ensures.value refl c.place_of.ensures.within c.place_of.ensures.value c.in_ok-push.ensures.items
