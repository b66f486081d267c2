-- Why `write_sweep` does what its contract says.
use Rattle.std.proofs.Common.{◌∷◌, ◌++◌, [], List, ℕ, map, codes, refl}
use Rattle.std.specs.List.{flat_map}
use Rattle.vss_io.proofs.CallLaws.{PrintsAllBut-broken, PrintsAllBut-ended, PrintsAllBut-then}
use Rattle.vss_report.specs.Lines.{spaced}
use Rattle.vss_report.specs.Names.{cell_named}
use Rattle.vss_report.proofs.design_writer.write_sweep.Goals as goal

pub returns-in_err-add : goal.returns-in_err-add
returns-in_err-add g c =
    let cells : List ℕ = flat_map spaced (map (cell_named c.args.labels.now) c.args.cells.now) in
    PrintsAllBut-broken _ _ _ (codes "sweep") (cells ++ 10 ∷ []) _ _ _ (rw c.new-text.ensures at c.in_err-add.ensures.printed) refl c.from_residual.ensures.0

pub returns-in_err-add_cells : goal.returns-in_err-add_cells
returns-in_err-add_cells g c =
    let cells : List ℕ = flat_map spaced (map (cell_named c.args.labels.now) c.args.cells.now) in
    let so_far = PrintsAllBut-then _ _ _ _ _ (codes "sweep") cells (codes "sweep" ++ cells) _ _ (rw c.new-text.ensures at c.in_ok-add.ensures.printed) c.in_err-add_cells.ensures refl in
    PrintsAllBut-broken _ _ _ (codes "sweep" ++ cells) (10 ∷ []) _ _ _ so_far refl c.from_residual-in_err-add_cells.ensures.0

pub returns : goal.returns
returns g c =
    let cells : List ℕ = flat_map spaced (map (cell_named c.args.labels.now) c.args.cells.now) in
    let so_far = PrintsAllBut-then _ _ _ _ _ (codes "sweep") cells (codes "sweep" ++ cells) _ _ (rw c.new-text.ensures at c.in_ok-add.ensures.printed) c.in_ok-add_cells.ensures refl in
    PrintsAllBut-ended _ _ _ c.add_cells.new.text (codes "sweep" ++ cells) (10 ∷ []) _ _ _ so_far c.finish.ensures.printed refl
