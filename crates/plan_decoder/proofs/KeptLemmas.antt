-- The tables that a map keeps.
use Rattle.std.proofs.Common.{◌≡◌, List, length, subst, arith}
use Rattle.std.specs.Prelude.{All}
use Rattle.std.proofs.lemmas.List.{get_or-map, length-map}
use Rattle.cell_net.specs.declared.parts.InstanceParts.{InstanceParts}
use Rattle.sweep_table.specs.Parts.{SweepParts, table_of}
use Rattle.sweep_table.specs.Tables.{IsTable}
use Rattle.clause_list.specs.WholeList.{no_table}
use Rattle.clause_encoder.specs.TableLists.{table_over, tables_of}
use Rattle.plan_decoder.specs.Decoding.{sweep_table_on}

-- each is made for the instance
pub made_for_kept : (p : InstanceParts) (sweeps : List SweepParts) → All (IsTable p) (tables_of sweep_table_on p sweeps) → All (λ s. IsTable p (table_of p s)) sweeps
made_for_kept p sweeps rules k d within =
    let size : length (tables_of sweep_table_on p sweeps) ≡ length sweeps = length-map sweeps (table_over sweep_table_on p) in
    subst (IsTable p) (get_or-map (table_over sweep_table_on p) sweeps k d no_table within) (rules k no_table (omega arith))
