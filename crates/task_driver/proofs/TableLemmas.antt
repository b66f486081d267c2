-- The tables of all trains' sweeps, as the laws of plans take them.
use Rattle.std.proofs.Common.{◌≡◌, ◌∙◌, ℕ, suc, ◌<◌, List, [], ◌∷◌, length, map, get_or, refl, arith, Some}
use Rattle.std.specs.Prelude.{All, slice_get}
use Rattle.std.specs.List.{AllZip}
use Rattle.std.proofs.lemmas.List.{length-map}
use Rattle.std.proofs.lemmas.List.Elements.{All-map}
use Rattle.cell_net.specs.declared.parts.InstanceParts.{InstanceParts}
use Rattle.cell_net.specs.declared.trains.TrainSpec.{TrainSpec}
use Rattle.sweep_table.specs.Parts.{SweepParts, table_of}
use Rattle.sweep_table.specs.Sweeps.{IsTableOf}
use Rattle.sweep_table.specs.Tables.{Table, IsTable}
use Rattle.clause_encoder.specs.SweepTables.{HaveTables}
use Rattle.plan_laws.specs.Satisfied.{AreTables}

-- the tables of moves
abbrev pub tables_in : InstanceParts → List SweepParts → List Table
tables_in p sweeps = map (table_of p) sweeps

pub rules_in : (p : InstanceParts) (sweeps : List SweepParts) → HaveTables p (length p.trains) sweeps → All (IsTable p) (tables_in p sweeps)
rules_in p sweeps have = All-map (IsTable p) (table_of p) sweeps (λ i d within. (have.each i d (omega (arith, have.for_each))).rules)

pub are_tables : (p : InstanceParts) (sweeps : List SweepParts) → HaveTables p (length p.trains) sweeps → AreTables p (tables_in p sweeps)
are_tables p sweeps have = record { for_each = length-map sweeps (table_of p) ∙ have.for_each; each = rules_in p sweeps have }

zip_map : (R : TrainSpec → Table → Type 0) (f : SweepParts → Table) (trains : List TrainSpec) (sweeps : List SweepParts) → length sweeps ≡ length trains
    → ((i : ℕ) (t : TrainSpec) (d : SweepParts) → i < length sweeps → slice_get trains i ≡ Some t → R t (f (get_or sweeps i d))) → AllZip R trains (map f sweeps)
zip_map R f [] [] size at = tt
zip_map R f [] (s ∷ sweeps) size at = absurd (omega arith)
zip_map R f (t ∷ trains) [] size at = absurd (omega arith)
zip_map R f (t ∷ trains) (s ∷ sweeps) size at = (at 0 t s (omega arith) refl, zip_map R f trains sweeps (omega arith) (λ i u d within is. at (suc i) u d (omega arith) is))

pub swept_in : (p : InstanceParts) (sweeps : List SweepParts) → HaveTables p (length p.trains) sweeps → AllZip (IsTableOf p) p.trains (tables_in p sweeps)
swept_in p sweeps have = zip_map (IsTableOf p) (table_of p) p.trains sweeps have.for_each (λ i t d within is. (have.each i d (omega (arith, have.for_each))).of_train t is)
