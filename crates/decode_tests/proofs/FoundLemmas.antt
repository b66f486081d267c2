-- A valuation that satisfies the formula of a task may be decoded.
use Rattle.std.proofs.Common.{◌≡◌, ◌∙◌, ◌<◌, ℕ, Bool, List, [], ◌∷◌, length, map, get_or, refl, subst, inl, inr, suc, arith}
use Rattle.std.specs.Prelude.{All, Option, Some, slice_get}
use Rattle.std.specs.List.{AllZip}
use Rattle.std.proofs.lemmas.List.Elements.{All-map}
use Rattle.sat_core.specs.Clauses.{SatisfiesAll}
use Rattle.sat_core.specs.Storage.{FormulaParts}
use Rattle.cell_net.specs.declared.parts.InstanceParts.{InstanceParts}
use Rattle.cell_net.specs.declared.trains.TrainSpec.{TrainSpec}
use Rattle.sweep_table.specs.Parts.{SweepParts, table_of}
use Rattle.sweep_table.specs.Sweeps.{IsTableOf}
use Rattle.sweep_table.specs.Tables.{Table, IsTable}
use Rattle.clause_encoder.specs.Maps.{MapParts}
use Rattle.clause_encoder.specs.Plans.{GapLists}
use Rattle.clause_encoder.specs.SweepTables.{HaveTables, IsSweepEncoding}
use Rattle.clause_encoder.specs.declared.task.Task.{Task}
use Rattle.clause_encoder.specs.declared.task.Task.TheVariants.{Given, Free}
use Rattle.plan_decoder.specs.Decoding.{FreeFormulaSays, KeepsTables, SatisfiesTask, kept_tables}
use Rattle.solver_face.specs.Solving.{IsSolution, Searched, ShowsSolution, Solving}
use Rattle.decode_tests.specs.Asked.{IsValuationOf, MayBeAsked}

rules_in : (p : InstanceParts) (sweeps : List SweepParts) → HaveTables p (length p.trains) sweeps → All (IsTable p) (map (table_of p) sweeps)
rules_in p sweeps have = All-map (IsTable p) (table_of p) sweeps (λ i d within. (have.each i d (omega (arith, have.for_each))).rules)

zip_map : (R : TrainSpec → Table → Type 0) (f : SweepParts → Table) (trains : List TrainSpec) (sweeps : List SweepParts) → length sweeps ≡ length trains →
    ((i : ℕ) (t : TrainSpec) (d : SweepParts) → i < length sweeps → slice_get trains i ≡ Some t → R t (f (get_or sweeps i d))) → AllZip R trains (map f sweeps)
zip_map R f [] [] size at = tt
zip_map R f [] (s ∷ sweeps) size at = absurd (omega arith)
zip_map R f (t ∷ trains) [] size at = absurd (omega arith)
zip_map R f (t ∷ trains) (s ∷ sweeps) size at = (at 0 t s (omega arith) refl, zip_map R f trains sweeps (omega arith) (λ i u d within is. at (suc i) u d (omega arith) is))

-- the map of an encoding over the trains' sweeps keeps their tables
pub keeps_tables : (p : InstanceParts) (task : Task) (bound : ℕ) (f : FormulaParts) (m : MapParts) → IsSweepEncoding p task bound f m → KeepsTables p m
keeps_tables p task bound f m e = record {
  for_each = e.tables.for_each;
  rules = rules_in p m.tables e.tables;
  each = zip_map (IsTableOf p) (table_of p) p.trains m.tables e.tables.for_each (λ i t d within is. (e.tables.each i d (omega (arith, e.tables.for_each))).of_train t is);
  map = e.encoding.map;
}

-- what `free_formulas_say` hands to its caller
abbrev pub FreeFormulasSay : Type 0
FreeFormulasSay = (values : List Bool) (p : InstanceParts) (gaps : GapLists) (tables : List Table) (most : ℕ) → FreeFormulaSays values p gaps tables most

-- such a valuation satisfies the clauses of the task
pub satisfies_task : (p : InstanceParts) (task : Task) (bound : ℕ) (f : FormulaParts) (m : MapParts) (values : List Bool) → FreeFormulasSay → MayBeAsked p task → IsSweepEncoding p task bound f m → IsValuationOf f values →
    SatisfiesTask p (kept_tables p m) values
satisfies_task p (Given layout) bound f m values say asked e of =
    inr (layout, record { is_layout = asked; gaps = e.encoding.gaps; are_gaps = e.encoding.are_gaps; clauses = subst (SatisfiesAll values) e.encoding.clauses of.satisfies })
satisfies_task p Free bound f m values say asked e of =
    inl (say values p e.encoding.gaps (map (table_of p) m.tables) bound e.encoding.are_gaps (of.for_each ∙ e.encoding.variables) (omega (arith, e.encoding.few.few_variables, e.encoding.variables, of.for_each)) (subst (SatisfiesAll values) e.encoding.clauses of.satisfies)).0

-- what a call of a solver found is a valuation of its formula
pub found_in : (f : FormulaParts) (before now : Solving) (had left : ℕ) (values : List Bool) → before.vars ≡ f.vars → before.formula ≡ f.clauses → Searched before now had left → ShowsSolution now now.found → now.found ≡ Some values → IsValuationOf f values
found_in f before now had left values same_vars same_formula searched shows is =
    let solution : IsSolution now values = subst (λ (o : Option (List Bool)). ShowsSolution now o) is shows in
    record { for_each = solution.for_each ∙ (searched.same_vars ∙ same_vars); satisfies = subst (SatisfiesAll values) (searched.same_formula ∙ same_formula) solution.formula }
