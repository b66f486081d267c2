-- The tables of trains, one after another.
use Rattle.std.proofs.Common.{◌≡◌, ◌∙◌, ℕ, ◌+◌, List, [], ◌∷◌, ◌++◌, length, map, get_or, sym, ap, subst, arith, ⊎_elim}
use Rattle.std.specs.Prelude.{All, Some, slice_get}
use Rattle.cell_net.specs.declared.trains.TrainSpec.{TrainSpec}
use Rattle.sweep_table.specs.declared.refusal.TableRefusal.{TableRefusal}
use Rattle.sweep_table.specs.declared.refusal.TableRefusal.TheVariants as table_refusal
use Rattle.sweep_table.specs.Sweeps.{IsTableRefusal}
use Rattle.std.proofs.lemmas.Bool.{cases_lt}
use Rattle.std.proofs.lemmas.List.{get_or_append_left, get_or-append-add, length_push}
use Rattle.sat_core.specs.Storage.{FormulaParts}
use Rattle.cell_net.specs.declared.parts.InstanceParts.{InstanceParts}
use Rattle.sweep_table.specs.Tables.{Table, IsTable}
use Rattle.sweep_table.specs.Parts.{SweepParts, table_of}
use Rattle.clause_encoder.specs.declared.task.Task.{Task}
use Rattle.clause_encoder.specs.declared.task.Task.TheVariants.{Given, Free}
use Rattle.clause_list.specs.Coding.{given_variables}
use Rattle.clause_encoder.specs.Maps.{MapParts}
use Rattle.clause_encoder.specs.Encoding.{IsEncoding, IsBaseEncoding, IsListRefusal, base_sized, task_variables, sized_clauses, sized_units}
use Rattle.clause_encoder.specs.declared.task.EncodeRefusal.{EncodeRefusal}
use Rattle.clause_encoder.specs.declared.task.EncodeRefusal.TheVariants.{TooManySweeps, TooManyWalks, TooManyVariables, TooManyClauses, TooManyLiterals, Memory}
use Rattle.clause_encoder.specs.SweepTables.{IsSweepTable, HaveTables, IsSweepEncoding, IsSweepBase, IsSweepRefusal, IsEncodeRefusal, IsBaseRefusal, swept_refusal}

pub tables_none : (p : InstanceParts) (tables : List SweepParts) → tables ≡ [] → HaveTables p 0 tables
tables_none p tables none = record { for_each = ap length none; each = λ i d within. absurd (omega arith) }

last_is : (tables : List SweepParts) (new d : SweepParts) → get_or (tables ++ new ∷ []) (length tables) d ≡ new
last_is tables new d = let zero_more : length tables ≡ length tables + 0 = omega arith in ap (λ k. get_or (tables ++ new ∷ []) k d) zero_more ∙ get_or-append-add tables (new ∷ []) 0 d

-- one table more
pub tables_more : (p : InstanceParts) (count : ℕ) (tables grown : List SweepParts) (new : SweepParts) → HaveTables p count tables → grown ≡ tables ++ new ∷ [] → IsSweepTable p count new → HaveTables p (count + 1) grown
tables_more p count tables grown new have same is = record {
  for_each = (let size : length grown ≡ length tables + 1 = ap length same ∙ length_push tables new in let before : length tables ≡ count = have.for_each in omega arith);
  each = λ i d within. let before : length tables ≡ count = have.for_each in ⊎_elim
      (λ early. subst (IsSweepTable p i) (sym (ap (λ ts. get_or ts i d) same ∙ get_or_append_left tables (new ∷ []) d i (omega arith))) (have.each i d early))
      (λ late. let at : i ≡ length tables = omega arith in let number : count ≡ i = omega arith in
      subst (IsSweepTable p i) (sym (ap (λ ts. get_or ts i d) same ∙ ap (λ k. get_or (tables ++ new ∷ []) k d) at ∙ last_is tables new d)) (subst (λ k. IsSweepTable p k new) number is))
      (cases_lt i count);
}

-- a map that keeps tables is the map of the same list
pub keeping_tables : (task : Task) (p : InstanceParts) (tables : List Table) (bound : ℕ) (f : FormulaParts) (m : MapParts) (kept : List SweepParts) → IsEncoding p tables task bound f m → IsEncoding p tables task bound f (record m { tables = kept })
keeping_tables (Given layout) p tables bound f m kept e = record { gaps = e.gaps; are_gaps = e.are_gaps; variables = e.variables; clauses = e.clauses; map = record { candidates = e.map.candidates; trains = e.map.trains }; counter = e.counter; few = e.few }
keeping_tables Free p tables bound f m kept e = record { gaps = e.gaps; are_gaps = e.are_gaps; variables = e.variables; clauses = e.clauses; map = record { candidates = e.map.candidates; trains = e.map.trains }; counter = record { counts = e.counter.counts; first = e.counter.first; order = e.counter.order }; few = e.few }

pub tables_made : (p : InstanceParts) (tables slice : List SweepParts) → HaveTables p (length p.trains) tables → slice ≡ tables → All (λ s. IsTable p (table_of p s)) slice
tables_made p tables slice have same = subst (All (λ s. IsTable p (table_of p s))) (sym same) (λ i d within. (have.each i d (let size : length tables ≡ length p.trains = have.for_each in omega arith)).rules)

pub sweep_encoding : (p : InstanceParts) (task : Task) (bound : ℕ) (f g : FormulaParts) (m n : MapParts) (tables slice : List SweepParts) → HaveTables p (length p.trains) tables → slice ≡ tables → IsEncoding p (map (table_of p) slice) task bound f m → g ≡ f → n ≡ record m { tables = tables } → IsSweepEncoding p task bound g n
sweep_encoding p task bound f g m n tables slice have same e formula map_is =
    subst (λ x. IsSweepEncoding p task bound x n) (sym formula) (subst (IsSweepEncoding p task bound f) (sym map_is) (record {
      tables = have;
      encoding = keeping_tables task p (map (table_of p) tables) bound f m tables (subst (λ ts. IsEncoding p (map (table_of p) ts) task bound f m) same e);
    }))

pub refused_over : (refusal : EncodeRefusal) (p : InstanceParts) (task : Task) (tables slice : List SweepParts) → HaveTables p (length p.trains) tables → slice ≡ tables → IsListRefusal p (task_variables p (map (table_of p) slice) task) (sized_clauses p (map (table_of p) slice) task) (sized_units task) refusal → IsEncodeRefusal p task refusal
refused_over (TooManySweeps train) p task tables slice have same why = absurd why
refused_over (TooManyWalks section) p task tables slice have same why = record { tables = tables; are = have; why = why }
refused_over TooManyVariables p task tables slice have same why = record { tables = tables; are = have; why = subst (λ ts. IsListRefusal p (task_variables p (map (table_of p) ts) task) (sized_clauses p (map (table_of p) ts) task) (sized_units task) TooManyVariables) same why }
refused_over TooManyClauses p task tables slice have same why = record { tables = tables; are = have; why = subst (λ ts. IsListRefusal p (task_variables p (map (table_of p) ts) task) (sized_clauses p (map (table_of p) ts) task) (sized_units task) TooManyClauses) same why }
refused_over TooManyLiterals p task tables slice have same why = record { tables = tables; are = have; why = subst (λ ts. IsListRefusal p (task_variables p (map (table_of p) ts) task) (sized_clauses p (map (table_of p) ts) task) (sized_units task) TooManyLiterals) same why }
refused_over Memory p task tables slice have same why = tt

pub swept_refused : (refusal : EncodeRefusal) (p : InstanceParts) (task : Task) → IsSweepRefusal p refusal → IsEncodeRefusal p task refusal
swept_refused (TooManySweeps train) p task why = why
swept_refused (TooManyWalks section) p task why = absurd why
swept_refused TooManyVariables p task why = absurd why
swept_refused TooManyClauses p task why = absurd why
swept_refused TooManyLiterals p task why = absurd why
swept_refused Memory p task why = tt

pub sweep_base : (p : InstanceParts) (more : ℕ) (f g : FormulaParts) (m n : MapParts) (tables slice : List SweepParts) → HaveTables p (length p.trains) tables → slice ≡ tables → IsBaseEncoding p (map (table_of p) slice) more f m → g ≡ f → n ≡ record m { tables = tables } → IsSweepBase p more g n
sweep_base p more f g m n tables slice have same e formula map_is =
    let over : IsBaseEncoding p (map (table_of p) tables) more f m = subst (λ ts. IsBaseEncoding p (map (table_of p) ts) more f m) same e in
    subst (λ x. IsSweepBase p more x n) (sym formula) (subst (IsSweepBase p more f) (sym map_is) (record {
      tables = have;
      encoding = record { gaps = over.gaps; are_gaps = over.are_gaps; variables = over.variables; clauses = over.clauses; map = record { candidates = over.map.candidates; trains = over.map.trains }; counter = over.counter; few = over.few };
    }))

pub base_refused_over : (refusal : EncodeRefusal) (p : InstanceParts) (more : ℕ) (tables slice : List SweepParts) → HaveTables p (length p.trains) tables → slice ≡ tables → IsListRefusal p (given_variables p (map (table_of p) slice) + more) (base_sized p (map (table_of p) slice)) 0 refusal → IsBaseRefusal p more refusal
base_refused_over (TooManySweeps train) p more tables slice have same why = absurd why
base_refused_over (TooManyWalks section) p more tables slice have same why = record { tables = tables; are = have; why = why }
base_refused_over TooManyVariables p more tables slice have same why = record { tables = tables; are = have; why = subst (λ ts. IsListRefusal p (given_variables p (map (table_of p) ts) + more) (base_sized p (map (table_of p) ts)) 0 TooManyVariables) same why }
base_refused_over TooManyClauses p more tables slice have same why = record { tables = tables; are = have; why = subst (λ ts. IsListRefusal p (given_variables p (map (table_of p) ts) + more) (base_sized p (map (table_of p) ts)) 0 TooManyClauses) same why }
base_refused_over TooManyLiterals p more tables slice have same why = record { tables = tables; are = have; why = subst (λ ts. IsListRefusal p (given_variables p (map (table_of p) ts) + more) (base_sized p (map (table_of p) ts)) 0 TooManyLiterals) same why }
base_refused_over Memory p more tables slice have same why = tt

pub base_swept_refused : (refusal : EncodeRefusal) (p : InstanceParts) (more : ℕ) → IsSweepRefusal p refusal → IsBaseRefusal p more refusal
base_swept_refused (TooManySweeps train) p more why = why
base_swept_refused (TooManyWalks section) p more why = absurd why
base_swept_refused TooManyVariables p more why = absurd why
base_swept_refused TooManyClauses p more why = absurd why
base_swept_refused TooManyLiterals p more why = absurd why
base_swept_refused Memory p more why = tt

-- why a train has no table is why not all have
pub table_refused : (fault : TableRefusal) (p : InstanceParts) (t : TrainSpec) (place : ℕ) (tables : List SweepParts) (refusal : EncodeRefusal) → slice_get p.trains place ≡ Some t → IsTableRefusal p t fault → HaveTables p place tables → refusal ≡ swept_refusal fault (record { 0 = place }) → IsSweepRefusal p refusal
table_refused table_refusal.TooManySweeps p t place tables refusal at why have same = subst (IsSweepRefusal p) (sym same) (record { spec = t; is = at; many = why; tables = tables; first = have })
table_refused table_refusal.Memory p t place tables refusal at why have same = subst (IsSweepRefusal p) (sym same) tt
