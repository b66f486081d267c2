-- A task has one refusal at most, and none where it has a formula.
use Rattle.std.proofs.Common.{◌≡◌, ◌≢◌, ◌∙◌, ℕ, zero, suc, ◌+◌, ◌<◌, ◌≤◌, ◌⊎◌, inl, inr, eqb, List, [], ◌∷◌, length, map, get_or, refl, sym, ap, subst, arith, Some}
use Rattle.std.specs.Prelude.{All, AllPairs, Contains, slice_get}
use Rattle.std.specs.List.{IsDistinct}
use Rattle.std.proofs.lemmas.Bool.{cases_lt}
use Rattle.std.proofs.lemmas.Bool.Decides.{Decides-eqb}
use Rattle.std.proofs.lemmas.List.{get_or_default}
use Rattle.std.proofs.lemmas.List.Elements.{All-head, All-tail}
use Rattle.std.proofs.lemmas.Map.Made.{IsDistinct-from_AllPairs}
use Rattle.std.proofs.lemmas.Map.Steps.{length-le_from_distinct_below}
use Rattle.std.proofs.lemmas.Option.{slice_get_within}
use Rattle.sat_core.specs.declared.literal.Lit.{Lit}
use Rattle.cell_net.specs.declared.cells.DirCell.{DirCell}
use Rattle.cell_net.specs.declared.cells.End.TheVariants.{Low}
use Rattle.cell_net.specs.declared.ids.TrainId.{TrainId}
use Rattle.cell_net.specs.declared.parts.InstanceParts.{InstanceParts}
use Rattle.cell_net.specs.declared.trains.TrainSpec.{TrainSpec}
use Rattle.gap_clauses.specs.Gaps.{AreGaps}
use Rattle.sweep_table.specs.Parts.{SweepParts, table_of}
use Rattle.sweep_table.specs.Sweeps.{HasTooManySweeps}
use Rattle.sweep_table.specs.Tables.{Table}
use Rattle.clause_list.proofs.ListLaws.{is_there}
use Rattle.clause_encoder.specs.Encoding.{HasFewOfAll, IsFirstCrowded, IsListRefusal, task_variables, sized_clauses, sized_units}
use Rattle.clause_encoder.specs.Plans.{GapLists}
use Rattle.clause_encoder.specs.Writing.{literal_count}
use Rattle.clause_encoder.specs.SweepTables.{HaveTables, IsEncodeRefusal, IsFirstManySwept, IsRefusedOver, IsSweepTable}
use Rattle.clause_encoder.specs.declared.limits.TheConstants.{LITERALS}
use Rattle.clause_encoder.specs.declared.task.EncodeRefusal.{EncodeRefusal}
use Rattle.clause_encoder.specs.declared.task.EncodeRefusal.TheVariants.{TooManySweeps, TooManyWalks, TooManyVariables, TooManyClauses, TooManyLiterals, Memory}
use Rattle.clause_encoder.specs.declared.task.Task.{Task}
use Rattle.formula_laws.specs.Laws.{RefusalsAreOne, RefusalsExclude}
use Rattle.formula_laws.proofs.OneTable.{tables_are_one}
use Rattle.formula_laws.proofs.OneClauseList.{WalksAreOne, clauses_are_one}

-- the places of some items among others
record ArePlaces (among some : List (List DirCell)) (places : List ℕ) : Type 0 where
  for_each : length places ≡ length some
  each : (i d : ℕ) → i < length some → (get_or places i d < length among) × (get_or among (get_or places i d) [] ≡ get_or some i [])

places_of : (among some : List (List DirCell)) → All (Contains among) some → (places : List ℕ) × ArePlaces among some places
places_of among [] all = ([], record { for_each = refl; each = λ i d within. absurd (omega arith) })
places_of among (x ∷ some) all =
    let (k, within, at) = All-head (Contains among) x some all in
    let (places, are) = places_of among some (All-tail (Contains among) x some all) in
    (k ∷ places, record { for_each = ap suc are.for_each; each = each k places within (get_or_default among k [] x within ∙ at) are.each })
  where
    each : (k : ℕ) (places : List ℕ) → k < length among → get_or among k [] ≡ x → ((i d : ℕ) → i < length some → (get_or places i d < length among) × (get_or among (get_or places i d) [] ≡ get_or some i []))
        → (i d : ℕ) → i < suc (length some) → (get_or (k ∷ places) i d < length among) × (get_or among (get_or (k ∷ places) i d) [] ≡ get_or (x ∷ some) i [])
    each k places within is others zero d inside = (within, is)
    each k places within is others (suc i) d inside = others i d (omega arith)

-- different items that are among others are no more than those
no_more : (among some : List (List DirCell)) → All (Contains among) some → AllPairs ◌≢◌ some → length some ≤ length among
no_more among some all differ =
    let (places, are) = places_of among some all in
    let distinct : IsDistinct eqb places = IsDistinct-from_AllPairs Decides-eqb places (λ i j d less within same.
    differ i j [] less (omega (arith, are.for_each)) (sym (are.each i d (omega (arith, are.for_each))).1 ∙ (ap (λ k. get_or among k []) same ∙ (are.each j d (omega (arith, are.for_each))).1))) in
    let few : length places ≤ length among = length-le_from_distinct_below places (length among) distinct (λ q found.
    let (i, inside, at) = is_there places q found in
    let low : get_or places i q < length among = (are.each i q (omega (arith, are.for_each))).0 in
    omega (arith, at)) in
    omega (arith, few, are.for_each)

-- a train with a table has not too many sweeps
not_many : (p : InstanceParts) (i : ℕ) (s : SweepParts) (t : TrainSpec) → IsSweepTable p i s → slice_get p.trains i ≡ Some t → ¬ HasTooManySweeps p t
not_many p i s t is at many =
    let table = is.of_train t at in
    let all : All (Contains s.sweeps) many.some = λ k d within. (table.sweeps.each (get_or many.some k d)).1 (many.are_sweeps k d within) in
    omega (arith, is.few, many.many, no_more s.sweeps many.some all many.differ)

some_sweeps : SweepParts
some_sweeps = record { train = 0; entry = record { cell = record { 0 = 0 }; end = Low }; goal = record { cell = record { 0 = 0 }; end = Low }; sweeps = []; next = []; prev = [] }

not_swept : (p : InstanceParts) (a count : ℕ) (tables : List SweepParts) → IsFirstManySwept p a → HaveTables p count tables → ¬ (a < count)
not_swept p a count tables first have below = not_many p a (get_or tables a some_sweeps) first.spec (have.each a some_sweeps below) first.is first.many

same_train : (p : InstanceParts) (a b : ℕ) → IsFirstManySwept p a → IsFirstManySwept p b → a ≡ b
same_train p a b one other = elim (cases_lt a b) [
  | inl below ↦ absurd (not_swept p a b other.tables one other.first below)
  | inr above ↦ elim (cases_lt b a) [
    | inl below ↦ absurd (not_swept p b a one.tables other one.first below)
    | inr under ↦ omega arith
  ]
]

not_all_swept : (p : InstanceParts) (a : ℕ) (tables : List SweepParts) → IsFirstManySwept p a → ¬ HaveTables p (length p.trains) tables
not_all_swept p a tables first have = not_swept p a (length p.trains) tables first have (slice_get_within p.trains a first.spec first.is)

same_section : (p : InstanceParts) (s t : ℕ) → IsFirstCrowded p s → IsFirstCrowded p t → s ≡ t
same_section p s t one other = elim (cases_lt s t) [
  | inl below ↦ absurd (other.first s below one.crowded)
  | inr above ↦ elim (cases_lt t s) [
    | inl below ↦ absurd (one.first t below other.crowded)
    | inr under ↦ omega arith
  ]
]

-- a list over given tables
module _ (p : InstanceParts) (v : ℕ) (clauses : GapLists → List (List Lit)) (u : ℕ) (same : (g h : GapLists) → AreGaps p g → AreGaps p h → clauses g ≡ clauses h) where
  same_size : (g h : GapLists) → AreGaps p g → AreGaps p h → length (clauses g) ≡ length (clauses h)
  same_size g h are also = ap length (same g h are also)

  list_one : (one other : EncodeRefusal) → one ≢ Memory → other ≢ Memory → IsListRefusal p v clauses u one → IsListRefusal p v clauses u other → one ≡ other
  list_one (TooManySweeps a) other some also is why = absurd is
  list_one Memory other some also is why = absurd (some refl)
  list_one one (TooManySweeps b) some also is why = absurd why
  list_one one Memory some also is why = absurd (also refl)
  list_one (TooManyWalks s) (TooManyWalks t) some also is why = ap (λ (n : ℕ). TooManyWalks (record { 0 = n })) (same_section p s.0 t.0 is why)
  list_one (TooManyWalks s) TooManyVariables some also is why = absurd (why.0 s.0 is.crowded)
  list_one (TooManyWalks s) TooManyClauses some also is why = absurd (why.walks s.0 is.crowded)
  list_one (TooManyWalks s) TooManyLiterals some also is why = absurd (why.walks s.0 is.crowded)
  list_one TooManyVariables (TooManyWalks t) some also is why = absurd (is.0 t.0 why.crowded)
  list_one TooManyVariables TooManyVariables some also is why = refl
  list_one TooManyVariables TooManyClauses some also is why = absurd (omega (arith, is.1, why.few_variables))
  list_one TooManyVariables TooManyLiterals some also is why = absurd (omega (arith, is.1, why.few_variables))
  list_one TooManyClauses (TooManyWalks t) some also is why = absurd (is.walks t.0 why.crowded)
  list_one TooManyClauses TooManyVariables some also is why = absurd (omega (arith, why.1, is.few_variables))
  list_one TooManyClauses TooManyClauses some also is why = refl
  list_one TooManyClauses TooManyLiterals some also is why = absurd (omega (arith, is.many, why.few_clauses, same_size is.gaps why.gaps is.are_gaps why.are_gaps))
  list_one TooManyLiterals (TooManyWalks t) some also is why = absurd (is.walks t.0 why.crowded)
  list_one TooManyLiterals TooManyVariables some also is why = absurd (omega (arith, why.1, is.few_variables))
  list_one TooManyLiterals TooManyClauses some also is why = absurd (omega (arith, why.many, is.few_clauses, same_size is.gaps why.gaps is.are_gaps why.are_gaps))
  list_one TooManyLiterals TooManyLiterals some also is why = refl

  list_none : (r : EncodeRefusal) (gaps : GapLists) → r ≢ Memory → AreGaps p gaps → HasFewOfAll p v (clauses gaps) u → ¬ IsListRefusal p v clauses u r
  list_none (TooManySweeps a) gaps some are few why = why
  list_none (TooManyWalks s) gaps some are few why = few.walks s.0 why.crowded
  list_none TooManyVariables gaps some are few why = omega (arith, few.few_variables, why.1)
  list_none TooManyClauses gaps some are few why = omega (arith, few.few_clauses, why.many, same_size gaps why.gaps are why.are_gaps)
  list_none TooManyLiterals gaps some are few why =
      omega (arith, few.few_literals, subst (λ (cs : List (List Lit)). LITERALS < literal_count cs + u) (same why.gaps gaps why.are_gaps are) why.many)
  list_none Memory gaps some are few why = some refl

-- a train has too many sweeps, or there are tables of all trains, and no list over them
parted : (p : InstanceParts) (task : Task) (r : EncodeRefusal) → r ≢ Memory → IsEncodeRefusal p task r → ((a : TrainId) × (r ≡ TooManySweeps a) × IsFirstManySwept p a.0) ⊎ IsRefusedOver p task r
parted p task (TooManySweeps a) some why = inl (a, refl, why)
parted p task (TooManyWalks s) some why = inr why
parted p task TooManyVariables some why = inr why
parted p task TooManyClauses some why = inr why
parted p task TooManyLiterals some why = inr why
parted p task Memory some why = absurd (some refl)

one_size : (p : InstanceParts) (task : Task) (tables : List Table) → WalksAreOne p → (g h : GapLists) → AreGaps p g → AreGaps p h → sized_clauses p tables task g ≡ sized_clauses p tables task h
one_size p task tables listed g h are also = (clauses_are_one p listed g h are also tables task 0).1

over_one : (p : InstanceParts) (task : Task) (one other : EncodeRefusal) → WalksAreOne p → one ≢ Memory → other ≢ Memory → IsRefusedOver p task one → IsRefusedOver p task other → one ≡ other
over_one p task one other listed some also is why =
    list_one p (task_variables p (map (table_of p) is.tables) task) (sized_clauses p (map (table_of p) is.tables) task) (sized_units task) (one_size p task (map (table_of p) is.tables) listed) one other some also is.why
    (subst (λ (ts : List Table). IsListRefusal p (task_variables p ts task) (sized_clauses p ts task) (sized_units task) other) (tables_are_one p why.tables is.tables why.are is.are) why.why)

pub refusals_are_one : (p : InstanceParts) → WalksAreOne p → (task : Task) → RefusalsAreOne p task
refusals_are_one p listed task one other some also is why = elim (parted p task one some is) [
  | inl swept ↦ elim (parted p task other also why) [
    | inl swept' ↦ swept.1 ∙ (ap (λ (n : ℕ). TooManySweeps (record { 0 = n })) (same_train p swept.0.0 swept'.0.0 swept.2 swept'.2) ∙ sym swept'.1)
    | inr over ↦ absurd (not_all_swept p swept.0.0 over.tables swept.2 over.are)
  ]
  | inr over ↦ elim (parted p task other also why) [
    | inl swept ↦ absurd (not_all_swept p swept.0.0 over.tables swept.2 over.are)
    | inr over' ↦ over_one p task one other listed some also over over'
  ]
]

pub refusals_exclude : (p : InstanceParts) → WalksAreOne p → (task : Task) → RefusalsExclude p task
refusals_exclude p listed task r some why has = elim (parted p task r some why) [
  | inl swept ↦ not_all_swept p swept.0.0 has.sweeps swept.2 has.are_tables
  | inr over ↦ list_none p (task_variables p (map (table_of p) has.sweeps) task) (sized_clauses p (map (table_of p) has.sweeps) task) (sized_units task) (one_size p task (map (table_of p) has.sweeps) listed) r has.gaps some has.are_gaps has.few
      (subst (λ (ts : List Table). IsListRefusal p (task_variables p ts task) (sized_clauses p ts task) (sized_units task) r) (tables_are_one p over.tables has.sweeps over.are has.are_tables) over.why)
]
