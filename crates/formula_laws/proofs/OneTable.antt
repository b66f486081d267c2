-- A train has one table of its sweeps.
use Rattle.std.proofs.Common.{◌≡◌, ◌∙◌, ℕ, zero, suc, ◌-◌, ◌<◌, ◌↔◌, Bool, true, false, List, [], ◌∷◌, length, map, get_or, refl, sym, ap, subst, arith, Some, ⊎_elim}
use Rattle.std.specs.Prelude.{AllPairs, Contains, slice_get}
use Rattle.std.proofs.Math.Path.{fun_ext}
use Rattle.std.proofs.lemmas.Bool.{cases_lt}
use Rattle.std.proofs.lemmas.List.{ext_get_or}
use Rattle.std.proofs.lemmas.List.Elements.{All-contains}
use Rattle.cell_net.specs.Runs.{Continues}
use Rattle.cell_net.specs.declared.cells.DirCell.{DirCell}
use Rattle.cell_net.specs.declared.parts.InstanceParts.{InstanceParts}
use Rattle.cell_net.specs.declared.trains.TrainSpec.{TrainSpec}
use Rattle.sweep_table.specs.Order.{IsSweepBefore}
use Rattle.sweep_table.specs.Parts.{SweepParts, table_of}
use Rattle.sweep_table.specs.Sweeps.{IsStanding, IsTableOf}
use Rattle.sweep_table.specs.Tables.{Table, cells_of, next_of, prev_of, is_entry, is_goal, stands_in, Rises, IsTable}
use Rattle.sweep_table.specs.declared.ids.SweepId.{SweepId}
use Rattle.clause_encoder.specs.SweepTables.{IsSweepTable}
use Rattle.formula_laws.specs.Laws.{TablesAreOne}
use Rattle.formula_laws.proofs.SameLists.{same_lists}
use Rattle.formula_laws.proofs.SweepOrder.{not_before_back}

-- the same truth makes the same value
same_value : (P : Type 0) (x y : Bool) → (x ≡ true) ↔ P → (y ≡ true) ↔ P → x ≡ y
same_value P true true one other = refl
same_value P true false one other = sym (other.1 (one.0 refl))
same_value P false true one other = one.1 (other.0 refl)
same_value P false false one other = refl

-- what rises from each to the next rises from each to each later one
rising : (ids : List SweepId) → Rises ids → AllPairs (λ v w. v.0 < w.0) ids
rising ids rises i zero d less within = absurd (omega arith)
rising ids rises i (suc j) d less within =
    let step : (get_or ids j d).0 < (get_or ids (suc j) d).0 = subst (λ (n : ℕ). (get_or ids j d).0 < (get_or ids n d).0) (omega arith) (rises j d (omega arith)) in
    ⊎_elim
    (λ before. let front : (get_or ids i d).0 < (get_or ids j d).0 = rising ids rises i j d before (omega arith) in
    omega arith)
    (λ here. let same : i ≡ j = omega arith in subst (λ k. (get_or ids k d).0 < (get_or ids (suc j) d).0) (sym same) step)
    (cases_lt i j)

not_back : (v w : SweepId) → v.0 < w.0 → ¬ (w.0 < v.0)
not_back v w forth back = omega arith

-- two rising lists of the same items are one
same_items : (one other : List SweepId) → Rises one → Rises other → ((v : SweepId) → Contains one v ↔ Contains other v) → one ≡ other
same_items one other up also same = same_lists (λ v w. v.0 < w.0) not_back one other (rising one up) (rising other also) same

same_table : (a b : Table) → a.cells ≡ b.cells → a.next ≡ b.next → a.prev ≡ b.prev → a.entries ≡ b.entries → a.goals ≡ b.goals → a.stands ≡ b.stands → a ≡ b
same_table a b cells next prev entries goals stands =
    ap (λ c. record a { cells = c }) cells
    ∙ ap (λ n. record a { cells = b.cells; next = n }) next
    ∙ ap (λ n. record a { cells = b.cells; next = b.next; prev = n }) prev
    ∙ ap (λ e. record { cells = b.cells; next = b.next; prev = b.prev; entries = e; goals = a.goals; stands = a.stands }) entries
    ∙ ap (λ g. record { cells = b.cells; next = b.next; prev = b.prev; entries = b.entries; goals = g; stands = a.stands }) goals
    ∙ ap (λ s. record { cells = b.cells; next = b.next; prev = b.prev; entries = b.entries; goals = b.goals; stands = s }) stands

-- two tables of one train's sweeps
module _ (p : InstanceParts) (t : TrainSpec) (a b : Table) (rules : IsTable p a) (also : IsTable p b) (one : IsTableOf p t a) (other : IsTableOf p t b) where
  same_sweeps : a.cells ≡ b.cells
  same_sweeps = same_lists IsSweepBefore not_before_back a.cells b.cells one.sweeps.in_order other.sweeps.in_order
      (λ w. (λ there. (other.sweeps.each w).1 ((one.sweeps.each w).0 there), λ there. (one.sweeps.each w).1 ((other.sweeps.each w).0 there)))

  same_count : length a.cells ≡ length b.cells
  same_count = ap length same_sweeps

  same_cells : (v : ℕ) → cells_of a v ≡ cells_of b v
  same_cells v = ap (λ (cs : List (List DirCell)). get_or cs v []) same_sweeps

  -- what comes next is an item
  next_inside : (c : Table) (v w : SweepId) → IsTable p c → v.0 < length c.cells → Contains (next_of c v.0) w → w.0 < length c.cells
  next_inside c v w keeps within there = All-contains (λ u. u.0 < length c.cells) (next_of c v.0) w (keeps.next_are_items v.0 [] (omega (arith, keeps.next_for_each))) there

  prev_inside : (c : Table) (v w : SweepId) → IsTable p c → v.0 < length c.cells → Contains (prev_of c v.0) w → w.0 < length c.cells
  prev_inside c v w keeps within there = All-contains (λ u. u.0 < length c.cells) (prev_of c v.0) w (keeps.prev_are_items v.0 [] (omega (arith, keeps.prev_for_each))) there

  goes_on : (v w : SweepId) → v.0 < length a.cells → w.0 < length a.cells → Contains (next_of a v.0) w ↔ Contains (next_of b v.0) w
  goes_on v w within inside =
      let here : Contains (next_of a v.0) w ↔ Continues t (cells_of a v.0) (cells_of a w.0) = one.goes_on v w within inside in
      let there : Contains (next_of b v.0) w ↔ Continues t (cells_of a v.0) (cells_of a w.0) =
      rw (same_cells v.0, same_cells w.0) (other.goes_on v w (omega (arith, same_count)) (omega (arith, same_count))) in
      (λ has. there.1 (here.0 has), λ has. here.1 (there.0 has))

  next_at : (v : ℕ) → v < length a.cells → next_of a v ≡ next_of b v
  next_at v within =
      let id : SweepId = record { 0 = v } in
      same_items (next_of a v) (next_of b v) (rules.next_rise v [] (omega (arith, rules.next_for_each))) (also.next_rise v [] (omega (arith, also.next_for_each, same_count))) (λ w. (
        λ has. (goes_on id w within (next_inside a id w rules within has)).0 has,
        λ has. (goes_on id w within (omega (arith, same_count, next_inside b id w also (omega (arith, same_count)) has))).1 has,
      ))

  prev_at : (v : ℕ) → v < length a.cells → prev_of a v ≡ prev_of b v
  prev_at v within =
      let id : SweepId = record { 0 = v } in
      same_items (prev_of a v) (prev_of b v) (rules.prev_rise v [] (omega (arith, rules.prev_for_each))) (also.prev_rise v [] (omega (arith, also.prev_for_each, same_count))) (λ w. (
        λ has.
            let inside : w.0 < length a.cells = prev_inside a id w rules within has in
            (also.converse w id (omega (arith, same_count)) (omega (arith, same_count))).0 ((goes_on w id inside within).0 ((rules.converse w id inside within).1 has)),
        λ has.
            let inside : w.0 < length a.cells = omega (arith, same_count, prev_inside b id w also (omega (arith, same_count)) has) in
            (rules.converse w id inside within).0 ((goes_on w id inside within).1 ((also.converse w id (omega (arith, same_count)) (omega (arith, same_count))).1 has)),
      ))

  entry_at : (v : ℕ) → v < length a.cells → is_entry a v ≡ is_entry b v
  entry_at v within = same_value (slice_get (cells_of a v) 0 ≡ Some t.entry) (is_entry a v) (is_entry b v) (one.entries (record { 0 = v }) within)
      (rw (same_cells v) (other.entries (record { 0 = v }) (omega (arith, same_count))))

  goal_at : (v : ℕ) → v < length a.cells → is_goal a v ≡ is_goal b v
  goal_at v within = same_value (slice_get (cells_of a v) (length (cells_of a v) - 1) ≡ Some t.goal) (is_goal a v) (is_goal b v) (one.goals (record { 0 = v }) within)
      (rw (same_cells v) (other.goals (record { 0 = v }) (omega (arith, same_count))))

  stands_at : (station v : ℕ) → v < length a.cells → stands_in a station v ≡ stands_in b station v
  stands_at station v within = same_value (IsStanding p t (record { 0 = station }) (cells_of a v)) (stands_in a station v) (stands_in b station v) (one.stands (record { 0 = station }) (record { 0 = v }) within)
      (rw (same_cells v) (other.stands (record { 0 = station }) (record { 0 = v }) (omega (arith, same_count))))

  pub one_table : a ≡ b
  one_table = same_table a b same_sweeps
      (ext_get_or [] a.next b.next (rules.next_for_each ∙ (same_count ∙ sym also.next_for_each)) (λ v within. next_at v (omega (arith, rules.next_for_each))))
      (ext_get_or [] a.prev b.prev (rules.prev_for_each ∙ (same_count ∙ sym also.prev_for_each)) (λ v within. prev_at v (omega (arith, rules.prev_for_each))))
      (ext_get_or false a.entries b.entries (rules.entries_for_each ∙ (same_count ∙ sym also.entries_for_each)) (λ v within. entry_at v (omega (arith, rules.entries_for_each))))
      (ext_get_or false a.goals b.goals (rules.goals_for_each ∙ (same_count ∙ sym also.goals_for_each)) (λ v within. goal_at v (omega (arith, rules.goals_for_each))))
      (fun_ext (λ station. ext_get_or false (a.stands station) (b.stands station) (rules.stands_for_each station ∙ (same_count ∙ sym (also.stands_for_each station)))
      (λ v within. stands_at station v (omega (arith, rules.stands_for_each station)))))

-- lists that give the same at each place
same_maps : {A B : Type 0} (f : A → B) (xs ys : List A) → length xs ≡ length ys → ((i : ℕ) (d e : A) → i < length xs → f (get_or xs i d) ≡ f (get_or ys i e)) → map f xs ≡ map f ys
same_maps f [] [] size at = refl
same_maps f [] (y ∷ ys) size at = absurd (omega arith)
same_maps f (x ∷ xs) [] size at = absurd (omega arith)
same_maps f (x ∷ xs) (y ∷ ys) size at =
    let head : f x ≡ f y = at 0 x y (omega arith) in
    let tail : map f xs ≡ map f ys = same_maps f xs ys (omega arith) (λ i d e within. at (suc i) d e (omega arith)) in
    cc

some_train : (p : InstanceParts) (i : ℕ) → i < length p.trains → (t : TrainSpec) × (slice_get p.trains i ≡ Some t)
some_train p i within = first p.trains i within
  where
    first : (trains : List TrainSpec) (k : ℕ) → k < length trains → (t : TrainSpec) × (slice_get trains k ≡ Some t)
    first [] k inside = absurd (omega arith)
    first (t ∷ trains) zero inside = (t, refl)
    first (t ∷ trains) (suc k) inside = first trains k (omega arith)

-- the tables of one train
pub one_sweep_table : (p : InstanceParts) (i : ℕ) (one other : SweepParts) → i < length p.trains → IsSweepTable p i one → IsSweepTable p i other → table_of p one ≡ table_of p other
one_sweep_table p i one other within is also =
    let (t, at) = some_train p i within in
    one_table p t (table_of p one) (table_of p other) is.rules also.rules (is.of_train t at) (also.of_train t at)

pub tables_are_one : (p : InstanceParts) → TablesAreOne p
tables_are_one p one other have also =
    same_maps (table_of p) one other (have.for_each ∙ sym also.for_each) (λ i d e within.
    let inside : i < length p.trains = omega (arith, have.for_each) in one_sweep_table p i (get_or one i d) (get_or other i e) inside (have.each i d inside) (also.each i e inside))
