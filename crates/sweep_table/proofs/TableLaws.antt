-- The table of all sweeps in order is the table of the train.
use Rattle.std.proofs.Common.{◌≡◌, ◌<◌, ◌≤◌, ◌+◌, ◌-◌, inl, inr, ℕ, true, false, List, [], length, take, drop, map, get_or, ap, sym, ◌∙◌, refl, subst, arith}
use Rattle.std.specs.Prelude.{AllPairs, Contains, ◌↔◌, Some, slice_get, slice_index, nat_eq}
use Rattle.std.specs.List.{list_all}
use Rattle.std.proofs.lemmas.List.{get_or_past}
use Rattle.std.proofs.lemmas.List.Sums.{AllPass-from_list_all, list_all-from_AllPass}
use Rattle.std.proofs.lemmas.Bool.{cases_lt, cases_order, eqb-true, eq-eqb, and_parts, and_from}
use Rattle.std.proofs.lemmas.List.{get_or-map, length-map, length-drop, length-take-le, get_or-take, get_or-drop}
use Rattle.std.proofs.lemmas.List.Elements.{Contains-get_or, All-map}
use Rattle.std.proofs.lemmas.List.Folds.{Any-from_list_any, list_any-from_Any}
use Rattle.std.proofs.lemmas.Option.{slice_get-get_or, get_or_from_slice_get, same_Some}
use Rattle.cell_net.specs.Space.{IsCell}
use Rattle.cell_net.specs.Runs.{IsSweep, IsCellOf, Continues}
use Rattle.cell_net.specs.declared.ids.CellId.{CellId}
use Rattle.cell_net.specs.declared.ids.StationId.{StationId}
use Rattle.cell_net.specs.declared.cells.DirCell.{DirCell}
use Rattle.cell_net.specs.declared.trains.TrainSpec.{TrainSpec}
use Rattle.cell_net.specs.declared.parts.InstanceParts.{InstanceParts}
use Rattle.sweep_table.specs.Order.{IsSweepBefore}
use Rattle.sweep_table.specs.Ends.{HaveEnds, ArePlaces, first_cells, last_cells}
use Rattle.sweep_table.specs.Groups.{AreGroups}
use Rattle.sweep_table.specs.Parts.{SweepParts, group_of, begins_with, ends_with, has_station_cell, stands_within, cells_of_station, table_of}
use Rattle.sweep_table.specs.Sweeps.{AreSweepsOf, IsTableOf, IsStanding}
use Rattle.sweep_table.specs.Tables.{Table, IsTable, Rises, AreItems, cells_of, next_of, prev_of}
use Rattle.sweep_table.specs.declared.ids.SweepId.{SweepId}
use Rattle.sweep_table.proofs.DirectedLaws.{begins_says, ends_says}
use Rattle.sweep_table.proofs.OrderLaws.{not_before_itself, in_order}

-- a part of a sweep as long as the train is a sweep that stands
part_is_sweep : (p : InstanceParts) (t : TrainSpec) (w v : List DirCell) (from : ℕ) → IsSweep p t w → 0 < t.length → length v ≡ t.length → ((k : ℕ) (d : DirCell) → k < length v → (from + k < length w) × (get_or v k d ≡ get_or w (from + k) d)) → IsSweep p t v
part_is_sweep p t w v from sweep long size part = record {
  path = record {
    not_empty = omega (arith, size);
    cells = λ k d h. let at = part k d h in subst (λ (c : DirCell). IsCell p c.cell) (sym at.1) (sweep.path.cells (from + k) d at.0);
    in_order = λ k d h.
        let here = part k d (omega arith) in
        let next = part (k + 1) d h in
        let e : from + (k + 1) ≡ from + k + 1 = omega arith in
        let follows = sweep.path.in_order (from + k) d (omega arith) in
        rw (here.1, next.1, e) follows;
    no_cell_twice = λ i j d low high.
        let one = part i d (omega arith) in
        let other = part j d high in
        rw (one.1, other.1) (sweep.path.no_cell_twice (from + i) (from + j) d (omega arith) other.0);
  };
  long_enough = omega (arith, size);
  slow_enough = record { by_train = omega (arith, size); by_cells = λ k d h cell is. omega (arith, size) };
}

first_is_sweep : (p : InstanceParts) (t : TrainSpec) (w : List DirCell) → IsSweep p t w → 0 < t.length → IsSweep p t (take t.length w)
first_is_sweep p t w sweep long = part_is_sweep p t w (take t.length w) 0 sweep long (length-take-le t.length w sweep.long_enough)
    (λ k d h. let low : k < t.length = omega (arith, length-take-le t.length w sweep.long_enough) in
    (omega (arith, sweep.long_enough), get_or-take t.length w k d low ∙ ap (λ n. get_or w n d) (let e : k ≡ 0 + k = omega arith in e)))

last_is_sweep : (p : InstanceParts) (t : TrainSpec) (w : List DirCell) → IsSweep p t w → 0 < t.length → IsSweep p t (drop (length w - t.length) w)
last_is_sweep p t w sweep long = part_is_sweep p t w (drop (length w - t.length) w) (length w - t.length) sweep long (omega (arith, length-drop (length w - t.length) w, sweep.long_enough))
    (λ k d h. (omega (arith, length-drop (length w - t.length) w), get_or-drop (length w - t.length) w k d))

pub have_ends : (p : InstanceParts) (t : TrainSpec) (sweeps : List (List DirCell)) → 0 < t.length → AreSweepsOf p t sweeps → length sweeps ≤ 50000 → HaveEnds t.length sweeps
have_ends p t sweeps long are few =
    let each = λ (k : ℕ) (d : List DirCell) (h : k < length sweeps). (are.each (get_or sweeps k d)).0 (Contains-get_or sweeps k d h) in
    record {
      few = few;
      order = are.in_order;
      long = λ k d h. (each k d h).long_enough;
      first = λ k d h. (are.each _).1 (first_is_sweep p t (get_or sweeps k d) (each k d h) long);
      last = λ k d h. (are.each _).1 (last_is_sweep p t (get_or sweeps k d) (each k d h) long);
    }

-- items of groups
group_items : (keys : List ℕ) (groups : List (List SweepId)) (n k : ℕ) → AreGroups keys groups → length keys ≡ n → k < n → AreItems n (group_of groups k)
group_items keys groups n k are size h = λ i d within. omega (arith, (((are.each k (omega arith)).which (get_or (group_of groups k) i d)).0 (Contains-get_or (group_of groups k) i d within)).0)

group_rises : (keys : List ℕ) (groups : List (List SweepId)) (n k : ℕ) → AreGroups keys groups → length keys ≡ n → k < n → Rises (group_of groups k)
group_rises keys groups n k are size h = λ i d within. (are.each k (omega arith)).rising i (i + 1) d (omega arith) within

-- two places in order with the same cells are one
same_place : (rows : List (List DirCell)) (i j : ℕ) (one other : List DirCell) → AllPairs IsSweepBefore rows → slice_get rows i ≡ Some one → slice_get rows j ≡ Some other → one ≡ other → i ≡ j
same_place rows i j one other order at_i at_j same = elim (cases_order i j) [
  | inl here ↦ here
  | inr differ ↦ elim differ [
    | inl low ↦ absurd (not_before_itself other (subst (λ r. IsSweepBefore r other) same (in_order rows i j one other order at_i at_j low)))
    | inr high ↦ absurd (not_before_itself other (subst (IsSweepBefore other) same (in_order rows j i other one order at_j at_i high)))
  ]
]

-- that a station has a cell
station_says : (p : InstanceParts) (station : StationId) (d : DirCell) → (has_station_cell (cells_of_station p station.0) d ≡ true) ↔ IsCellOf p station d.cell
unfolding has_station_cell IsCellOf
station_says p station d = (
  λ has.
      let found = Any-from_list_any (λ (c : CellId). nat_eq c.0 d.cell.0) (cells_of_station p station.0) has in
      let c : CellId = found.1 in
      let same : c ≡ d.cell = λ i. record { 0 = eqb-true c.0 d.cell.0 found.4 i } in
      let within : station.0 < length p.stations = elim (cases_lt station.0 (length p.stations)) [
        | inl low ↦ low
        | inr past ↦ absurd (let none : cells_of_station p station.0 ≡ [] = get_or_past p.stations station.0 [] past in omega (arith, found.2, ap length none))
      ] in
      (cells_of_station p station.0, slice_get-get_or p.stations station.0 [] within, subst (Contains (cells_of_station p station.0)) same (found.0, found.2, found.3)),
  λ of_it.
      let is : cells_of_station p station.0 ≡ of_it.0 = get_or_from_slice_get p.stations station.0 of_it.0 [] of_it.1 in
      let there : Contains (cells_of_station p station.0) d.cell = subst (λ cs. Contains cs d.cell) (sym is) of_it.2 in
      list_any-from_Any (λ (c : CellId). nat_eq c.0 d.cell.0) (cells_of_station p station.0) (there.0, d.cell, there.1, there.2, eq-eqb d.cell.0 d.cell.0 refl),
)

stands_says : (p : InstanceParts) (t : TrainSpec) (station : StationId) (cells : List DirCell) → (stands_within t.length (cells_of_station p station.0) cells ≡ true) ↔ IsStanding p t station cells
unfolding stands_within
stands_says p t station cells = (
  λ h.
      let both = and_parts (nat_eq (length cells) t.length) (list_all (has_station_cell (cells_of_station p station.0)) cells) h in
      let all = AllPass-from_list_all (has_station_cell (cells_of_station p station.0)) cells both.1 in
      record { stands = eqb-true _ _ both.0; inside = λ k d low. (station_says p station (get_or cells k d)).0 (all k d low) },
  λ standing.
      and_from _ _ (eq-eqb _ _ standing.stands) (list_all-from_AllPass (has_station_cell (cells_of_station p station.0)) cells (λ k d low. (station_says p station (get_or cells k d)).1 (standing.inside k d low))),
)

module _ (p : InstanceParts) (t : TrainSpec) (sweeps : List (List DirCell)) (firsts lasts : List ℕ) (starting ending : List (List SweepId))
    (are : AreSweepsOf p t sweeps) (first : ArePlaces sweeps (first_cells t.length) firsts) (last : ArePlaces sweeps (last_cells t.length) lasts)
    (starts : AreGroups firsts starting) (ends : AreGroups lasts ending) where
  abbrev parts : SweepParts
  parts = record { train = t.length; entry = t.entry; goal = t.goal; sweeps = sweeps; next = map (group_of starting) lasts; prev = map (group_of ending) firsts }

  abbrev table : Table
  table = table_of p parts

  next_is : (v : ℕ) → v < length sweeps → next_of table v ≡ group_of starting (slice_index lasts v)
  next_is v h = get_or-map (group_of starting) lasts v 0 [] (omega (arith, last.for_each))

  prev_is : (w : ℕ) → w < length sweeps → prev_of table w ≡ group_of ending (slice_index firsts w)
  prev_is w h = get_or-map (group_of ending) firsts w 0 [] (omega (arith, first.for_each))

  in_next : (v w : SweepId) → v.0 < length sweeps → Contains (next_of table v.0) w ↔ ((w.0 < length sweeps) × (slice_index firsts w.0 ≡ slice_index lasts v.0))
  in_next v w h =
      let low : slice_index lasts v.0 < length sweeps = last.in_range v.0 0 (omega (arith, last.for_each)) in
      let which = (starts.each (slice_index lasts v.0) (omega (arith, first.for_each))).which w in (
        λ there. let both = which.0 (subst (λ g. Contains g w) (next_is v.0 h) there) in (omega (arith, both.0, first.for_each), both.1),
        λ both. subst (λ g. Contains g w) (sym (next_is v.0 h)) (which.1 (omega (arith, both.0, first.for_each), both.1)),
      )

  in_prev : (v w : SweepId) → w.0 < length sweeps → Contains (prev_of table w.0) v ↔ ((v.0 < length sweeps) × (slice_index lasts v.0 ≡ slice_index firsts w.0))
  in_prev v w h =
      let low : slice_index firsts w.0 < length sweeps = first.in_range w.0 0 (omega (arith, first.for_each)) in
      let which = (ends.each (slice_index firsts w.0) (omega (arith, last.for_each))).which v in (
        λ there. let both = which.0 (subst (λ g. Contains g v) (prev_is w.0 h) there) in (omega (arith, both.0, last.for_each), both.1),
        λ both. subst (λ g. Contains g v) (sym (prev_is w.0 h)) (which.1 (omega (arith, both.0, last.for_each), both.1)),
      )

  cells_at : (v : ℕ) → v < length sweeps → slice_get sweeps v ≡ Some (cells_of table v)
  cells_at v h = slice_get-get_or sweeps v [] h

  goes_on : (v w : SweepId) → v.0 < length sweeps → w.0 < length sweeps → Contains (next_of table v.0) w ↔ Continues t (cells_of table v.0) (cells_of table w.0)
  goes_on v w hv hw =
      let at_last = last.each v.0 (cells_of table v.0) hv (cells_at v.0 hv) in
      let at_first = first.each w.0 (cells_of table w.0) hw (cells_at w.0 hw) in (
        λ there. let same = ((in_next v w hv).0 there).1 in same_Some _ _ (sym at_last ∙ (ap (slice_get sweeps) (sym same) ∙ at_first)),
        λ continues. (in_next v w hv).1 (hw, same_place sweeps (slice_index firsts w.0) (slice_index lasts v.0) _ _ are.in_order at_first at_last (sym continues)),
      )

  pub is_table : IsTable p table
  is_table = record {
    next_for_each = length-map lasts (group_of starting) ∙ last.for_each;
    prev_for_each = length-map firsts (group_of ending) ∙ first.for_each;
    entries_for_each = length-map sweeps (begins_with t.entry);
    goals_for_each = length-map sweeps (ends_with t.goal);
    stands_for_each = λ station. length-map sweeps (stands_within t.length (cells_of_station p station));
    cells = λ k d h. ((are.each (get_or sweeps k d)).0 (Contains-get_or sweeps k d h)).path.cells;
    next_are_items = All-map (AreItems (length sweeps)) (group_of starting) lasts (λ k d h. group_items firsts starting (length sweeps) _ starts first.for_each (last.in_range k d h));
    next_rise = All-map Rises (group_of starting) lasts (λ k d h. group_rises firsts starting (length sweeps) _ starts first.for_each (last.in_range k d h));
    prev_are_items = All-map (AreItems (length sweeps)) (group_of ending) firsts (λ k d h. group_items lasts ending (length sweeps) _ ends last.for_each (first.in_range k d h));
    prev_rise = All-map Rises (group_of ending) firsts (λ k d h. group_rises lasts ending (length sweeps) _ ends last.for_each (first.in_range k d h));
    converse = λ v w hv hw. (
      λ there. (in_prev v w hw).1 (hv, sym ((in_next v w hv).0 there).1),
      λ there. (in_next v w hv).1 (hw, sym ((in_prev v w hw).0 there).1),
    );
  }

  pub is_table_of : IsTableOf p t table
  is_table_of = record {
    sweeps = are;
    entries = λ v h. let at = get_or-map (begins_with t.entry) sweeps v.0 [] false h in
        subst (λ b. (b ≡ true) ↔ (slice_get (cells_of table v.0) 0 ≡ Some t.entry)) (sym at) (begins_says t.entry (cells_of table v.0));
    goals = λ v h. let at = get_or-map (ends_with t.goal) sweeps v.0 [] false h in
        subst (λ b. (b ≡ true) ↔ (slice_get (cells_of table v.0) (length (cells_of table v.0) - 1) ≡ Some t.goal)) (sym at) (ends_says t.goal (cells_of table v.0));
    stands = λ station v h. let at = get_or-map (stands_within t.length (cells_of_station p station.0)) sweeps v.0 [] false h in
        subst (λ b. (b ≡ true) ↔ IsStanding p t station (cells_of table v.0)) (sym at) (stands_says p t station (cells_of table v.0));
    goes_on = goes_on;
  }
