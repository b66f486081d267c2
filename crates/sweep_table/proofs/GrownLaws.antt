-- What grows are exactly the paths over which the train may advance so far, in the order of their numbers.
use Rattle.std.proofs.Common.{◌≡◌, ◌≢◌, ◌<◌, ◌≤◌, ◌+◌, ◌-◌, inl, inr, ℕ, zero, suc, true, false, List, [], ◌∷◌, ◌++◌, length, take, get_or, ap, sym, ◌∙◌, refl, subst, arith}
use Rattle.std.specs.Prelude.{Contains, AllPairs, All, ◌↔◌, not, nat_eq, nat_le, slice_get, Some}
use Rattle.std.specs.List.{AllAdjacentBelow}
use Rattle.std.proofs.lemmas.Bool.{cases_lt, cases_Bool, and_parts, and_from, not-true, not_from_false, leb-true, le-leb, eqb-true, eq-eqb, false≢true}
use Rattle.std.proofs.lemmas.List.{get_or_append_left, get_or_push, get_or_default, length_push, take_more, take_all, take-take, get_or-take, take_at, length-take-le, length-take}
use Rattle.std.proofs.lemmas.List.Elements.{Contains-push_cases, All-push}
use Rattle.std.proofs.lemmas.List.Folds.{Any-from_list_any, list_any-from_Any}
use Rattle.std.proofs.lemmas.List.Quantifiers.{all_pairs_push}
use Rattle.std.proofs.lemmas.Option.{slice_get-get_or, slice_get_cases}
use Rattle.vss_rows.proofs.JoinedLaws.{Contains-from_flat_map, Contains-flat_map, AllPairs-flat_map}
use Rattle.cell_net.specs.Space.{IsCell, Follows}
use Rattle.cell_net.specs.Runs.{IsWithinLimit}
use Rattle.cell_net.specs.declared.cells.DirCell.{DirCell}
use Rattle.cell_net.specs.declared.ids.CellId.{CellId}
use Rattle.cell_net.specs.declared.trains.TrainSpec.{TrainSpec}
use Rattle.cell_net.specs.declared.parts.InstanceParts.{InstanceParts}
use Rattle.sweep_table.specs.Order.{directed_number, IsLower}
use Rattle.sweep_table.specs.Growing.{AreAfter, after_of, branch, grown, cell_limit, limit_in, lowward, path_has_cell, may_go_on}
use Rattle.sweep_table.proofs.GrowLemmas.{branch_yes, branch_no, number_within, cell_within}

-- the last of a list
abbrev pub last_of : List DirCell → DirCell
last_of path = get_or path (length path - 1) (lowward 0)

-- part of a track path, or nothing yet, over which the train may advance so far
pub record IsPart (p : InstanceParts) (t : TrainSpec) (count : ℕ) (path : List DirCell) : Type 0 where
  pub cells : All (λ d. IsCell p d.cell) path
  pub in_order : AllAdjacentBelow (Follows p) path (length path)
  pub no_cell_twice : AllPairs (λ c d. c.cell ≢ d.cell) path
  pub slow : All (IsWithinLimit p t count) path

-- the next ones are those that may come behind the path
pub record AreNext (p : InstanceParts) (path next : List DirCell) : Type 0 where
  pub which : (e : DirCell) → Contains next e ↔ (IsCell p e.cell × (0 < length path → Follows p (last_of path) e))
  pub rising : AllPairs (λ e f. directed_number e < directed_number f) next

same_cell : (c d : DirCell) → c.cell.0 ≡ d.cell.0 → c.cell ≡ d.cell
same_cell c d h = λ i. record { 0 = h i }

-- the path doesn't have the cell
fresh_from : (path : List DirCell) (d : DirCell) → path_has_cell path d ≡ false → (k : ℕ) (e : DirCell) → k < length path → (get_or path k e).cell ≢ d.cell
fresh_from path d none k e within same =
    false≢true (sym none ∙ list_any-from_Any (λ (c : DirCell). nat_eq c.cell.0 d.cell.0) path (k, get_or path k e, within, get_or_default path k (get_or path k e) e within, eq-eqb _ _ (ap (λ (c : CellId). c.0) same)))

to_fresh : (path : List DirCell) (d : DirCell) → ((k : ℕ) (e : DirCell) → k < length path → (get_or path k e).cell ≢ d.cell) → path_has_cell path d ≡ false
to_fresh path d fresh = elim (cases_Bool (path_has_cell path d)) [
  | inl has ↦ let found = Any-from_list_any (λ (c : DirCell). nat_eq c.cell.0 d.cell.0) path has in
      absurd (fresh found.0 found.1 found.2 (ap (λ (c : DirCell). c.cell) found.3 ∙ same_cell found.1 d (eqb-true _ _ found.4)))
  | inr none ↦ none
]

-- within the limit, by the number
within_from : (p : InstanceParts) (t : TrainSpec) (count : ℕ) (d : DirCell) → count ≤ t.length + cell_limit p d → IsWithinLimit p t count d
within_from p t count d h cell is = let same : cell_limit p d ≡ cell.limit = ap limit_in is in omega arith

to_within : (p : InstanceParts) (t : TrainSpec) (count : ℕ) (d : DirCell) → IsCell p d.cell → IsWithinLimit p t count d → count ≤ t.length + cell_limit p d
to_within p t count d here within = elim (slice_get_cases p.cells d.cell.0).1 [
  | inl (cell, inside, is, at) ↦ let same : cell_limit p d ≡ cell.limit = ap limit_in is in let low : count ≤ t.length + cell.limit = within cell is in omega arith
  | inr past ↦ absurd (omega arith)
]

-- a path that may go on with a directed cell
may_from : (p : InstanceParts) (t : TrainSpec) (count : ℕ) (path : List DirCell) (d : DirCell) → may_go_on p t.length count path d ≡ true →
    (path_has_cell path d ≡ false) × IsWithinLimit p t count d
unfolding may_go_on
may_from p t count path d may =
    let both = and_parts (not (path_has_cell path d)) (nat_le count (t.length + cell_limit p d)) may in
    (not-true _ both.0, within_from p t count d (leb-true _ _ both.1))

to_may : (p : InstanceParts) (t : TrainSpec) (count : ℕ) (path : List DirCell) (d : DirCell) → IsCell p d.cell → path_has_cell path d ≡ false → IsWithinLimit p t count d →
    may_go_on p t.length count path d ≡ true
unfolding may_go_on
to_may p t count path d here fresh within = and_from _ _ (not_from_false _ fresh) (le-leb _ _ (to_within p t count d here within))

last_pushed : (path : List DirCell) (d : DirCell) → last_of (path ++ d ∷ []) ≡ d
last_pushed path d = let n : length path ≡ length (path ++ d ∷ []) - 1 = omega (arith, length_push path d) in get_or_push path d (lowward 0) _ n

-- neighbours of a path that went on
adjacent_push : (p : InstanceParts) (path : List DirCell) (d : DirCell) → AllAdjacentBelow (Follows p) path (length path) → (0 < length path → Follows p (last_of path) d) →
    AllAdjacentBelow (Follows p) (path ++ d ∷ []) (length (path ++ d ∷ []))
adjacent_push p path d old last k e below =
    let total = length_push path d in
    let at_k : get_or (path ++ d ∷ []) k e ≡ get_or path k e = get_or_append_left path (d ∷ []) e k (omega arith) in
    elim (cases_lt (k + 1) (length path)) [
      | inl inside ↦ let at_next : get_or (path ++ d ∷ []) (k + 1) e ≡ get_or path (k + 1) e = get_or_append_left path (d ∷ []) e (k + 1) inside in
          rw (at_k, at_next) (old k e inside)
      | inr here ↦
          let n : k ≡ length path - 1 = omega arith in
          let at_next : get_or (path ++ d ∷ []) (k + 1) e ≡ d = get_or_push path d e (k + 1) (omega arith) in
          let at_last : get_or path k e ≡ last_of path = get_or_default path k e (lowward 0) (omega arith) ∙ ap (λ m. get_or path m (lowward 0)) n in
          rw (at_k, at_next, at_last) (last (omega arith))
    ]

part_push : (p : InstanceParts) (t : TrainSpec) (count : ℕ) (path : List DirCell) (d : DirCell) → IsPart p t count path → IsCell p d.cell → (0 < length path → Follows p (last_of path) d) →
    may_go_on p t.length count path d ≡ true → IsPart p t count (path ++ d ∷ [])
part_push p t count path d part here follows may =
    let both = may_from p t count path d may in
    record {
      cells = All-push (λ (e : DirCell). IsCell p e.cell) path d part.cells here;
      in_order = adjacent_push p path d part.in_order follows;
      no_cell_twice = all_pairs_push (λ (c e : DirCell). c.cell ≢ e.cell) path d part.no_cell_twice (fresh_from path d both.0);
      slow = All-push (IsWithinLimit p t count) path d part.slow both.1;
    }

-- what may come behind the path that went on
next_push : (p : InstanceParts) (after : List (List DirCell)) (path : List DirCell) (d : DirCell) → AreAfter p after → IsCell p d.cell → AreNext p (path ++ d ∷ []) (after_of after d)
next_push p after path d all here =
    let each = all.each d (number_within p d here) in
    let last = last_pushed path d in
    record {
      which = λ e. (
        λ there. let both = (each.follow e).0 there in (cell_within p e both.0, λ some. rw last both.1),
        λ both. (each.follow e).1 (number_within p e both.0, rw last at (both.1 (omega (arith, length_push path d)))),
      );
      rising = each.rising;
    }

-- each path that grows begins with the path
pub grown_begins : (p : InstanceParts) (train : ℕ) (after : List (List DirCell)) (count more : ℕ) (next path u : List DirCell) → Contains (grown p train after count more next path) u →
    take (length path) u ≡ path
unfolding grown
grown_begins p train after count zero next path u there = elim (Contains-push_cases [] path u there) [
  | inl none ↦ absurd (let low : none.0 < 0 = none.1 in omega arith)
  | inr same ↦ subst (λ v. take (length path) v ≡ path) same (take_all (length path) path (omega arith))
]
grown_begins p train after count (suc more) next path u there =
    let found = Contains-from_flat_map (branch p train after count (grown p train after count more) path) next u there in
    elim (cases_Bool (may_go_on p train count path found.0)) [
      | inl may ↦
          let deeper : Contains (grown p train after count more (after_of after found.0) (path ++ found.0 ∷ [])) u = subst (λ ws. Contains ws u) (branch_yes p train after count (grown p train after count more) path found.0 may) found.2 in
          let longer = grown_begins p train after count more (after_of after found.0) (path ++ found.0 ∷ []) u deeper in
          let total = length_push path found.0 in
          sym (take-take (length path) (length (path ++ found.0 ∷ [])) u (omega arith)) ∙ (ap (take (length path)) longer ∙ take_at path (found.0 ∷ []) (length path) refl)
      | inr never ↦ absurd (let none : Contains [] u = subst (λ ws. Contains ws u) (branch_no p train after count (grown p train after count more) path found.0 never) found.2 in let low : none.0 < 0 = none.1 in omega arith)
    ]

-- each path that grows is one over which the train may advance so far, longer by so many cells
pub record IsGrown (p : InstanceParts) (t : TrainSpec) (count size : ℕ) (u : List DirCell) : Type 0 where
  pub part : IsPart p t count u
  pub size_is : length u ≡ size

pub grown_is_part : (p : InstanceParts) (t : TrainSpec) (after : List (List DirCell)) (count more : ℕ) (next path u : List DirCell) → AreAfter p after → IsPart p t count path → AreNext p path next →
    Contains (grown p t.length after count more next path) u → IsGrown p t count (length path + more) u
unfolding grown
grown_is_part p t after count zero next path u all part are_next there = elim (Contains-push_cases [] path u there) [
  | inl none ↦ absurd (let low : none.0 < 0 = none.1 in omega arith)
  | inr same ↦ subst (IsGrown p t count (length path + 0)) same (record { part = part; size_is = omega arith })
]
grown_is_part p t after count (suc more) next path u all part are_next there =
    let found = Contains-from_flat_map (branch p t.length after count (grown p t.length after count more) path) next u there in
    let which = (are_next.which found.0).0 found.1 in
    elim (cases_Bool (may_go_on p t.length count path found.0)) [
      | inl may ↦
          let deeper : Contains (grown p t.length after count more (after_of after found.0) (path ++ found.0 ∷ [])) u = subst (λ ws. Contains ws u) (branch_yes p t.length after count (grown p t.length after count more) path found.0 may) found.2 in
          let longer = grown_is_part p t after count more (after_of after found.0) (path ++ found.0 ∷ []) u all (part_push p t count path found.0 part which.0 which.1 may) (next_push p after path found.0 all which.0) deeper in
          record { part = longer.part; size_is = omega (arith, longer.size_is, length_push path found.0) }
      | inr never ↦ absurd (let none : Contains [] u = subst (λ ws. Contains ws u) (branch_no p t.length after count (grown p t.length after count more) path found.0 never) found.2 in let low : none.0 < 0 = none.1 in omega arith)
    ]

-- the part of a path up to some place
part_take : (p : InstanceParts) (t : TrainSpec) (count : ℕ) (u : List DirCell) (n : ℕ) → IsPart p t count u → n < length u → (d : DirCell) → d ≡ get_or u n (lowward 0) →
    (IsCell p d.cell) × (0 < n → Follows p (last_of (take n u)) d) × (path_has_cell (take n u) d ≡ false) × IsWithinLimit p t count d
part_take p t count u n part within d is =
    let size : length (take n u) ≡ n = length-take-le n u (omega arith) in
    let same : get_or u n d ≡ d = get_or_default u n d (lowward 0) within ∙ sym is in (
      subst (λ (e : DirCell). IsCell p e.cell) same (part.cells n d within),
      λ some.
          let at_last : last_of (take n u) ≡ get_or u (n - 1) d = ap (λ m. get_or (take n u) (m - 1) (lowward 0)) size ∙ (get_or-take n u (n - 1) (lowward 0) (omega arith) ∙ get_or_default u (n - 1) (lowward 0) d (omega arith)) in
          let next_is : get_or u (n - 1 + 1) d ≡ d = ap (λ m. get_or u m d) (let e : n - 1 + 1 ≡ n = omega arith in e) ∙ same in
          rw at_last (subst (Follows p (get_or u (n - 1) d)) next_is (part.in_order (n - 1) d (omega arith))),
      to_fresh (take n u) d (λ k e low equal. part.no_cell_twice k n e (omega arith) within
          (ap (λ (c : DirCell). c.cell) (sym (get_or-take n u k e (omega arith))) ∙ (equal ∙ ap (λ (c : DirCell). c.cell) (sym (get_or_default u n e d within ∙ same))))),
      subst (IsWithinLimit p t count) same (part.slow n d within),
    )

-- each path over which the train may advance so far grows from its beginning
pub grows : (p : InstanceParts) (t : TrainSpec) (after : List (List DirCell)) (count more : ℕ) (next path u : List DirCell) → AreAfter p after → AreNext p path next → IsGrown p t count (length path + more) u →
    take (length path) u ≡ path → Contains (grown p t.length after count more next path) u
unfolding grown
grows p t after count zero next path u all are_next here begins =
    let whole : u ≡ path = sym (take_all (length path) u (omega (arith, here.size_is))) ∙ begins in
    subst (λ v. Contains (path ∷ []) v) (sym whole) (0, omega arith, refl)
grows p t after count (suc more) next path u all are_next here begins =
    let n : ℕ = length path in
    let d : DirCell = get_or u n (lowward 0) in
    let within : n < length u = omega (arith, here.size_is) in
    let taken = part_take p t count u n here.part within d refl in
    let longer : take (length (path ++ d ∷ [])) u ≡ path ++ d ∷ [] =
    ap (λ m. take m u) (length_push path d) ∙ (take_more u n (lowward 0) within ∙ ap (λ ds. ds ++ d ∷ []) begins) in
    let follows : 0 < length path → Follows p (last_of path) d = λ some. subst (λ ds. Follows p (last_of ds) d) begins (taken.1 some) in
    let fresh : path_has_cell path d ≡ false = subst (λ ds. path_has_cell ds d ≡ false) begins taken.2 in
    let may = to_may p t count path d taken.0 fresh taken.3 in
    let deeper = grows p t after count more (after_of after d) (path ++ d ∷ []) u all (next_push p after path d all taken.0)
    (record { part = here.part; size_is = omega (arith, here.size_is, length_push path d) }) longer in
    Contains-flat_map (branch p t.length after count (grown p t.length after count more) path) next d u ((are_next.which d).1 (taken.0, follows))
    (subst (λ ws. Contains ws u) (sym (branch_yes p t.length after count (grown p t.length after count more) path d may)) deeper)

-- the path, and the directed cell behind it
front : (path u : List DirCell) (d : DirCell) → take (length (path ++ d ∷ [])) u ≡ path ++ d ∷ [] → take (length path) u ≡ path
front path u d begins = sym (take-take (length path) (length (path ++ d ∷ [])) u (omega (arith, length_push path d))) ∙ (ap (take (length path)) begins ∙ take_at path (d ∷ []) (length path) refl)

item : (path u : List DirCell) (d : DirCell) → take (length (path ++ d ∷ [])) u ≡ path ++ d ∷ [] → slice_get u (length path) ≡ Some d
item path u d begins =
    let total = length_push path d in
    let at : get_or u (length path) d ≡ d = sym (get_or-take (length (path ++ d ∷ [])) u (length path) d (omega arith)) ∙ (ap (λ ds. get_or ds (length path) d) begins ∙ get_or_push path d d (length path) refl) in
    let long : length path < length u = omega (arith, ap length begins, length-take (length (path ++ d ∷ [])) u) in
    slice_get-get_or u (length path) d long ∙ ap Some at

-- paths that go on with directed cells of different numbers
lower_at : (path u v : List DirCell) (d e : DirCell) → take (length (path ++ d ∷ [])) u ≡ path ++ d ∷ [] → take (length (path ++ e ∷ [])) v ≡ path ++ e ∷ [] → directed_number d < directed_number e → IsLower u v
lower_at path u v d e begins_u begins_v lower = record {
  place = length path;
  alike = front path u d begins_u ∙ sym (front path v e begins_v);
  here = d;
  there = e;
  is_here = item path u d begins_u;
  is_there = item path v e begins_v;
  lower = lower;
}

-- each path of a branch begins with the path and the directed cell
branch_begins : (p : InstanceParts) (train : ℕ) (after : List (List DirCell)) (count more : ℕ) (path : List DirCell) (d : DirCell) (u : List DirCell) → Contains (branch p train after count (grown p train after count more) path d) u →
    take (length (path ++ d ∷ [])) u ≡ path ++ d ∷ []
branch_begins p train after count more path d u there = elim (cases_Bool (may_go_on p train count path d)) [
  | inl may ↦ grown_begins p train after count more (after_of after d) (path ++ d ∷ []) u (subst (λ ws. Contains ws u) (branch_yes p train after count (grown p train after count more) path d may) there)
  | inr never ↦ absurd (let none : Contains [] u = subst (λ ws. Contains ws u) (branch_no p train after count (grown p train after count more) path d never) there in let low : none.0 < 0 = none.1 in omega arith)
]

-- paths grow in the order of their numbers
pub grown_rise : (p : InstanceParts) (t : TrainSpec) (after : List (List DirCell)) (count more : ℕ) (next path : List DirCell) → AreAfter p after → AreNext p path next → AllPairs IsLower (grown p t.length after count more next path)
unfolding grown
grown_rise p t after count zero next path all are_next = λ i j d low high. absurd (omega arith)
grown_rise p t after count (suc more) next path all are_next =
    AllPairs-flat_map (λ d e. directed_number d < directed_number e) IsLower (branch p t.length after count (grown p t.length after count more) path) next are_next.rising
    (λ d at_d. let which = (are_next.which d).0 at_d in
    elim (cases_Bool (may_go_on p t.length count path d)) [
      | inl may ↦ subst (AllPairs IsLower) (sym (branch_yes p t.length after count (grown p t.length after count more) path d may)) (grown_rise p t after count more (after_of after d) (path ++ d ∷ []) all (next_push p after path d all which.0))
      | inr never ↦ subst (AllPairs IsLower) (sym (branch_no p t.length after count (grown p t.length after count more) path d never)) (λ i j e low high. absurd (omega arith))
    ])
    (λ d e u v at_d at_e lower in_d in_e. lower_at path u v d e (branch_begins p t.length after count more path d u in_d) (branch_begins p t.length after count more path e v in_e) lower)
