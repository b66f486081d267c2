-- The items of a chain lie in the cones of their steps.
use Rattle.std.proofs.Common.{◌≡◌, ℕ, zero, suc, ◌+◌, ◌-◌, ◌<◌, ◌≤◌, Bool, true, false, List, [], ◌∷◌, length, get_or, map, refl, sym, ap, ◌∙◌, subst, arith}
use Rattle.std.specs.Prelude.{Contains, ◌&&◌, nat_lt}
use Rattle.std.proofs.lemmas.List.{get_or-map}
use Rattle.std.proofs.lemmas.Bool.{lt-ltb}
use Rattle.cell_net.specs.declared.parts.InstanceParts.{InstanceParts}
use Rattle.sweep_table.specs.declared.ids.SweepId.{SweepId}
use Rattle.sweep_table.specs.Tables.{Table, IsTable, next_of, prev_of, is_entry, is_goal}
use Rattle.clause_list.specs.Ranges.{below}
use Rattle.clause_list.specs.Cones.{is_marked, has_marked, is_ahead_by, leads_home_by, ahead, home, is_in_both, cone_at, cones_of}
use Rattle.clause_list.specs.Numbers.{CodedTrain, cone}
use Rattle.clause_list.proofs.ListLaws.{length-below, at_below, filter_keeps, in_range}
use Rattle.plan_values.specs.Meanings.{AreItemsOf}
use Rattle.plan_values.proofs.Making.{this_one, other_one}

-- the mark of an item, by a test of each
mark_is : (test : ℕ → Bool) (n w : ℕ) → w < n → is_marked (map test (below n)) w ≡ test w
mark_is test n w h = get_or-map test (below n) w 0 false (omega (arith, length-below n)) ∙ ap test (at_below n w 0 h)

marked_one : (marks : List Bool) (items : List SweepId) (v : SweepId) → Contains items v → is_marked marks v.0 ≡ true → has_marked marks items ≡ true
marked_one marks [] v (k, within, same) h = absurd (omega arith)
marked_one marks (x ∷ xs) v (zero, within, same) h = this_one (is_marked marks x.0) (has_marked marks xs) (ap (λ u. is_marked marks u.0) same ∙ h)
marked_one marks (x ∷ xs) v (suc k, within, same) h = other_one (is_marked marks x.0) (has_marked marks xs) (marked_one marks xs v (k, omega arith, same) h)

-- an entry is ahead at each step of the window
entry_ahead : (table : Table) (window k w : ℕ) → w < length table.cells → k ≤ window → is_entry table w ≡ true → is_marked (ahead table window k) w ≡ true
unfolding is_ahead_by
entry_ahead table window zero w within h entry = entry
entry_ahead table window (suc k) w within h entry =
    let early : nat_lt k window ≡ true = lt-ltb k window (omega arith) in
    mark_is (is_ahead_by table (nat_lt k window) (ahead table window k)) (length table.cells) w within ∙ rw (early, entry) refl

-- what follows an item that is ahead is ahead a step later
next_ahead : (p : InstanceParts) (table : Table) (window k v w : ℕ) → IsTable p table → v < length table.cells → w < length table.cells → Contains (next_of table v) (record { 0 = w }) → is_marked (ahead table window k) v ≡ true → is_marked (ahead table window (suc k)) w ≡ true
unfolding is_ahead_by
next_ahead p table window k v w rules v_within within follows marked =
    let id : SweepId = record { 0 = v } in
    let next : SweepId = record { 0 = w } in
    mark_is (is_ahead_by table (nat_lt k window) (ahead table window k)) (length table.cells) w within
    ∙ other_one (nat_lt k window && is_entry table w) (has_marked (ahead table window k) (prev_of table w)) (marked_one (ahead table window k) (prev_of table w) id ((rules.converse id next v_within within).0 follows) marked)

-- a goal leads home, and so does what leads home from a later step
goal_home : (table : Table) (k w : ℕ) → w < length table.cells → is_goal table w ≡ true → is_marked (home table k) w ≡ true
unfolding leads_home_by
goal_home table zero w within goal = goal
goal_home table (suc k) w within goal = mark_is (leads_home_by table (home table k)) (length table.cells) w within ∙ rw goal refl

before_home : (table : Table) (k v w : ℕ) → v < length table.cells → Contains (next_of table v) (record { 0 = w }) → is_marked (home table k) w ≡ true → is_marked (home table (suc k)) v ≡ true
unfolding leads_home_by
before_home table k v w within follows marked =
    mark_is (leads_home_by table (home table k)) (length table.cells) v within
    ∙ other_one (is_goal table v) (has_marked (home table k) (next_of table v)) (marked_one (home table k) (next_of table v) (record { 0 = w }) follows marked)

next_item : (table : Table) (a : CodedTrain) (x : ℕ) (items : List ℕ) (k : ℕ) → AreItemsOf table a x items → suc k < length items → Contains (next_of table (get_or items k 0)) (record { 0 = get_or items (suc k) 0 })
next_item table a x items k chain within =
    let one : k + 1 ≡ suc k = omega arith in
    subst (λ j. Contains (next_of table (get_or items k 0)) (record { 0 = get_or items j 0 })) one (chain.goes_on k (omega arith))

-- a chain's items are ahead and lead home
chain_ahead : (p : InstanceParts) (table : Table) (a : CodedTrain) (x : ℕ) (items : List ℕ) (k : ℕ) → IsTable p table → AreItemsOf table a x items → k < length items → is_marked (ahead table (a.latest - a.start) (x + k - a.start)) (get_or items k 0) ≡ true
chain_ahead p table a x items zero rules chain within =
    let low : a.start ≤ x = chain.not_early in
    let high : x ≤ a.latest = chain.not_late in
    entry_ahead table (a.latest - a.start) (x + 0 - a.start) (get_or items 0 0) (chain.inside 0 within) (omega arith) chain.enters
chain_ahead p table a x items (suc k) rules chain within =
    let low : a.start ≤ x = chain.not_early in
    let step : suc (x + k - a.start) ≡ x + suc k - a.start = omega arith in
    subst (λ j. is_marked (ahead table (a.latest - a.start) j) (get_or items (suc k) 0) ≡ true) step
    (next_ahead p table (a.latest - a.start) (x + k - a.start) (get_or items k 0) (get_or items (suc k) 0) rules (chain.inside k (omega arith)) (chain.inside (suc k) within) (next_item table a x items k chain within) (chain_ahead p table a x items k rules chain (omega arith)))

-- counted from the last one back
chain_home : (table : Table) (a : CodedTrain) (x : ℕ) (items : List ℕ) (back k : ℕ) → AreItemsOf table a x items → k + back + 1 ≡ length items → is_marked (home table (a.by - (x + k))) (get_or items k 0) ≡ true
chain_home table a x items zero k chain last =
    let end : length items - 1 ≡ k = omega arith in
    goal_home table (a.by - (x + k)) (get_or items k 0) (chain.inside k (omega arith)) (subst (λ j. is_goal table (get_or items j 0) ≡ true) end chain.arrives)
chain_home table a x items (suc back) k chain last =
    let late : x + length items ≤ a.by + 1 = chain.in_time in
    let step : suc (a.by - (x + suc k)) ≡ a.by - (x + k) = omega arith in
    subst (λ j. is_marked (home table j) (get_or items k 0) ≡ true) step
    (before_home table (a.by - (x + suc k)) (get_or items k 0) (get_or items (suc k) 0) (chain.inside k (omega arith)) (next_item table a x items k chain (omega arith)) (chain_home table a x items back (suc k) chain (omega arith)))

-- each item of a chain lies in the cone of its step
pub lies_in_cones : (p : InstanceParts) (table : Table) (a : CodedTrain) (x : ℕ) (items : List ℕ) (k : ℕ) → IsTable p table → a.cones ≡ cones_of table (a.latest - a.start) (a.by - a.start) → AreItemsOf table a x items → k < length items → Contains (cone a (x + k)) (get_or items k 0)
unfolding cone_at is_in_both
lies_in_cones p table a x items k rules cones chain within =
    let low : a.start ≤ x = chain.not_early in
    let late : x + length items ≤ a.by + 1 = chain.in_time in
    let w : ℕ = get_or items k 0 in
    let j : ℕ = x + k - a.start in
    let marks : ℕ → List ℕ = cone_at table (a.latest - a.start) (a.by - a.start) in
    let this : cone a (x + k) ≡ marks j = ap (λ c. get_or c j []) cones ∙ (get_or-map marks (below (a.by - a.start + 1)) j 0 [] (omega (arith, length-below (a.by - a.start + 1))) ∙ ap marks (at_below (a.by - a.start + 1) j 0 (omega arith))) in
    let back : a.by - a.start - j ≡ a.by - (x + k) = omega arith in
    let front_mark : is_marked (ahead table (a.latest - a.start) j) w ≡ true = chain_ahead p table a x items k rules chain within in
    let home_mark : is_marked (home table (a.by - a.start - j)) w ≡ true = subst (λ i. is_marked (home table i) w ≡ true) (sym back) (chain_home table a x items (length items - 1 - k) k chain (omega arith)) in
    subst (λ c. Contains c w) (sym this) (filter_keeps (is_in_both (ahead table (a.latest - a.start) j) (home table (a.by - a.start - j))) (below (length table.cells)) w (rw (front_mark, home_mark) refl) (in_range 0 (length table.cells) w (omega arith) (chain.inside k within)))
