-- The clauses of a train's run are clauses.
use Rattle.std.proofs.Common.{◌≢◌, ℕ, ◌+◌, ◌-◌, ◌<◌, ◌≤◌, Bool, List, [], ◌∷◌, ◌++◌, get_or, map, filter, ⊎_elim, arith}
use Rattle.std.specs.Prelude.{All, AllPairs, Contains, nat_eq, nat_lt}
use Rattle.std.specs.List.{list_any}
use Rattle.std.proofs.lemmas.Bool.{cases_Bool, ltb-true}
use Rattle.std.proofs.lemmas.List.Elements.{All-append, All-contains, Contains-get_or}
use Rattle.std.proofs.lemmas.List.Kept.{AllPairs-filter}
use Rattle.sat_core.specs.declared.literal.Lit.{Lit}
use Rattle.sat_core.specs.Clauses.{IsClause}
use Rattle.sweep_table.specs.declared.ids.SweepId.{SweepId}
use Rattle.sweep_table.specs.Tables.{Table, next_of, cells_of, is_entry, is_goal}
use Rattle.clause_list.specs.Ranges.{from_below, from_to}
use Rattle.clause_list.specs.Numbers.{CodedTrain, is, is_not, steps, cone, sweep, sweeps_before, touch, run_ended, waits, first_touch, behind_train}
use Rattle.clause_list.specs.RunClauses.{where_, enter, enter_clauses, followers, go_on, goes_on_at, go_on_clauses, stay_ended, stay_ended_clauses, gone, gone_at, gone_clauses, touching, touches_of, touches_at, touch_clauses}
use Rattle.clause_list.specs.Orders.{IsNumbered, FitsTable}
use Rattle.clause_list.proofs.ListLaws.{in_range_is, filter_is, is_there}
use Rattle.clause_list.proofs.ClauseLaws.{one_more, two_literals, both_clauses, items_clause, items_all, where_clause, where_all, all_each, all_one}
use Rattle.clause_list.proofs.NumberLaws.{sweep_bounds, sweeps_rise, touch_bounds, ended_bounds, waits_bounds}

-- the numbers of all items of a cone rise
pub cone_numbers_rise : (vars : ℕ) (a : CodedTrain) (t : ℕ) → IsNumbered vars a → a.start ≤ t → t ≤ a.by → AllPairs (λ v w. sweep a t v < sweep a t w) (cone a t)
cone_numbers_rise vars a t numbered h k i j d less within =
    sweeps_rise vars a t (get_or (cone a t) i d) (get_or (cone a t) j d) numbered h k (Contains-get_or (cone a t) i d (omega arith)) (Contains-get_or (cone a t) j d within) (numbered.cones_rise t h k i j d less within)

enter_clause : (vars : ℕ) (table : Table) (a : CodedTrain) (t : ℕ) → IsNumbered vars a → a.start ≤ t → t ≤ a.latest → IsClause vars (enter table a t)
unfolding enter
enter_clause vars table a t numbered h k =
    let last : behind_train a ≤ vars + 1 = numbered.within in
    let one : 1 ≤ a.first = numbered.from_one in
    let before : t ≤ a.by = (let in_time : a.latest ≤ a.by = numbered.enters_in_time in omega arith) in
    let entries : List ℕ = filter (is_entry table) (cone a t) in
    let there = λ (w : ℕ) (inside : Contains entries w). sweep_bounds vars a t w numbered h before (filter_is (is_entry table) (cone a t) w inside).1 in
    let rest : IsClause vars (map (λ w. is (sweep a t w)) entries ++ where_ (nat_lt t a.latest) (is (waits a t))) =
    both_clauses vars (first_touch a) (map (λ w. is (sweep a t w)) entries) (where_ (nat_lt t a.latest) (is (waits a t)))
    (items_clause vars (sweep a t) entries (λ w inside. let (low, high, least, most) = there w inside in (omega arith, omega arith)) (AllPairs-filter (λ v w. sweep a t v < sweep a t w) (is_entry table) (cone a t) (cone_numbers_rise vars a t numbered h before)))
    (where_clause vars (nat_lt t a.latest) (is (waits a t)) (λ test. let (low, high) = waits_bounds a t h (ltb-true t a.latest test) in (omega arith, omega arith)))
    (items_all (λ n. n < first_touch a) (sweep a t) entries (λ w inside. (there w inside).3))
    (where_all (λ l. first_touch a ≤ l.var.0) (nat_lt t a.latest) (is (waits a t)) (λ test. omega arith)) in
    ⊎_elim
    (λ later.
    let after : a.start < t = ltb-true a.start t later in
    let (low, high) = waits_bounds a (t - 1) (omega arith) (omega arith) in
    rw later (one_more vars (is_not (waits a (t - 1))) (map (λ w. is (sweep a t w)) entries ++ where_ (nat_lt t a.latest) (is (waits a t))) (omega arith, omega arith)
    (All-append (λ l. waits a (t - 1) ≢ l.var.0) (map (λ w. is (sweep a t w)) entries) (where_ (nat_lt t a.latest) (is (waits a t)))
    (items_all (λ n. waits a (t - 1) ≢ n) (sweep a t) entries (λ w inside. let (from, end, least, most) = there w inside in omega arith))
    (where_all (λ l. waits a (t - 1) ≢ l.var.0) (nat_lt t a.latest) (is (waits a t)) (λ test. omega arith)))
    rest))
    (λ first. rw first rest)
    (cases_Bool (nat_lt a.start t))

pub enter_are_clauses : (vars : ℕ) (table : Table) (a : CodedTrain) → IsNumbered vars a → All (IsClause vars) (enter_clauses table a)
unfolding enter_clauses
enter_are_clauses vars table a numbered =
    all_each (IsClause vars) (λ t. enter table a t ∷ []) (from_to a.start a.latest) (λ t step. let (h, k) = in_range_is a.start (a.latest + 1) t step in
    all_one (IsClause vars) (enter table a t) (enter_clause vars table a t numbered h (omega arith)))

-- what may come next, in the next step's cone
followers_clause : (vars : ℕ) (a : CodedTrain) (t : ℕ) (items : List SweepId) → IsNumbered vars a → a.start ≤ t → t ≤ a.by → AllPairs (λ v u. v.0 < u.0) items → IsClause vars (followers a t items) × All (λ l. a.first + sweeps_before a t ≤ l.var.0) (followers a t items) × All (λ l. l.var.0 < first_touch a) (followers a t items)
followers_clause vars a t items numbered h k rise =
    let last : behind_train a ≤ vars + 1 = numbered.within in
    let one : 1 ≤ a.first = numbered.from_one in
    let in_cone : SweepId → Bool = λ v. list_any (nat_eq v.0) (cone a t) in
    let inside = λ (v : SweepId) (kept : Contains (filter in_cone items) v). is_there (cone a t) v.0 (filter_is in_cone items v kept).0 in
    let there = λ (v : SweepId) (kept : Contains (filter in_cone items) v). sweep_bounds vars a t v.0 numbered h k (inside v kept) in (
      items_clause vars (λ v. sweep a t v.0) (filter in_cone items) (λ v kept. let (low, high, least, most) = there v kept in (omega arith, omega arith))
          (λ i j d less within. sweeps_rise vars a t (get_or (filter in_cone items) i d).0 (get_or (filter in_cone items) j d).0 numbered h k
          (inside (get_or (filter in_cone items) i d) (Contains-get_or (filter in_cone items) i d (omega arith)))
          (inside (get_or (filter in_cone items) j d) (Contains-get_or (filter in_cone items) j d within))
          (AllPairs-filter (λ v u. v.0 < u.0) in_cone items rise i j d less within)),
      items_all (λ n. a.first + sweeps_before a t ≤ n) (λ v. sweep a t v.0) (filter in_cone items) (λ v kept. (there v kept).0),
      items_all (λ n. n < first_touch a) (λ v. sweep a t v.0) (filter in_cone items) (λ v kept. (there v kept).3),
    )

go_on_clause : (vars : ℕ) (table : Table) (a : CodedTrain) (t w : ℕ) → IsNumbered vars a → FitsTable table a → a.start ≤ t → t < a.by → Contains (cone a t) w → IsClause vars (go_on table a t w)
unfolding go_on
go_on_clause vars table a t w numbered fits h k inside =
    let last : behind_train a ≤ vars + 1 = numbered.within in
    let one : 1 ≤ a.first = numbered.from_one in
    let (low, high, least, most) = sweep_bounds vars a t w numbered h (omega arith) inside in
    let (clause, behind, before) = followers_clause vars a (t + 1) (next_of table w) numbered (omega arith) (omega arith) (fits.next_rise w) in
    let (over, under) = ended_bounds a (t + 1) (omega arith) (omega arith) in
    let next : List Lit = followers a (t + 1) (next_of table w) in
    let end : List Lit = where_ (is_goal table w) (is (run_ended a (t + 1))) in
    one_more vars (is_not (sweep a t w)) (next ++ end) (omega arith, omega arith)
    (All-append (λ l. sweep a t w ≢ l.var.0) next end (λ i d within. let more : a.first + sweeps_before a (t + 1) ≤ (get_or next i d).var.0 = behind i d within in omega arith) (where_all (λ l. sweep a t w ≢ l.var.0) (is_goal table w) (is (run_ended a (t + 1))) (λ goal. omega arith)))
    (both_clauses vars (first_touch a) next end clause (where_clause vars (is_goal table w) (is (run_ended a (t + 1))) (λ goal. (omega arith, omega arith))) before (where_all (λ l. first_touch a ≤ l.var.0) (is_goal table w) (is (run_ended a (t + 1))) (λ goal. omega arith)))

pub go_on_are_clauses : (vars : ℕ) (table : Table) (a : CodedTrain) → IsNumbered vars a → FitsTable table a → All (IsClause vars) (go_on_clauses table a)
unfolding go_on_clauses goes_on_at
go_on_are_clauses vars table a numbered fits =
    all_each (IsClause vars) (goes_on_at table a) (from_below a.start a.by) (λ t step. let (h, k) = in_range_is a.start a.by t step in
    all_each (IsClause vars) (λ w. go_on table a t w ∷ []) (cone a t) (λ w inside. all_one (IsClause vars) (go_on table a t w) (go_on_clause vars table a t w numbered fits h k inside)))

pub stay_ended_are_clauses : (vars : ℕ) (a : CodedTrain) → IsNumbered vars a → All (IsClause vars) (stay_ended_clauses a)
unfolding stay_ended_clauses stay_ended
stay_ended_are_clauses vars a numbered =
    all_each (IsClause vars) (λ t. stay_ended a t ∷ []) (from_below (a.start + 1) a.by) (λ t step. all_one (IsClause vars) (stay_ended a t) (
    let last : behind_train a ≤ vars + 1 = numbered.within in
    let one : 1 ≤ a.first = numbered.from_one in
    let (h, k) = in_range_is (a.start + 1) a.by t step in
    let (low, high) = ended_bounds a t (omega arith) (omega arith) in
    let (low_too, high_too) = ended_bounds a (t + 1) (omega arith) (omega arith) in
    two_literals vars (is_not (run_ended a t)) (is (run_ended a (t + 1))) (omega arith, omega arith) (omega arith, omega arith) (omega arith)))

pub gone_are_clauses : (vars : ℕ) (a : CodedTrain) → IsNumbered vars a → All (IsClause vars) (gone_clauses a)
unfolding gone_clauses gone_at gone
gone_are_clauses vars a numbered =
    all_each (IsClause vars) (gone_at a) (from_to (a.start + 1) a.by) (λ t step. let (h, k) = in_range_is (a.start + 1) (a.by + 1) t step in
    all_each (IsClause vars) (λ w. gone a t w ∷ []) (cone a t) (λ w inside. all_one (IsClause vars) (gone a t w) (
    let last : behind_train a ≤ vars + 1 = numbered.within in
    let one : 1 ≤ a.first = numbered.from_one in
    let (low, high) = ended_bounds a t (omega arith) (omega arith) in
    let (from, end, least, most) = sweep_bounds vars a t w numbered (omega arith) (omega arith) inside in
    two_literals vars (is_not (run_ended a t)) (is_not (sweep a t w)) (omega arith, omega arith) (omega arith, omega arith) (omega arith))))

pub touch_are_clauses : (vars : ℕ) (table : Table) (a : CodedTrain) → IsNumbered vars a → FitsTable table a → All (IsClause vars) (touch_clauses table a)
unfolding touch_clauses touches_at touches_of touching
touch_are_clauses vars table a numbered fits =
    all_each (IsClause vars) (touches_at table a) (steps a) (λ t step. let (h, k) = in_range_is a.start (a.by + 1) t step in
    all_each (IsClause vars) (touches_of table a t) (cone a t) (λ w inside.
    all_each (IsClause vars) (λ directed. touching a t w directed ∷ []) (cells_of table w) (λ directed touched. all_one (IsClause vars) (touching a t w directed) (
    let last : behind_train a ≤ vars + 1 = numbered.within in
    let one : 1 ≤ a.first = numbered.from_one in
    let few : directed.cell.0 < a.cells = All-contains (λ d. d.cell.0 < a.cells) (cells_of table w) directed (fits.cells t w inside) touched in
    let (low, high) = touch_bounds a t directed.cell.0 h (omega arith) few in
    let (from, end, least, most) = sweep_bounds vars a t w numbered h (omega arith) inside in
    two_literals vars (is_not (sweep a t w)) (is (touch a t directed.cell.0)) (omega arith, omega arith) (omega arith, omega arith) (omega arith)))))
