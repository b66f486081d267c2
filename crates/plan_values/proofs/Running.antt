-- The values of a chain satisfy the clauses of a train's run.
use Rattle.std.proofs.Common.{◌≡◌, ℕ, zero, suc, ◌+◌, ◌-◌, ◌<◌, ◌≤◌, Bool, true, false, List, [], ◌∷◌, ◌++◌, length, get_or, map, filter, refl, sym, ap, subst, ⊎_elim, arith}
use Rattle.std.specs.Prelude.{Contains, nat_eq, nat_le, nat_lt, slice_index}
use Rattle.std.specs.List.{list_any}
use Rattle.std.proofs.lemmas.Bool.{eq-eqb, le-leb, lt-ltb, leb-true, ltb-true, cases_Bool, cases_lt, false_from_ne_true}
use Rattle.std.proofs.lemmas.List.Elements.{All-contains}
use Rattle.sat_core.specs.declared.literal.Lit.{Lit}
use Rattle.sat_core.specs.Clauses.{Satisfies, SatisfiesAll}
use Rattle.cell_net.specs.declared.cells.DirCell.{DirCell}
use Rattle.sweep_table.specs.declared.ids.SweepId.{SweepId}
use Rattle.sweep_table.specs.Tables.{Table, cells_of, next_of, is_entry, is_goal}
use Rattle.clause_list.specs.Ranges.{from_below, from_to}
use Rattle.clause_list.specs.Numbers.{CodedTrain, is, is_not, cone, sweep, run_ended, waits, touch, steps}
use Rattle.clause_list.specs.RunClauses.{where_, enter, enter_clauses, followers, go_on, goes_on_at, go_on_clauses, stay_ended, stay_ended_clauses, gone, gone_at, gone_clauses, touching, touches_of, touches_at, touch_clauses}
use Rattle.clause_list.specs.Orders.{FitsTable}
use Rattle.clause_list.proofs.ListLaws.{in_range_is, is_in, filter_keeps, both_true, same_number}
use Rattle.plan_values.specs.Values.{has_step, has, touches, touched, is_over, is_waiting}
use Rattle.plan_values.specs.Meanings.{Means, IsChainOf}
use Rattle.plan_values.proofs.Making.{make_true, make_false, here, later, in_front, behind, make_any, make_each, make_one, make_where, not_both, one_makes}

-- a chain has the item at its step, and at no other
pub has_says : (x : ℕ) (items : List ℕ) (t w : ℕ) → has x items t w ≡ true → (x ≤ t) × (t - x < length items) × (get_or items (t - x) 0 ≡ w)
has_says x items t w holds =
    let (step, item) = both_true (has_step x items t) (nat_eq (slice_index items (t - x)) w) holds in
    let (begun, there) = both_true (nat_le x t) (nat_lt (t - x) (length items)) step in
    (leb-true x t begun, ltb-true (t - x) (length items) there, same_number (slice_index items (t - x)) w item)

pub has_holds : (x : ℕ) (items : List ℕ) (t : ℕ) → x ≤ t → t - x < length items → has x items t (get_or items (t - x) 0) ≡ true
has_holds x items t h k = rw (le-leb x t h, lt-ltb (t - x) (length items) k, eq-eqb (get_or items (t - x) 0) (get_or items (t - x) 0) refl) refl

pub not_over : (x : ℕ) (items : List ℕ) (t : ℕ) → t < x + length items → is_over x items t ≡ false
not_over x items t h = false_from_ne_true (is_over x items t) (λ over. let le : x + length items ≤ t = leb-true (x + length items) t over in omega arith)

not_waiting : (x t : ℕ) → x ≤ t → is_waiting x t ≡ false
not_waiting x t h = false_from_ne_true (is_waiting x t) (λ waits. let less : t < x = ltb-true t x waits in omega arith)

-- a chain that begins at a step has an entry there; else it began before, or begins later
enter_one : (values : List Bool) (table : Table) (a : CodedTrain) (x : ℕ) (items : List ℕ) (t : ℕ) → Means values table a x items → IsChainOf table a x items → a.start ≤ t → t ≤ a.latest → a.latest ≤ a.by → Satisfies values (enter table a t)
unfolding enter
enter_one values table a x items t means chain h k order =
    let early : a.start ≤ x = chain.not_early in
    let late : x ≤ a.latest = chain.not_late in
    let began : List Lit = where_ (nat_lt a.start t) (is_not (waits a (t - 1))) in
    let entries : List Lit = map (λ w. is (sweep a t w)) (filter (is_entry table) (cone a t)) in
    let waiting : List Lit = where_ (nat_lt t a.latest) (is (waits a t)) in
    ⊎_elim
    (λ later_on.
    behind values (began ++ entries) waiting (make_where values (nat_lt t a.latest) (is (waits a t)) (lt-ltb t a.latest (omega arith)) (make_true values (waits a t) (is_waiting x t) (means.waits t h (omega arith)) (lt-ltb t x later_on))))
    (λ by_now. ⊎_elim
    (λ before.
    in_front values (began ++ entries) waiting (in_front values began entries (make_where values (nat_lt a.start t) (is_not (waits a (t - 1))) (lt-ltb a.start t (omega arith)) (make_false values (waits a (t - 1)) (is_waiting x (t - 1)) (means.waits (t - 1) (omega arith) (omega arith)) (not_waiting x (t - 1) (omega arith))))))
    (λ now.
    let here_it_is : x ≡ t = omega arith in
    let none : t - x ≡ 0 = omega arith in
    let w : ℕ = get_or items 0 0 in
    let inside : Contains (cone a t) w = subst (λ u. Contains (cone a u) w) (omega arith) (chain.in_cones 0 chain.some) in
    let some : t - x < length items = (let more : 0 < length items = chain.some in omega arith) in
    let holds : has x items t w ≡ true = subst (λ i. has x items t (get_or items i 0) ≡ true) none (has_holds x items t (omega arith) some) in
    in_front values (began ++ entries) waiting (behind values began entries (make_any values (sweep a t) (filter (is_entry table) (cone a t)) w (filter_keeps (is_entry table) (cone a t) w chain.enters inside) (make_true values (sweep a t w) (has x items t w) (means.sweep t w h (omega arith) inside) holds))))
    (cases_lt x t))
    (cases_lt t x)

pub enter_holds : (values : List Bool) (table : Table) (a : CodedTrain) (x : ℕ) (items : List ℕ) → Means values table a x items → IsChainOf table a x items → a.latest ≤ a.by → SatisfiesAll values (enter_clauses table a)
unfolding enter_clauses
enter_holds values table a x items means chain order =
    make_each values (λ t. enter table a t ∷ []) (from_to a.start a.latest) (λ t step. let (h, k) = in_range_is a.start (a.latest + 1) t step in
    make_one values (enter table a t) (enter_one values table a x items t means chain h (omega arith) order))

-- after an item comes the next one of the chain, or it is the last, which is a goal
goes_on_here : (values : List Bool) (table : Table) (a : CodedTrain) (x : ℕ) (items : List ℕ) (t w : ℕ) → Means values table a x items → IsChainOf table a x items → a.start ≤ t → t < a.by → x ≤ t → t - x < length items → get_or items (t - x) 0 ≡ w → Satisfies values (followers a (t + 1) (next_of table w) ++ where_ (is_goal table w) (is (run_ended a (t + 1))))
goes_on_here values table a x items t w means chain h k begun there is_w = ⊎_elim
    (λ more.
    let v : ℕ = get_or items (t - x + 1) 0 in
    let next : Contains (next_of table w) (record { 0 = v }) = subst (λ u. Contains (next_of table u) (record { 0 = v })) is_w (chain.goes_on (t - x) more) in
    let now : x + (t - x + 1) ≡ t + 1 = omega arith in
    let place : t - x + 1 ≡ t + 1 - x = omega arith in
    let inside : Contains (cone a (t + 1)) v = subst (λ u. Contains (cone a u) v) now (chain.in_cones (t - x + 1) more) in
    let holds : has x items (t + 1) v ≡ true = subst (λ i. has x items (t + 1) (get_or items i 0) ≡ true) (sym place) (has_holds x items (t + 1) (omega arith) (omega arith)) in
    let id : SweepId = record { 0 = v } in
    in_front values (followers a (t + 1) (next_of table w)) (where_ (is_goal table w) (is (run_ended a (t + 1)))) (make_any values (λ (u : SweepId). sweep a (t + 1) u.0) (filter (λ u. list_any (nat_eq u.0) (cone a (t + 1))) (next_of table w)) id (filter_keeps (λ (u : SweepId). list_any (nat_eq u.0) (cone a (t + 1))) (next_of table w) id (is_in (cone a (t + 1)) v inside) next) (make_true values (sweep a (t + 1) v) (has x items (t + 1) v) (means.sweep (t + 1) v (omega arith) (omega arith) inside) holds)))
    (λ last.
    let end : length items - 1 ≡ t - x = omega arith in
    let goal : is_goal table w ≡ true = subst (λ u. is_goal table u ≡ true) is_w (subst (λ i. is_goal table (get_or items i 0) ≡ true) end chain.arrives) in
    behind values (followers a (t + 1) (next_of table w)) (where_ (is_goal table w) (is (run_ended a (t + 1)))) (make_where values (is_goal table w) (is (run_ended a (t + 1))) goal (make_true values (run_ended a (t + 1)) (is_over x items (t + 1)) (means.ended (t + 1) (omega arith) (omega arith)) (le-leb (x + length items) (t + 1) (omega arith)))))
    (cases_lt (t - x + 1) (length items))

pub go_on_holds : (values : List Bool) (table : Table) (a : CodedTrain) (x : ℕ) (items : List ℕ) → Means values table a x items → IsChainOf table a x items → SatisfiesAll values (go_on_clauses table a)
unfolding go_on_clauses goes_on_at go_on
go_on_holds values table a x items means chain =
    make_each values (goes_on_at table a) (from_below a.start a.by) (λ t step. let (h, k) = in_range_is a.start a.by t step in
    make_each values (λ w. go_on table a t w ∷ []) (cone a t) (λ w inside. make_one values (go_on table a t w) (
    let rest : List Lit = followers a (t + 1) (next_of table w) ++ where_ (is_goal table w) (is (run_ended a (t + 1))) in
    ⊎_elim
    (λ holds. let (begun, there, is_w) = has_says x items t w holds in later values (is_not (sweep a t w)) rest (goes_on_here values table a x items t w means chain h k begun there is_w))
    (λ fails. here values (is_not (sweep a t w)) rest (make_false values (sweep a t w) (has x items t w) (means.sweep t w h (omega arith) inside) fails))
    (cases_Bool (has x items t w)))))

pub stay_ended_holds : (values : List Bool) (table : Table) (a : CodedTrain) (x : ℕ) (items : List ℕ) → Means values table a x items → SatisfiesAll values (stay_ended_clauses a)
unfolding stay_ended_clauses stay_ended
stay_ended_holds values table a x items means =
    make_each values (λ t. stay_ended a t ∷ []) (from_below (a.start + 1) a.by) (λ t step. let (h, k) = in_range_is (a.start + 1) a.by t step in
    make_one values (stay_ended a t) (one_makes values (run_ended a t) (run_ended a (t + 1)) (is_over x items t) (is_over x items (t + 1)) (means.ended t (omega arith) (omega arith)) (means.ended (t + 1) (omega arith) (omega arith))
    (λ over. let end : x + length items ≤ t = leb-true (x + length items) t over in le-leb (x + length items) (t + 1) (omega arith))))

pub gone_holds : (values : List Bool) (table : Table) (a : CodedTrain) (x : ℕ) (items : List ℕ) → Means values table a x items → SatisfiesAll values (gone_clauses a)
unfolding gone_clauses gone_at gone
gone_holds values table a x items means =
    make_each values (gone_at a) (from_to (a.start + 1) a.by) (λ t step. let (h, k) = in_range_is (a.start + 1) (a.by + 1) t step in
    make_each values (λ w. gone a t w ∷ []) (cone a t) (λ w inside. make_one values (gone a t w) (
    not_both values (run_ended a t) (sweep a t w) (is_over x items t) (has x items t w) (means.ended t (omega arith) (omega arith)) (means.sweep t w (omega arith) (omega arith) inside)
    (λ over. false_from_ne_true (has x items t w) (λ holds.
    let end : x + length items ≤ t = leb-true (x + length items) t over in
    let (begun, there, is_w) = has_says x items t w holds in
    omega arith)))))

in_touched : (cells : List DirCell) (d : DirCell) → Contains cells d → Contains (map (λ c. c.cell.0) cells) d.cell.0
in_touched [] d (k, within, same) = absurd (omega arith)
in_touched (c ∷ cells) d (zero, within, same) = (0, omega arith, ap (λ e. e.cell.0) same)
in_touched (c ∷ cells) d (suc k, within, same) = let (i, inside, at) = in_touched cells d (k, omega arith, same) in (suc i, omega arith, at)

-- an item of the chain touches its cells at its step
pub touches_holds : (table : Table) (x : ℕ) (items : List ℕ) (t w e : ℕ) → has x items t w ≡ true → Contains (touched table w) e → touches table x items t e ≡ true
touches_holds table x items t w e holds inside =
    let (begun, there, is_w) = has_says x items t w holds in
    let found : list_any (nat_eq e) (touched table (get_or items (t - x) 0)) ≡ true = subst (λ v. list_any (nat_eq e) (touched table v) ≡ true) (sym is_w) (is_in (touched table w) e inside) in
    rw (le-leb x t begun, lt-ltb (t - x) (length items) there, found) refl

pub touch_holds : (values : List Bool) (table : Table) (a : CodedTrain) (x : ℕ) (items : List ℕ) → Means values table a x items → FitsTable table a → SatisfiesAll values (touch_clauses table a)
unfolding touch_clauses touches_at touches_of touching
touch_holds values table a x items means fits =
    make_each values (touches_at table a) (steps a) (λ t step. let (h, k) = in_range_is a.start (a.by + 1) t step in
    make_each values (touches_of table a t) (cone a t) (λ w inside.
    make_each values (λ directed. touching a t w directed ∷ []) (cells_of table w) (λ directed there. make_one values (touching a t w directed) (
    let few : directed.cell.0 < a.cells = All-contains (λ d. d.cell.0 < a.cells) (cells_of table w) directed (fits.cells t w inside) there in
    one_makes values (sweep a t w) (touch a t directed.cell.0) (has x items t w) (touches table x items t directed.cell.0) (means.sweep t w h (omega arith) inside) (means.touch t directed.cell.0 h (omega arith) few)
    (λ holds. touches_holds table x items t w directed.cell.0 holds (in_touched (cells_of table w) directed there))))))
