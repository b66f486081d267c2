-- The clauses of one train's run.
use Rattle.std.specs.Prelude.{ℕ, ◌+◌, ◌-◌, List, [], ◌∷◌, ◌++◌, Bool, cond, nat_eq, nat_lt, map, filter}
use Rattle.std.specs.List.{flat_map, list_any}
use Rattle.sat_core.specs.declared.literal.Lit.{Lit}
use Rattle.cell_net.specs.declared.cells.DirCell.{DirCell}
use Rattle.sweep_table.specs.declared.ids.SweepId.{SweepId}
use Rattle.sweep_table.specs.Tables.{Table, cells_of, next_of, is_entry, is_goal}
use Rattle.clause_list.specs.Ranges.{one_each, from_below, from_to}
use Rattle.clause_list.specs.Numbers.{CodedTrain, is, is_not, steps, cone, sweep, touch, run_ended, waits}

-- the literal, if the test holds
abbrev pub where_ : Bool → Lit → List Lit
where_ test lit = cond test (lit ∷ []) []

-- Enter: at each step at which the train may enter, its run began before, or it has an entry, or it begins later.
unfoldable pub enter : Table → CodedTrain → ℕ → List Lit
enter table a t = where_ (nat_lt a.start t) (is_not (waits a (t - 1))) ++ map (λ w. is (sweep a t w)) (filter (is_entry table) (cone a t)) ++ where_ (nat_lt t a.latest) (is (waits a t))

unfoldable pub enter_clauses : Table → CodedTrain → List (List Lit)
enter_clauses table a = one_each (enter table a) (from_to a.start a.latest)

-- those of the items that the train can have at the step
abbrev pub followers : CodedTrain → ℕ → List SweepId → List Lit
followers a t items = map (λ v. is (sweep a t v.0)) (filter (λ v. list_any (nat_eq v.0) (cone a t)) items)

-- Go on: after an item comes one of those that may, or it is a goal and the run ends.
unfoldable pub go_on : Table → CodedTrain → ℕ → ℕ → List Lit
go_on table a t w = is_not (sweep a t w) ∷ followers a (t + 1) (next_of table w) ++ where_ (is_goal table w) (is (run_ended a (t + 1)))

unfoldable pub goes_on_at : Table → CodedTrain → ℕ → List (List Lit)
goes_on_at table a t = one_each (go_on table a t) (cone a t)

unfoldable pub go_on_clauses : Table → CodedTrain → List (List Lit)
go_on_clauses table a = flat_map (goes_on_at table a) (from_below a.start a.by)

-- Stay ended: an ended run stays ended.
unfoldable pub stay_ended : CodedTrain → ℕ → List Lit
stay_ended a t = is_not (run_ended a t) ∷ is (run_ended a (t + 1)) ∷ []

unfoldable pub stay_ended_clauses : CodedTrain → List (List Lit)
stay_ended_clauses a = one_each (stay_ended a) (from_below (a.start + 1) a.by)

-- Gone: an ended run has no item.
unfoldable pub gone : CodedTrain → ℕ → ℕ → List Lit
gone a t w = is_not (run_ended a t) ∷ is_not (sweep a t w) ∷ []

unfoldable pub gone_at : CodedTrain → ℕ → List (List Lit)
gone_at a t = one_each (gone a t) (cone a t)

unfoldable pub gone_clauses : CodedTrain → List (List Lit)
gone_clauses a = flat_map (gone_at a) (from_to (a.start + 1) a.by)

-- Touch: an item touches its cells.
unfoldable pub touching : CodedTrain → ℕ → ℕ → DirCell → List Lit
touching a t w directed = is_not (sweep a t w) ∷ is (touch a t directed.cell.0) ∷ []

unfoldable pub touches_of : Table → CodedTrain → ℕ → ℕ → List (List Lit)
touches_of table a t w = one_each (touching a t w) (cells_of table w)

unfoldable pub touches_at : Table → CodedTrain → ℕ → List (List Lit)
touches_at table a t = flat_map (touches_of table a t) (cone a t)

unfoldable pub touch_clauses : Table → CodedTrain → List (List Lit)
touch_clauses table a = flat_map (touches_at table a) (steps a)
