-- Cones: the items that a train can have at a step, since an entry leads to them and they lead to a goal in time.
use Rattle.std.specs.Prelude.{ℕ, zero, suc, ◌+◌, ◌-◌, List, Bool, false, ◌&&◌, ◌||◌, nat_lt, map, filter, length, slice_index_or}
use Rattle.std.specs.List.{list_any}
use Rattle.sweep_table.specs.declared.ids.SweepId.{SweepId}
use Rattle.sweep_table.specs.Tables.{Table, next_of, prev_of, is_entry, is_goal}
use Rattle.clause_list.specs.Ranges.{below}

-- the item is marked
abbrev pub is_marked : List Bool → ℕ → Bool
is_marked marks w = slice_index_or marks w false

-- one of the items is marked
abbrev pub has_marked : List Bool → List SweepId → Bool
has_marked marks items = list_any (λ v. is_marked marks v.0) items

-- the item is ahead, by the marks of what was ahead a step before: it is an entry, while the train may still enter, or it
-- may come after a marked item
unfoldable pub is_ahead_by : Table → Bool → List Bool → ℕ → Bool
is_ahead_by table may_enter marks w = (may_enter && is_entry table w) || has_marked marks (prev_of table w)

abbrev pub ahead_after : Table → Bool → List Bool → List Bool
ahead_after table may_enter marks = map (is_ahead_by table may_enter marks) (below (length table.cells))

-- the item leads home, by the marks of what leads home a step later: it is a goal, or a marked item may come after it
unfoldable pub leads_home_by : Table → List Bool → ℕ → Bool
leads_home_by table marks w = is_goal table w || has_marked marks (next_of table w)

abbrev pub home_before : Table → List Bool → List Bool
home_before table marks = map (leads_home_by table marks) (below (length table.cells))

-- ahead, so many steps after the first, where the train may enter until so many steps after it
abbrev pub ahead : Table → ℕ → ℕ → List Bool
ahead table window zero = table.entries
ahead table window (suc k) = ahead_after table (nat_lt k window) (ahead table window k)

-- home, so many steps before the last
abbrev pub home : Table → ℕ → List Bool
home table zero = table.goals
home table (suc k) = home_before table (home table k)

-- the items of both, rising
unfoldable pub is_in_both : List Bool → List Bool → ℕ → Bool
is_in_both one other w = is_marked one w && is_marked other w

abbrev pub marked_by_both : ℕ → List Bool → List Bool → List ℕ
marked_by_both count one other = filter (is_in_both one other) (below count)

-- the cone of a step, counted from the first, where the last is so many steps after the first
unfoldable pub cone_at : Table → ℕ → ℕ → ℕ → List ℕ
cone_at table window last k = marked_by_both (length table.cells) (ahead table window k) (home table (last - k))

-- the cone of each step from the first to the last, where the train may enter for so many steps after the first
abbrev pub cones_of : Table → ℕ → ℕ → List (List ℕ)
cones_of table window last = map (cone_at table window last) (below (last + 1))
