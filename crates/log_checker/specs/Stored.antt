-- How the clauses of the formula and those of the log are stored: in the order of their numbers, with a place each,
-- from 0 on. The formula's own clauses come first.
use Rattle.std.specs.Prelude.{◌≡◌, ℕ, suc, ◌+◌, ◌-◌, ◌^◌, ◌<◌, Bool, false, cond, nat_lt, List, [], ◌∷◌, length, slice_index_or}
use Rattle.sat_core.specs.declared.literal.Lit.{Lit}
use Rattle.sat_core.specs.declared.literal.ClauseId.{ClauseId}
use Rattle.sat_core.specs.Hints.{NumberedClause}
use Rattle.log_checker.specs.declared.dropped.Dropped.{Dropped}

-- the number of the clause at a place, where the log's clauses have these numbers
abbrev pub number_at : ℕ → List ClauseId → ℕ → ℕ
number_at own numbers place = cond (nat_lt place own) (place + 1) (slice_index_or numbers (place - own) (record { 0 = 0 })).0

-- whether the clause at a place was dropped
abbrev pub is_dropped : Dropped → ℕ → Bool
is_dropped dropped place = slice_index_or dropped.flags.items place false

-- the live clauses among those from place 0 on, by the number at each place and what was dropped
abbrev pub live_of : (ℕ → ℕ) → (ℕ → Bool) → List (List Lit) → List NumberedClause
live_of number dropped [] = []
live_of number dropped (clause ∷ clauses) =
    let others = live_of (λ place. number (suc place)) (λ place. dropped (suc place)) clauses in
    cond (dropped 0) others (record { id = record { 0 = number 0 }; lits = clause } ∷ others)

-- the numbers ascend from one above `from` to `last`
abbrev pub AscendsTo : ℕ → List ClauseId → ℕ → Type 0
AscendsTo from [] last = from ≡ last
AscendsTo from (id ∷ numbers) last = (from < id.0) × AscendsTo id.0 numbers last

-- the formula's own clauses and those of the log, with these numbers, are all clauses, each with a flag; `last` is the
-- greatest number
pub record AreNumbered (dropped : Dropped) (numbers : List ClauseId) (last : ℕ) (clauses : List (List Lit)) : Type 0 where
  pub all_clauses : dropped.own + length numbers ≡ length clauses
  pub ascending : AscendsTo dropped.own numbers last
  pub all_flags : length dropped.flags.items ≡ length clauses
  pub fits : last < 2 ^ 32

-- the same, where the clauses of the log stand in a formula of their own, over the same variables
pub record AreStored (vars log_vars : ℕ) (dropped : Dropped) (numbers : List ClauseId) (last : ℕ) (clauses : List (List Lit)) : Type 0 where
  pub same_variables : log_vars ≡ vars
  pub numbered : AreNumbered dropped numbers last clauses
