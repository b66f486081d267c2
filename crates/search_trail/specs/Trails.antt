-- The trail: the literals that are true, in the order in which they became so, each with its reason and its level.
use Rattle.std.specs.Prelude.{◌≡◌, ◌≢◌, ℕ, ◌+◌, ◌^◌, ◌<◌, ◌≤◌, true, nat_le, List, [], ◌∷◌, ◌++◌, length, map, filter, take, All, AllPairs, Any, Option, Some, None, slice_index_or}
use Rattle.sat_core.specs.declared.literal.Lit.{Lit}
use Rattle.sat_core.specs.declared.literal.ClauseId.{ClauseId}
use Rattle.sat_core.specs.Clauses.{negated, IsOver}
use Rattle.sat_core.specs.Hints.{is_known}
use Rattle.sat_core.specs.Fresh.{IsOpen}
use Rattle.search_trail.specs.declared.entry.Entry.{Entry}
use Rattle.search_trail.specs.declared.entry.Truth.{Truth}
use Rattle.search_trail.specs.declared.entry.Truth.TheVariants.{Yes, No, Open}

-- what contracts see of a trail over the variables 1 to vars: its entries, how many of them are read, from the front, and the
-- present level
pub record TrailParts : Type 0 where
  pub vars : ℕ
  pub entries : List Entry
  pub read : ℕ
  pub present : ℕ

-- the literals that are true
abbrev pub known_of : List Entry → List Lit
known_of entries = map (λ e. e.lit) entries

-- those that are true at a level up to n
abbrev pub up_to : ℕ → List Entry → List Lit
up_to n entries = known_of (filter (λ e. nat_le e.level n) entries)

-- the literal is true, or its negation is, or neither
abbrev pub TruthOf : List Entry → Lit → Truth → Type 0
TruthOf entries lit Yes = is_known (known_of entries) lit ≡ true
TruthOf entries lit No = is_known (known_of entries) (negated lit) ≡ true
TruthOf entries lit Open = IsOpen (known_of entries) lit

-- all these literals are false
abbrev pub AreFalse : List Lit → List Lit → Type 0
AreFalse known lits = All (λ lit. is_known known (negated lit) ≡ true) lits

-- What holds of each trail. Each level from 1 on begins with its one decision; at level 0 there is none.
pub record IsTrail (t : TrailParts) : Type 0 where
  pub numbered : t.vars < 2 ^ 32
  pub in_range : All (λ e. IsOver t.vars e.lit) t.entries
  pub no_variable_twice : AllPairs (λ one later. one.lit.var.0 ≢ later.lit.var.0) t.entries
  pub read_within : t.read ≤ length t.entries
  pub few : length t.entries ≤ t.vars
  pub levels_rise : AllPairs (λ one later. one.level ≤ later.level) t.entries
  pub up_to_now : All (λ e. e.level ≤ t.present) t.entries
  pub decisions_begin : AllPairs (λ one later. later.reason ≡ None → one.level < later.level) t.entries
  pub decided_above_zero : All (λ e. e.reason ≡ None → 0 < e.level) t.entries
  pub levels_low : (k : ℕ) (d : Entry) → k < length t.entries → (slice_index_or t.entries k d).level ≤ k + 1
  pub no_level_missing : (level : ℕ) → 1 ≤ level → level ≤ t.present → Any (λ e. e.level ≡ level) t.entries

-- what going back to a level leaves: the entries up to that level, which stand at the front
pub record IsCutBack (level : ℕ) (old new : List Entry) : Type 0 where
  pub size : ℕ
  pub front : new ≡ take size old
  pub within : size ≤ length old
  pub kept : All (λ e. e.level ≤ level) new
  pub gone : (k : ℕ) (d : Entry) → size ≤ k → k < length old → level < (slice_index_or old k d).level

-- the trail with one literal more
abbrev pub pushed : TrailParts → Lit → Option ClauseId → ℕ → TrailParts
pushed t lit reason level = record t { entries = t.entries ++ record { lit = lit; reason = reason; level = level } ∷ []; present = level }

-- a literal more that a clause forces, at the present level
abbrev pub assigned : TrailParts → Lit → ClauseId → TrailParts
assigned t lit reason = pushed t lit (Some reason) t.present

-- a literal more that is decided, at the next level
abbrev pub decided : TrailParts → Lit → TrailParts
decided t lit = pushed t lit None (t.present + 1)

-- the trail has only grown, at its present level
pub record Grows (old new : TrailParts) : Type 0 where
  pub vars : new.vars ≡ old.vars
  pub present : new.present ≡ old.present
  pub more : List Entry
  pub entries : new.entries ≡ old.entries ++ more
  pub at_present : All (λ e. e.level ≡ old.present) more
