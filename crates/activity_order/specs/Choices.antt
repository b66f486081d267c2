-- What contracts see of the order of variables, and what is chosen by it.
use Rattle.std.specs.Prelude.{◌≡◌, ℕ, ◌+◌, ◌-◌, ◌<◌, ◌≤◌, Bool, true, false, List, slice_index_or}
use Rattle.sat_core.specs.declared.literal.Lit.{Lit}
use Rattle.sat_core.specs.Clauses.{IsOver}
use Rattle.sat_core.specs.Fresh.{IsOpen}
use Rattle.search_trail.specs.Trails.{TrailParts, known_of}
use Rattle.activity_order.specs.Scores.{rank}

-- an order of the variables 1 to vars: of each its score and whether it waits, at the place below its number; and what the next
-- bump adds
pub record OrderParts : Type 0 where
  pub vars : ℕ
  pub scores : List ℕ
  pub waits : List Bool
  pub step : ℕ

-- the variable waits, and none that waits ranks above it
pub record IsFirst (order : OrderParts) (var : ℕ) : Type 0 where
  pub above : 1 ≤ var
  pub within : var ≤ order.vars
  pub waiting : slice_index_or order.waits (var - 1) false ≡ true
  pub first : (place : ℕ) → slice_index_or order.waits place false ≡ true → rank order.scores place ≤ rank order.scores (var - 1)

-- the variable with that place, false
abbrev pub denial : ℕ → Lit
denial place = record { var = record { 0 = place + 1 }; positive = false }

-- the variable with that place is open
abbrev pub IsOpenAt : TrailParts → ℕ → Type 0
IsOpenAt t place = (place < t.vars) × IsOpen (known_of t.entries) (denial place)

-- each open variable waits
pub record OpenOnesWait (order : OrderParts) (t : TrailParts) : Type 0 where
  pub same_vars : order.vars ≡ t.vars
  pub wait : (place : ℕ) → IsOpenAt t place → slice_index_or order.waits place false ≡ true

-- the literal is the denial of an open variable, and no open one ranks above it
pub record IsNextDecision (scores : List ℕ) (t : TrailParts) (lit : Lit) : Type 0 where
  pub place : ℕ
  pub is : lit ≡ denial place
  pub is_open : IsOpenAt t place
  pub first : (other : ℕ) → IsOpenAt t other → rank scores other ≤ rank scores place

-- no literal is open
abbrev pub NoneIsOpen : TrailParts → Type 0
NoneIsOpen t = (lit : Lit) → IsOver t.vars lit → ¬ IsOpen (known_of t.entries) lit
