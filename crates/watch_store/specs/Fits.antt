-- What contracts see of a watch store, and what fits it to a trail.
use Rattle.std.specs.Prelude.{◌≡◌, ◌≢◌, ◌⊎◌, ℕ, ◌*◌, ◌+◌, ◌^◌, ◌-◌, ◌<◌, ◌≤◌, true, false, List, length, All, Any, Contains, slice_index_or}
use Rattle.sat_core.specs.declared.literal.Lit.{Lit}
use Rattle.sat_core.specs.Clauses.{negated, IsClause}
use Rattle.sat_core.specs.Hints.{NumberedClause, is_known}
use Rattle.sat_core.specs.Fresh.{IsUnitUnder}
use Rattle.search_trail.specs.declared.entry.Entry.{Entry}
use Rattle.search_trail.specs.Trails.{TrailParts, IsTrail, known_of, up_to}
use Rattle.search_trail.specs.Reasons.{AreReasons}
use Rattle.watch_store.specs.declared.node.Node.{Node}
use Rattle.watch_store.specs.Places.{PlacedClauses, ArePlaced}
use Rattle.watch_store.specs.Chains.{AreChained}
use Rattle.watch_store.specs.Watching.{other_of, watches_of, nexts_of, homes_of, IsWatching, AreGuarded}

-- what contracts see of a store over the variables 1 to vars: its live clauses, by rising numbers, and the watched literals, in
-- pairs
pub record StoreParts : Type 0 where
  pub vars : ℕ
  pub live : List NumberedClause
  pub watches : List Lit

-- two different literals of the clause are watched as a pair
pub record IsWatched (watches lits : List Lit) : Type 0 where
  pub node : ℕ
  pub within : node < length watches
  pub other_within : other_of node < length watches
  pub one_stands : (d : Lit) → Contains lits (slice_index_or watches node d)
  pub other_stands : (d : Lit) → Contains lits (slice_index_or watches (other_of node) d)
  pub differ : (d : Lit) → slice_index_or watches node d ≢ slice_index_or watches (other_of node) d

-- A store and a trail that fit. Where a watched literal is false and its falsity was read, the other one of its pair is true, at
-- a level that isn't above. This says nothing of clauses of fewer than two literals.
pub record FitsTrail (s : StoreParts) (t : TrailParts) : Type 0 where
  pub laws : IsTrail t
  pub same_vars : s.vars ≡ t.vars
  pub over : All (λ clause. IsClause t.vars clause.lits) s.live
  pub watched : All (λ clause. 2 ≤ length clause.lits → IsWatched s.watches clause.lits) s.live
  pub guarded : AreGuarded t.entries t.read s.watches
  pub reasons : AreReasons s.live t.entries
  pub unread_present : (k : ℕ) (d : Entry) → t.read ≤ k → k < length t.entries → (slice_index_or t.entries k d).level ≡ t.present

-- no clause is empty, and those of one literal are true at level 0
abbrev pub AreShortTrue : List NumberedClause → TrailParts → Type 0
AreShortTrue live t = All (λ clause. length clause.lits < 2 → Any (λ lit. is_known (up_to 0 t.entries) lit ≡ true) clause.lits) live

-- only watches may have changed
pub record IsSameStore (old new : StoreParts) : Type 0 where
  pub vars : new.vars ≡ old.vars
  pub live : new.live ≡ old.live

-- two different literals of the clause aren't false
pub record HasTwoNotFalse (known lits : List Lit) : Type 0 where
  pub one : Lit
  pub other : Lit
  pub one_stands : Contains lits one
  pub other_stands : Contains lits other
  pub different : one ≢ other
  pub one_not_false : is_known known (negated one) ≡ false
  pub other_not_false : is_known known (negated other) ≡ false

-- the clause is unit on the trail, and one of its false literals is of the present level
pub record IsUnitNow (t : TrailParts) (lits : List Lit) : Type 0 where
  pub lit : Lit
  pub unit : IsUnitUnder (known_of t.entries) lits lit
  pub latest : Any (λ other. Any (λ e. (e.lit ≡ negated other) × (e.level ≡ t.present)) t.entries) lits

-- what holds of a store between any two calls: each node stands in the chain of its watched literal, and in no other
pub record IsKeeping (table : PlacedClauses) (heads : List ℕ) (nodes : List Node) : Type 0 where
  pub placed : ArePlaced table
  pub numbered : table.vars < 2 ^ 32 - 1
  pub few : 2 * length table.clauses < 2 ^ 32 - 1
  pub room : 2 * table.vars + 2 ≤ length heads
  pub watching : IsWatching table (watches_of nodes)
  pub chained : AreChained heads (nexts_of nodes) (homes_of (watches_of nodes))

-- the literals that a clause begins to watch: two different ones of its own; or idle ones, where it has fewer than two
abbrev pub IsPair : ℕ → List Lit → Lit → Lit → Type 0
IsPair vars lits first second = (first ≢ second) × (Contains lits first × Contains lits second) ⊎ (first ≢ second) × ((length lits < 2) × ((first.var.0 ≡ vars + 1) × (second.var.0 ≡ vars + 1)))

-- Two literals of a clause that can be watched on the trail: the first isn't false, and neither is the second; or the clause is
-- unit on the trail, and the second is false at the present level.
pub record IsChosen (t : TrailParts) (lits : List Lit) (first second : Lit) : Type 0 where
  pub first_stands : Contains lits first
  pub second_stands : Contains lits second
  pub differ : first ≢ second
  pub first_not_false : is_known (known_of t.entries) (negated first) ≡ false
  pub second_so : (is_known (known_of t.entries) (negated second) ≡ false) ⊎ (IsUnitUnder (known_of t.entries) lits first × Any (λ e. (e.lit ≡ negated second) × (e.level ≡ t.present)) t.entries)

-- the two nodes of a pair are both idle, or neither is
pub record IsEndable (vars node : ℕ) (watches : List Lit) : Type 0 where
  pub named : (d : Lit) → (1 ≤ (slice_index_or watches node d).var.0) × (1 ≤ (slice_index_or watches (node + 1) d).var.0)
  pub differ : (d : Lit) → slice_index_or watches node d ≢ slice_index_or watches (node + 1) d
  pub low : (d : Lit) → (slice_index_or watches node d).var.0 ≤ vars → (slice_index_or watches (node + 1) d).var.0 ≤ vars
  pub high : (d : Lit) → vars < (slice_index_or watches node d).var.0 → vars < (slice_index_or watches (node + 1) d).var.0

-- both nodes of a pair are idle now, and the others watch what they watched
pub record IsEnded (vars node : ℕ) (old new : List Lit) : Type 0 where
  pub same_length : length new ≡ length old
  pub idle : (d : Lit) → (vars < (slice_index_or new node d).var.0) × (vars < (slice_index_or new (node + 1) d).var.0)
  pub named : (d : Lit) → (1 ≤ (slice_index_or new node d).var.0) × (1 ≤ (slice_index_or new (node + 1) d).var.0)
  pub differ : (d : Lit) → slice_index_or new node d ≢ slice_index_or new (node + 1) d
  pub others : (k : ℕ) (d : Lit) → k ≢ node → k ≢ node + 1 → slice_index_or new k d ≡ slice_index_or old k d

-- the two literals are idle, or they are what a pair of nodes watches
abbrev pub IsSamePair : ℕ → ℕ → List Lit → Lit → Lit → Type 0
IsSamePair vars node old first second = (vars < first.var.0) × (vars < second.var.0) ⊎ (node + 1 < length old) × ((d : Lit) → (slice_index_or old node d ≡ first) × (slice_index_or old (node + 1) d ≡ second))

-- each node is idle, or watches with its partner what a node and its partner watched
abbrev pub ArePairsOf : ℕ → List Lit → List Lit → Type 0
ArePairsOf vars old new = (node : ℕ) (d : Lit) → node < length new → (vars < (slice_index_or new node d).var.0) ⊎ ((m : ℕ) × (m < length old) × (slice_index_or new node d ≡ slice_index_or old m d) × (slice_index_or new (other_of node) d ≡ slice_index_or old (other_of m) d))
