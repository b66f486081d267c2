-- What a visit of a clause tells, and what holds while the chain of a literal that became false is walked.
use Rattle.std.specs.Prelude.{◌≡◌, ◌≢◌, ℕ, ◌-◌, ◌*◌, ◌/◌, ◌^◌, ◌<◌, ◌≤◌, true, false, List, [], ◌∷◌, ◌++◌, length, All, Contains, Option, Some, slice_index_or}
use Rattle.sat_core.specs.declared.literal.Lit.{Lit}
use Rattle.sat_core.specs.Clauses.{negated}
use Rattle.sat_core.specs.Hints.{is_known}
use Rattle.sat_core.specs.Fresh.{IsOpen}
use Rattle.sat_core.specs.Marks.{mark_place}
use Rattle.search_trail.specs.declared.entry.Entry.{Entry}
use Rattle.search_trail.specs.Trails.{TrailParts, IsTrail, AreFalse, known_of}
use Rattle.search_trail.specs.Reasons.{AreReasons}
use Rattle.watch_store.specs.declared.node.Node.{Node}
use Rattle.watch_store.specs.declared.found.Visit.{Visit}
use Rattle.watch_store.specs.declared.found.Visit.TheVariants.{Moved, Forced, Conflict}
use Rattle.watch_store.specs.declared.walk.Left.{Left}
use Rattle.watch_store.specs.declared.walk.Left.TheVariants.{Here, Gone, Conflict as Stopped}
use Rattle.watch_store.specs.Places.{PlacedClauses, ArePlaced, live_in, clause_at}
use Rattle.watch_store.specs.Chains.{IsChainWalk, AreChained, is_among}
use Rattle.watch_store.specs.Watching.{other_of, watches_of, nexts_of, homes_of, IsWatching, AreGuarded}

-- all literals but this one are false
abbrev pub OthersFalse : List Lit → List Lit → Lit → Type 0
OthersFalse known lits lit = All (λ one. one ≢ lit → is_known known (negated one) ≡ true) lits

-- by the clause's literals and its other watched literal, which isn't true
abbrev pub VisitTells : List Lit → List Lit → Lit → Visit → Type 0
VisitTells known lits partner (Moved lit) = Contains lits lit × (lit ≢ partner) × (is_known known (negated lit) ≡ false)
VisitTells known lits partner Forced = IsOpen known partner × OthersFalse known lits partner
VisitTells known lits partner Conflict = (is_known known (negated partner) ≡ true) × OthersFalse known lits partner

-- what fits a store to a trail, at each exit of a call and in each moment of a walk
pub record IsFitting (table : PlacedClauses) (heads : List ℕ) (watches : List Lit) (t : TrailParts) : Type 0 where
  pub laws : IsTrail t
  pub placed : ArePlaced table
  pub same_vars : table.vars ≡ t.vars
  pub room : 2 * t.vars ≤ length heads
  pub few : 2 * length table.clauses < 2 ^ 32 - 1
  pub watching : IsWatching table watches
  pub guarded : AreGuarded t.entries t.read watches
  pub reasons : AreReasons (live_in table) t.entries
  pub unread_present : (k : ℕ) (d : Entry) → t.read ≤ k → k < length t.entries → (slice_index_or t.entries k d).level ≡ t.present

-- In mid-walk: the first unread literal makes the watches of this home false. Where a node was kept, its clause's other watch
-- is true.
pub record IsMidWalk (table : PlacedClauses) (heads : List ℕ) (nodes : List Node) (t : TrailParts) (home : ℕ) (kept rest : List ℕ) (before : Option ℕ) (at : ℕ) : Type 0 where
  pub fits : IsFitting table heads (watches_of nodes) t
  pub walk : IsChainWalk heads (nexts_of nodes) (homes_of (watches_of nodes)) home kept rest before at
  pub unread : t.read < length t.entries
  pub at_hand : (d : Entry) → mark_place (negated (slice_index_or t.entries t.read d).lit) ≡ home
  pub kept_true : (node : ℕ) (d : Lit) → is_among kept node ≡ true → is_known (known_of t.entries) (slice_index_or (watches_of nodes) (other_of node) d) ≡ true

-- the clause at that place is live and false, and holds the literal that the first unread one makes false
pub record IsFalseAt (table : PlacedClauses) (t : TrailParts) (place : ℕ) : Type 0 where
  pub within : place < length table.clauses
  pub all_false : AreFalse (known_of t.entries) (clause_at table place)
  pub holds : (d : Entry) → Contains (clause_at table place) (negated (slice_index_or t.entries t.read d).lit)

-- what a step leaves: the node was kept, or it went away, or its clause is false
abbrev pub StepTells : PlacedClauses → List ℕ → List Node → TrailParts → ℕ → List ℕ → ℕ → List ℕ → Option ℕ → ℕ → Left → Type 0
StepTells table heads nodes t home kept node rest before after Here = IsMidWalk table heads nodes t home (kept ++ node ∷ []) rest (Some node) after
StepTells table heads nodes t home kept node rest before after Gone = IsMidWalk table heads nodes t home kept rest before after
StepTells table heads nodes t home kept node rest before after Stopped = IsMidWalk table heads nodes t home kept (node ∷ rest) before node × AreFalse (known_of t.entries) (clause_at table (node / 2))

-- a store and a trail that fit
pub record IsStore (table : PlacedClauses) (heads : List ℕ) (nodes : List Node) (t : TrailParts) : Type 0 where
  pub fits : IsFitting table heads (watches_of nodes) t
  pub chained : AreChained heads (nexts_of nodes) (homes_of (watches_of nodes))
