-- What the hints do while learning works from the conflict down the trail.
use Rattle.std.specs.Prelude.{◌≡◌, ◌≢◌, ◌⊎◌, ℕ, ◌+◌, ◌-◌, ◌<◌, ◌≤◌, Bool, true, false, ◌&&◌, nat_eq, List, [], length, take, reverse, All, Any, count_by, Some, None, slice_index_or}
use Rattle.sat_core.specs.declared.literal.Lit.{Lit}
use Rattle.sat_core.specs.declared.literal.ClauseId.{ClauseId}
use Rattle.sat_core.specs.declared.literal.Var.{Var}
use Rattle.sat_core.specs.Clauses.{negated, IsOver, IsClause}
use Rattle.sat_core.specs.Hints.{NumberedClause, clause_of, is_known, hints_fault}
use Rattle.conflict_learn.specs.declared.learning.Work.{Work}
use Rattle.search_trail.specs.declared.entry.Entry.{Entry}
use Rattle.search_trail.specs.Trails.{TrailParts, IsTrail, known_of}
use Rattle.search_trail.specs.Reasons.{AreReasons}
use Rattle.conflict_learn.specs.Learning.{IsAsserting}

-- the variable at the place is marked
abbrev pub IsMarked : List Entry → List Bool → ℕ → Type 0
IsMarked entries marks k = (d : Entry) → slice_index_or marks ((slice_index_or entries k d).lit.var.0 - 1) false ≡ true

-- Known literals from which the hints so far work: each stands below the place or is the negation of a cut literal; and they
-- make the cut literals false and the marked places below true.
pub record Supports (entries : List Entry) (place : ℕ) (marks : List Bool) (cut known : List Lit) : Type 0 where
  pub allowed : All (λ lit. (is_known (known_of (take place entries)) lit ≡ true) ⊎ (is_known cut (negated lit) ≡ true)) known
  pub cut_false : All (λ lit. is_known known (negated lit) ≡ true) cut
  pub marked_true : (k : ℕ) (d : Entry) → k < place → IsMarked entries marks k → is_known known (slice_index_or entries k d).lit ≡ true

-- from all such literals the hints lead to the conflict
abbrev pub LeadsOn : List NumberedClause → List Entry → ℕ → List Bool → List Lit → List ClauseId → Type 0
LeadsOn live entries place marks cut hints = (known : List Lit) → Supports entries place marks cut known → hints_fault live known hints ≡ None

-- each cut literal is false by an entry from the place on
abbrev pub IsCutFrom : List Entry → ℕ → List Lit → Type 0
IsCutFrom entries place cut = All (λ lit. (k : ℕ) × (place ≤ k) × (k < length entries) × ((d : Entry) → (slice_index_or entries k d).lit ≡ negated lit)) cut

-- all literals of the clause but this one stand at marked places below
abbrev pub AreMarkedBelow : List Entry → ℕ → List Bool → Lit → List Lit → Type 0
AreMarkedBelow entries place marks lit lits = All (λ other. other ≢ lit → (k : ℕ) × (k < place) × IsMarked entries marks k × ((d : Entry) → (slice_index_or entries k d).lit ≡ negated other)) lits

-- whether the entry is marked and of this level
abbrev pub is_pending : List Bool → ℕ → Entry → Bool
is_pending marks level e = slice_index_or marks (e.lit.var.0 - 1) false && nat_eq e.level level

-- how many entries below the place are marked and of the present level
abbrev pub pending : List Entry → List Bool → ℕ → ℕ → ℕ
pending entries marks level place = count_by (is_pending marks level) (take place entries)

-- before the literal of the present level is found
pub record IsBeforePresent (t : TrailParts) (open_count level : ℕ) (cut : List Lit) : Type 0 where
  pub none : cut ≡ []
  pub zero_level : level ≡ 0
  pub more : 0 < t.present → 0 < open_count

-- behind it
pub record IsBehind (t : TrailParts) (open_count level : ℕ) (cut : List Lit) : Type 0 where
  pub above_zero : 0 < t.present
  pub no_more : open_count ≡ 0
  pub head : IsAsserting t cut level

-- the state of learning when the places from `place` on are done; hints stand last first
pub record IsWorking (live : List NumberedClause) (t : TrailParts) (place : ℕ) (marks : List Bool) (open_count level : ℕ) (cut : List Lit) (hints : List ClauseId) : Type 0 where
  pub long : length marks ≡ t.vars
  pub leads : LeadsOn live t.entries place marks cut (reverse hints)
  pub from : IsCutFrom t.entries place cut
  pub clause : IsClause t.vars cut
  pub counted : open_count ≡ pending t.entries marks t.present place
  pub phase : IsBeforePresent t open_count level cut ⊎ IsBehind t open_count level cut

-- the literal's variable stands below the place
abbrev pub StandsBelow : List Entry → ℕ → Lit → Type 0
StandsBelow entries place lit = (k : ℕ) × (k < place) × (k < length entries) × ((d : Entry) → (slice_index_or entries k d).lit.var.0 ≡ lit.var.0)

-- the literals' variables were marked; so many of those that weren't before are of the present level
pub record MarksOf (t : TrailParts) (old new : List Bool) (lits : List Lit) (found : ℕ) : Type 0 where
  pub long : length new ≡ length old
  pub kept : (n : ℕ) → slice_index_or old n false ≡ true → slice_index_or new n false ≡ true
  pub done : All (λ lit. slice_index_or new (lit.var.0 - 1) false ≡ true) lits
  pub counted : (place : ℕ) → All (λ lit. (slice_index_or old (lit.var.0 - 1) false ≡ true) ⊎ StandsBelow t.entries place lit) lits → pending t.entries new t.present place ≡ pending t.entries old t.present place + found

-- an entry that has to be kept if it is the last of the present level, and one that may be resolved
abbrev pub IsKeptBack : ℕ → ℕ → Entry → Type 0
IsKeptBack present open_count e = (e.reason ≡ None) ⊎ (e.level ≡ present → (0 < e.level) × (open_count ≤ 1))

abbrev pub IsResolved : ℕ → ℕ → ClauseId → Entry → Type 0
IsResolved present open_count id e = (e.reason ≡ Some id) × (0 < present → e.level ≡ present → 1 < open_count)

-- the literal's variable is one of the trail's, and stands on it
abbrev pub IsOnTrail : TrailParts → Lit → Type 0
IsOnTrail t lit = IsOver t.vars lit × Any (λ e. e.lit.var.0 ≡ lit.var.0) t.entries

-- the state of learning, as the program keeps it
abbrev pub IsWorkingOn : List NumberedClause → TrailParts → ℕ → List Bool → Work → Type 0
IsWorkingOn live t place marks w = IsWorking live t place marks w.unresolved w.level w.lits.items w.hints.items

-- a place of the trail, its literal, and what the trail and the clauses offer there
pub record IsPlaceToResolve (live : List NumberedClause) (t : TrailParts) (place : ℕ) (lit : Lit) : Type 0 where
  pub laws : IsTrail t
  pub over : All (λ clause. IsClause t.vars clause.lits) live
  pub reasons : AreReasons live t.entries
  pub within : place < length t.entries
  pub here : (d : Entry) → (slice_index_or t.entries place d).lit ≡ lit

-- the number is in the list
abbrev pub IsListed : List ℕ → ℕ → Type 0
IsListed places k = (j : ℕ) × (j < length places) × ((d : ℕ) → slice_index_or places j d ≡ k)

-- one of the first variables, so many, is that of the entry at the place
abbrev pub IsTouchedAt : List Entry → List Var → ℕ → ℕ → Type 0
IsTouchedAt entries touched many k = (j : ℕ) × (j < many) × ((d : Var) (e : Entry) → (slice_index_or entries k e).lit.var.0 ≡ (slice_index_or touched j d).0)

-- the variables of all these literals are marked
abbrev pub AreAllMarked : List Bool → List Lit → Type 0
AreAllMarked marks lits = All (λ lit. slice_index_or marks (lit.var.0 - 1) false ≡ true) lits

-- the clause is live, and all its variables are marked
pub record IsImplied (live : List NumberedClause) (marks : List Bool) (id : ClauseId) : Type 0 where
  pub lits : List Lit
  pub stands : clause_of live id ≡ Some lits
  pub marked : AreAllMarked marks lits
