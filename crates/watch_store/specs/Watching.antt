-- Two watched literals for each clause, and what a false one tells of the other.
use Rattle.std.specs.Prelude.{◌≡◌, ◌≢◌, ℕ, ◌+◌, ◌-◌, ◌*◌, ◌/◌, ◌%◌, ◌<◌, ◌≤◌, true, cond, nat_eq, List, length, map, Contains, count_by, sum_by, slice_index_or}
use Rattle.sat_core.specs.declared.literal.Lit.{Lit}
use Rattle.sat_core.specs.Clauses.{negated}
use Rattle.sat_core.specs.Hints.{NumberedClause, is_known}
use Rattle.sat_core.specs.Marks.{mark_place}
use Rattle.search_trail.specs.declared.entry.Entry.{Entry}
use Rattle.search_trail.specs.Trails.{up_to}
use Rattle.watch_store.specs.declared.node.Node.{Node}
use Rattle.watch_store.specs.Places.{PlacedClauses, IsLiveAt, clause_at}

-- the other node of the same clause: the clause at place s has the nodes 2 * s and 2 * s + 1
abbrev pub other_of : ℕ → ℕ
other_of node = cond (nat_eq (node % 2) 0) (node + 1) (node - 1)

abbrev pub watches_of : List Node → List Lit
watches_of nodes = map (λ n. n.watch) nodes

abbrev pub nexts_of : List Node → List ℕ
nexts_of nodes = map (λ n. n.next) nodes

abbrev pub homes_of : List Lit → List ℕ
homes_of watches = map mark_place watches

-- Each live clause of two or more literals watches two different ones of its own. A node of another clause is idle: it watches
-- a variable above all others.
pub record IsWatching (table : PlacedClauses) (watches : List Lit) : Type 0 where
  pub two_each : length watches ≡ 2 * length table.clauses
  pub named : (node : ℕ) (d : Lit) → node < length watches → 1 ≤ (slice_index_or watches node d).var.0
  pub live : (node : ℕ) (d : Lit) → node < length watches → (slice_index_or watches node d).var.0 ≤ table.vars → IsLiveAt table (node / 2)
  pub stand : (node : ℕ) (d : Lit) → node < length watches → (slice_index_or watches node d).var.0 ≤ table.vars → Contains (clause_at table (node / 2)) (slice_index_or watches node d)
  pub both : (node : ℕ) (d : Lit) → node < length watches → (slice_index_or watches node d).var.0 ≤ table.vars → (slice_index_or watches (other_of node) d).var.0 ≤ table.vars
  pub differ : (node : ℕ) (d : Lit) → node < length watches → slice_index_or watches node d ≢ slice_index_or watches (other_of node) d
  pub watched : (place : ℕ) (d : Lit) → place < length table.clauses → IsLiveAt table place → 2 ≤ length (clause_at table place) → (slice_index_or watches (2 * place) d).var.0 ≤ table.vars

-- where the watched literal is false by an entry that was read, the other is true at a level that isn't above
abbrev pub IsGuarded : List Entry → ℕ → Lit → Lit → Type 0
IsGuarded entries read watch partner = (k : ℕ) (d : Entry) → k < read → (slice_index_or entries k d).lit ≡ negated watch → is_known (up_to (slice_index_or entries k d).level entries) partner ≡ true

abbrev pub AreGuarded : List Entry → ℕ → List Lit → Type 0
AreGuarded entries read watches = (node : ℕ) (d : Lit) → node < length watches → IsGuarded entries read (slice_index_or watches node d) (slice_index_or watches (other_of node) d)

-- how many of the clauses hold the literal
abbrev pub holders : List NumberedClause → Lit → ℕ
holders live lit = count_by (λ clause. is_known clause.lits lit) live

-- the visits that these entries allow: one for each of them and each clause that holds its negation
abbrev pub visits_for : List NumberedClause → List Entry → ℕ
visits_for live entries = sum_by (λ e. holders live (negated e.lit)) entries
