-- The loop over the unread literals, and its count of visits.
use Rattle.std.proofs.Common.{◌≡◌, ℕ, ◌+◌, ◌<◌, ◌≤◌, true, List, [], ◌∷◌, length, take, drop, get_or, ap, sym, ◌∙◌, arith}
use Rattle.std.specs.Prelude.{None}
use Rattle.std.proofs.lemmas.List.{take_more, take-append-le, take-append-drop, get_or_append_left, length-append}
use Rattle.std.proofs.lemmas.List.Sums.{sum_by-append, sum_by-cons}
use Rattle.sat_core.specs.Clauses.{negated}
use Rattle.sat_core.specs.Hints.{NumberedClause}
use Rattle.search_trail.specs.declared.entry.Entry.{Entry}
use Rattle.search_trail.specs.Trails.{TrailParts, Grows}
use Rattle.search_trail.proofs.TrailLaws.{Grows-none, Grows-on}
use Rattle.watch_store.specs.declared.node.Node.{Node}
use Rattle.watch_store.specs.Places.{PlacedClauses, live_in}
use Rattle.watch_store.specs.Watching.{holders, visits_for}
use Rattle.watch_store.specs.Walking.{IsStore}

pub record IsPropagating (table : PlacedClauses) (heads : List ℕ) (nodes : List Node) (first t : TrailParts) (from steps : ℕ) : Type 0 where
  pub store : IsStore table heads nodes t
  pub grows : Grows first t
  pub read_on : first.read ≤ t.read
  pub ticks : steps + visits_for (live_in table) (take first.read t.entries) ≤ from + visits_for (live_in table) (take t.read t.entries)

pub propagating_start : (table : PlacedClauses) (heads : List ℕ) (nodes : List Node) (t : TrailParts) (from : ℕ) → IsStore table heads nodes t → IsPropagating table heads nodes t t from from
propagating_start table heads nodes t from store = record { store = store; grows = Grows-none t; read_on = omega arith; ticks = omega arith }

visits-more : (live : List NumberedClause) (entries : List Entry) (k : ℕ) (d : Entry) → k < length entries → visits_for live (take (k + 1) entries) ≡ visits_for live (take k entries) + holders live (negated (get_or entries k d).lit)
visits-more live entries k d within =
    let f : Entry → ℕ = λ e. holders live (negated e.lit) in
    let last : visits_for live (get_or entries k d ∷ []) ≡ f (get_or entries k d) + 0 = sum_by-cons f (get_or entries k d) [] in
    ap (visits_for live) (take_more entries k d within) ∙ (sum_by-append f (take k entries) (get_or entries k d ∷ []) ∙ ap (λ n. visits_for live (take k entries) + n) (omega (arith, last)))

visits-grown : (live : List NumberedClause) (a b : TrailParts) (k : ℕ) → Grows a b → k ≤ length a.entries → visits_for live (take k b.entries) ≡ visits_for live (take k a.entries)
visits-grown live a b k grows within = ap (visits_for live) (ap (take k) grows.entries ∙ take-append-le k a.entries grows.more within)

grown_at : (a b : TrailParts) (k : ℕ) (d : Entry) → Grows a b → k < length a.entries → get_or b.entries k d ≡ get_or a.entries k d
grown_at a b k d grows within = ap (λ es. get_or es k d) grows.entries ∙ get_or_append_left a.entries grows.more d k within

grown_long : (a b : TrailParts) → Grows a b → length a.entries ≤ length b.entries
grown_long a b grows = omega (arith, ap length grows.entries, length-append a.entries grows.more)

-- after a whole walk
pub propagating_more : (table : PlacedClauses) (heads heads' : List ℕ) (nodes nodes' : List Node) (first t t' : TrailParts) (from steps steps' : ℕ) → t.read < length t.entries → IsStore table heads' nodes' t' → Grows t t' → ((d : Entry) → steps' ≤ steps + holders (live_in table) (negated (get_or t.entries t.read d).lit)) → t'.read ≡ t.read + 1 → IsPropagating table heads nodes first t from steps → IsPropagating table heads' nodes' first t' from steps'
propagating_more table heads heads' nodes nodes' first t t' from steps steps' unread store grows visits read propagating =
    let d : Entry = record { lit = record { var = record { 0 = 0 }; positive = true }; reason = None; level = 0 } in
    let long : length t.entries ≤ length t'.entries = grown_long t t' grows in
    let more : visits_for (live_in table) (take (t.read + 1) t'.entries) ≡ visits_for (live_in table) (take t.read t'.entries) + holders (live_in table) (negated (get_or t'.entries t.read d).lit) = visits-more (live_in table) t'.entries t.read d (omega (arith, unread)) in
    let same : holders (live_in table) (negated (get_or t'.entries t.read d).lit) ≡ holders (live_in table) (negated (get_or t.entries t.read d).lit) = ap (λ (e : Entry). holders (live_in table) (negated e.lit)) (grown_at t t' t.read d grows unread) in
    let now : visits_for (live_in table) (take t'.read t'.entries) ≡ visits_for (live_in table) (take (t.read + 1) t'.entries) = ap (λ n. visits_for (live_in table) (take n t'.entries)) read in
    record {
      store = store;
      grows = Grows-on first t t' propagating.grows grows;
      read_on = omega (arith, propagating.read_on, read);
      ticks = omega (arith, visits d, propagating.ticks, more, same, now, visits-grown (live_in table) t t' t.read grows (omega (arith, unread)), visits-grown (live_in table) t t' first.read grows (omega (arith, unread, propagating.read_on)));
    }

-- the visits of the whole call, in a walk that ends or is cut off
visits-split : (live : List NumberedClause) (entries : List Entry) (n : ℕ) → visits_for live entries ≡ visits_for live (take n entries) + visits_for live (drop n entries)
visits-split live entries n = ap (visits_for live) (sym (take-append-drop n entries)) ∙ sum_by-append (λ e. holders live (negated e.lit)) (take n entries) (drop n entries)

pub propagating_visits : (table : PlacedClauses) (heads : List ℕ) (nodes : List Node) (first t : TrailParts) (from steps : ℕ) → IsPropagating table heads nodes first t from steps → steps ≤ from + visits_for (live_in table) (drop first.read t.entries)
propagating_visits table heads nodes first t from steps propagating =
    omega (arith, propagating.ticks, visits-split (live_in table) t.entries first.read, visits-split (live_in table) t.entries t.read)

pub propagating_stop : (table : PlacedClauses) (heads : List ℕ) (nodes : List Node) (first t t' : TrailParts) (from steps steps' : ℕ) → t.read < length t.entries → Grows t t' → ((d : Entry) → steps' ≤ steps + holders (live_in table) (negated (get_or t.entries t.read d).lit)) → IsPropagating table heads nodes first t from steps → steps' ≤ from + visits_for (live_in table) (drop first.read t'.entries)
propagating_stop table heads nodes first t t' from steps steps' unread grows visits propagating =
    let d : Entry = record { lit = record { var = record { 0 = 0 }; positive = true }; reason = None; level = 0 } in
    let long : length t.entries ≤ length t'.entries = grown_long t t' grows in
    let more : visits_for (live_in table) (take (t.read + 1) t'.entries) ≡ visits_for (live_in table) (take t.read t'.entries) + holders (live_in table) (negated (get_or t'.entries t.read d).lit) = visits-more (live_in table) t'.entries t.read d (omega (arith, unread)) in
    let same : holders (live_in table) (negated (get_or t'.entries t.read d).lit) ≡ holders (live_in table) (negated (get_or t.entries t.read d).lit) = ap (λ (e : Entry). holders (live_in table) (negated e.lit)) (grown_at t t' t.read d grows unread) in
    omega (arith, visits d, propagating.ticks, more, same, visits-grown (live_in table) t t' t.read grows (omega (arith, unread)), visits-grown (live_in table) t t' first.read grows (omega (arith, unread, propagating.read_on)), visits-split (live_in table) t'.entries first.read, visits-split (live_in table) t'.entries (t.read + 1))
