-- A clause more: what its two nodes watch, and what guards them.
use Rattle.std.proofs.Common.{◌≡◌, ◌≢◌, ℕ, ◌+◌, ◌-◌, ◌*◌, ◌/◌, ◌^◌, ◌<◌, ◌≤◌, ◌⊎◌, inl, inr, List, [], ◌∷◌, ◌++◌, length, get_or, ap, sym, subst, ◌∙◌, arith}
use Rattle.std.specs.Prelude.{All, Contains, Some, None}
use Rattle.std.proofs.lemmas.Bool.{cases_eq, cases_lt}
use Rattle.std.proofs.lemmas.List.{length_push, get_or_push, get_or_append_left}
use Rattle.std.proofs.lemmas.List.Elements.{All-contains}
use Rattle.sat_core.specs.declared.literal.Lit.{Lit}
use Rattle.sat_core.specs.declared.literal.ClauseId.{ClauseId}
use Rattle.sat_core.specs.Clauses.{IsOver, IsClause}
use Rattle.sat_core.specs.Hints.{clause_of}
use Rattle.sat_core.specs.Marks.{mark_place}
use Rattle.sat_core.proofs.MarkLaws.{mark_within}
use Rattle.search_trail.specs.declared.entry.Entry.{Entry}
use Rattle.watch_store.specs.declared.node.Node.{Node}
use Rattle.watch_store.specs.Places.{PlacedClauses, ArePlaced, IsPlacedAt, IsLiveAt, live_in, clause_at, number_of_place, with_clause}
use Rattle.watch_store.specs.Chains.{AreChained}
use Rattle.watch_store.specs.Watching.{other_of, watches_of, nexts_of, homes_of, IsWatching, IsGuarded, AreGuarded}
use Rattle.watch_store.specs.Fits.{IsPair, IsKeeping}
use Rattle.watch_store.proofs.PairLemmas.{other-within, other-even, other-odd}
use Rattle.watch_store.proofs.PlaceLemmas.{placed_new, placed_old, placed_was, number_with, clause_with, unplaced, ArePlaced-with}

-- ---- the two literals
pub pair_swap : (vars : ℕ) (lits : List Lit) (a b : Lit) → IsPair vars lits a b → IsPair vars lits b a
pair_swap vars lits a b pair = elim pair [
  | inl own ↦ inl ((λ same. own.0 (sym same)), (own.1.1, own.1.0))
  | inr idle ↦ inr ((λ same. idle.0 (sym same)), (idle.1.0, (idle.1.1.1, idle.1.1.0)))
]

pub pair_differ : (vars : ℕ) (lits : List Lit) (a b : Lit) → IsPair vars lits a b → a ≢ b
pair_differ vars lits a b pair = elim pair [ inl own ↦ own.0 | inr idle ↦ idle.0 ]

pub pair_named : (vars : ℕ) (lits : List Lit) (a b : Lit) → All (IsOver vars) lits → IsPair vars lits a b → 1 ≤ a.var.0
pair_named vars lits a b over pair = elim pair [
  | inl own ↦ (All-contains (IsOver vars) lits a over own.1.0).0
  | inr idle ↦ omega (arith, idle.1.1.0)
]

pub pair_high : (vars : ℕ) (lits : List Lit) (a b : Lit) → All (IsOver vars) lits → IsPair vars lits a b → a.var.0 ≤ vars + 1
pair_high vars lits a b over pair = elim pair [
  | inl own ↦ omega (arith, (All-contains (IsOver vars) lits a over own.1.0).1)
  | inr idle ↦ omega (arith, idle.1.1.0)
]

pair_stands : (vars : ℕ) (lits : List Lit) (a b : Lit) → IsPair vars lits a b → a.var.0 ≤ vars → Contains lits a
pair_stands vars lits a b pair low = elim pair [ inl own ↦ own.1.0 | inr idle ↦ absurd (omega (arith, idle.1.1.0, low)) ]

pair_both : (vars : ℕ) (lits : List Lit) (a b : Lit) → All (IsOver vars) lits → IsPair vars lits a b → a.var.0 ≤ vars → b.var.0 ≤ vars
pair_both vars lits a b over pair low = elim pair [
  | inl own ↦ (All-contains (IsOver vars) lits b over own.1.1).1
  | inr idle ↦ absurd (omega (arith, idle.1.1.0, low))
]

pair_many : (vars : ℕ) (lits : List Lit) (a b : Lit) → All (IsOver vars) lits → IsPair vars lits a b → 2 ≤ length lits → a.var.0 ≤ vars
pair_many vars lits a b over pair many = elim pair [
  | inl own ↦ (All-contains (IsOver vars) lits a over own.1.0).1
  | inr idle ↦ absurd (omega (arith, idle.1.0, many))
]

-- its home is in the table of heads
pub home_room : (vars : ℕ) (heads : List ℕ) (lit : Lit) → 1 ≤ lit.var.0 → lit.var.0 ≤ vars + 1 → 2 * vars + 2 ≤ length heads → mark_place lit < length heads
home_room vars heads lit low high room = omega (arith, mark_within (vars + 1) lit (low, high), room)

-- ---- places of the two new watches
pub pair_at : (watches : List Lit) (a b d : Lit) (n : ℕ) → length watches ≡ n → (get_or ((watches ++ a ∷ []) ++ b ∷ []) n d ≡ a) × (get_or ((watches ++ a ∷ []) ++ b ∷ []) (n + 1) d ≡ b)
pair_at watches a b d n long =
    let more : length (watches ++ a ∷ []) ≡ length watches + 1 = length_push watches a in
    (get_or_append_left (watches ++ a ∷ []) (b ∷ []) d n (omega (arith, more, long)) ∙ get_or_push watches a d n long, get_or_push (watches ++ a ∷ []) b d (n + 1) (omega (arith, more, long)))

pub pair_before : (watches : List Lit) (a b d : Lit) (k : ℕ) → k < length watches → get_or ((watches ++ a ∷ []) ++ b ∷ []) k d ≡ get_or watches k d
pair_before watches a b d k within = get_or_append_left (watches ++ a ∷ []) (b ∷ []) d k (omega (arith, within, length_push watches a)) ∙ get_or_append_left watches (a ∷ []) d k within

-- one of the two new nodes, or an old one
pub node_cases : (count node : ℕ) → node < 2 * count + 2 → (node < 2 * count) ⊎ ((node ≡ 2 * count) ⊎ (node ≡ 2 * count + 1))
node_cases count node within = elim (cases_lt node (2 * count)) [
  | inl old ↦ inl old
  | inr new ↦ inr (elim (cases_eq node (2 * count)) [ inl first ↦ inl first | inr second ↦ inr (omega (arith, within, new, second)) ])
]

-- ---- which places are live
live_still : (table : PlacedClauses) (id : ClauseId) (lits : List Lit) (place : ℕ) → ArePlaced table → clause_of (live_in table) id ≡ None → place < length table.clauses → IsLiveAt table place → IsLiveAt (with_clause table id lits) place
live_still table id lits place laws free within live =
    let apart : (number_of_place table place).0 ≢ id.0 = λ same. unplaced table id place free (subst (λ n. IsPlacedAt table n place) same live) in
    subst (λ (n : ClauseId). IsPlacedAt (with_clause table id lits) n.0 place) (sym (number_with table id lits place laws within)) (placed_old table id lits (number_of_place table place).0 place apart live)

live_was : (table : PlacedClauses) (id : ClauseId) (lits : List Lit) (place : ℕ) → ArePlaced table → place < length table.clauses → IsLiveAt (with_clause table id lits) place → IsLiveAt table place
live_was table id lits place laws within live =
    let number : ℕ = (number_of_place table place).0 in
    let now : IsPlacedAt (with_clause table id lits) number place = subst (λ (n : ClauseId). IsPlacedAt (with_clause table id lits) n.0 place) (number_with table id lits place laws within) live in
    elim (cases_eq number id.0) [
      | inr apart ↦ placed_was table id lits number place apart now
      | inl same ↦ absurd (omega (arith, within, one_place place (length table.clauses) (sym (subst (λ n. IsPlacedAt (with_clause table id lits) n place) same now) ∙ placed_new table id lits)))
    ] where
      one_place : (one other : ℕ) → Some one ≡ Some other → one ≡ other
      one_place one other same = cc

live_new : (table : PlacedClauses) (id : ClauseId) (lits : List Lit) → ArePlaced table → IsLiveAt (with_clause table id lits) (length table.clauses)
live_new table id lits laws =
    let number : number_of_place (with_clause table id lits) (length table.clauses) ≡ id = get_or_push table.numbers id (record { 0 = 0 }) (length table.clauses) laws.all_numbered in
    subst (λ (n : ClauseId). IsPlacedAt (with_clause table id lits) n.0 (length table.clauses)) (sym number) (placed_new table id lits)

-- ---- what the nodes watch
pub IsWatching-push : (table : PlacedClauses) (id : ClauseId) (lits watches : List Lit) (a b : Lit) → ArePlaced table → clause_of (live_in table) id ≡ None → IsClause table.vars lits → IsPair table.vars lits a b → IsWatching table watches → IsWatching (with_clause table id lits) ((watches ++ a ∷ []) ++ b ∷ [])
IsWatching-push table id lits watches a b laws free clause pair watching =
    let count : ℕ = length table.clauses in
    let ws : List Lit = (watches ++ a ∷ []) ++ b ∷ [] in
    let two : length watches ≡ 2 * count = watching.two_each in
    let long : length ws ≡ length watches + 2 = omega (arith, length_push (watches ++ a ∷ []) b, length_push watches a) in
    let more : length (table.clauses ++ lits ∷ []) ≡ count + 1 = length_push table.clauses lits in
    let swapped : IsPair table.vars lits b a = pair_swap table.vars lits a b pair in
    let clause_new : (n : ℕ) → n ≡ count → clause_at (with_clause table id lits) n ≡ lits = λ n is. get_or_push table.clauses lits [] n (sym is) in
    let first_at : (node : ℕ) (d : Lit) → node ≡ 2 * count → get_or ws node d ≡ a = λ node d is. ap (λ n. get_or ws n d) is ∙ (pair_at watches a b d (2 * count) two).0 in
    let second_at : (node : ℕ) (d : Lit) → node ≡ 2 * count + 1 → get_or ws node d ≡ b = λ node d is. ap (λ n. get_or ws n d) is ∙ (pair_at watches a b d (2 * count) two).1 in
    let first_other : (node : ℕ) (d : Lit) → node ≡ 2 * count → get_or ws (other_of node) d ≡ b = λ node d is. second_at (other_of node) d (ap other_of is ∙ other-even count) in
    let second_other : (node : ℕ) (d : Lit) → node ≡ 2 * count + 1 → get_or ws (other_of node) d ≡ a = λ node d is. first_at (other_of node) d (ap other_of is ∙ other-odd count) in
    let other_before : (node : ℕ) (d : Lit) → node < 2 * count → get_or ws (other_of node) d ≡ get_or watches (other_of node) d = λ node d old. pair_before watches a b d (other_of node) (omega (arith, other-within node count old, two)) in
    let cases : (node : ℕ) → node < length ws → (node < 2 * count) ⊎ ((node ≡ 2 * count) ⊎ (node ≡ 2 * count + 1)) = λ node within. node_cases count node (omega (arith, within, long, two)) in
    record {
      two_each = omega (arith, long, more, two);
      named = λ node d within. elim (cases node within) [
        | inl old ↦ subst (λ (l : Lit). 1 ≤ l.var.0) (sym (pair_before watches a b d node (omega (arith, old, two)))) (watching.named node d (omega (arith, old, two)))
        | inr (inl first) ↦ subst (λ (l : Lit). 1 ≤ l.var.0) (sym (first_at node d first)) (pair_named table.vars lits a b clause.in_range pair)
        | inr (inr second) ↦ subst (λ (l : Lit). 1 ≤ l.var.0) (sym (second_at node d second)) (pair_named table.vars lits b a clause.in_range swapped)
      ];
      live = λ node d within low. elim (cases node within) [
        | inl old ↦ live_still table id lits (node / 2) laws free (omega (arith, old)) (watching.live node d (omega (arith, old, two)) (subst (λ (l : Lit). l.var.0 ≤ table.vars) (pair_before watches a b d node (omega (arith, old, two))) low))
        | inr (inl first) ↦ let slot : count ≡ node / 2 = omega (arith, first) in subst (IsLiveAt (with_clause table id lits)) slot (live_new table id lits laws)
        | inr (inr second) ↦ let slot : count ≡ node / 2 = omega (arith, second) in subst (IsLiveAt (with_clause table id lits)) slot (live_new table id lits laws)
      ];
      stand = λ node d within low. elim (cases node within) [
        | inl old ↦ let inside : node < length watches = omega (arith, old, two) in
            let is : get_or ws node d ≡ get_or watches node d = pair_before watches a b d node inside in
            rw (is, clause_with table id lits (node / 2) (omega (arith, old))) (watching.stand node d inside (subst (λ (l : Lit). l.var.0 ≤ table.vars) is low))
        | inr (inl first) ↦ rw (first_at node d first, clause_new (node / 2) (omega (arith, first))) (pair_stands table.vars lits a b pair (subst (λ (l : Lit). l.var.0 ≤ table.vars) (first_at node d first) low))
        | inr (inr second) ↦ rw (second_at node d second, clause_new (node / 2) (omega (arith, second))) (pair_stands table.vars lits b a swapped (subst (λ (l : Lit). l.var.0 ≤ table.vars) (second_at node d second) low))
      ];
      both = λ node d within low. elim (cases node within) [
        | inl old ↦ subst (λ (l : Lit). l.var.0 ≤ table.vars) (sym (other_before node d old)) (watching.both node d (omega (arith, old, two)) (subst (λ (l : Lit). l.var.0 ≤ table.vars) (pair_before watches a b d node (omega (arith, old, two))) low))
        | inr (inl first) ↦ subst (λ (l : Lit). l.var.0 ≤ table.vars) (sym (first_other node d first)) (pair_both table.vars lits a b clause.in_range pair (subst (λ (l : Lit). l.var.0 ≤ table.vars) (first_at node d first) low))
        | inr (inr second) ↦ subst (λ (l : Lit). l.var.0 ≤ table.vars) (sym (second_other node d second)) (pair_both table.vars lits b a clause.in_range swapped (subst (λ (l : Lit). l.var.0 ≤ table.vars) (second_at node d second) low))
      ];
      differ = λ node d within same. elim (cases node within) [
        | inl old ↦ watching.differ node d (omega (arith, old, two)) (sym (pair_before watches a b d node (omega (arith, old, two))) ∙ (same ∙ other_before node d old))
        | inr (inl first) ↦ pair_differ table.vars lits a b pair (sym (first_at node d first) ∙ (same ∙ first_other node d first))
        | inr (inr second) ↦ pair_differ table.vars lits b a swapped (sym (second_at node d second) ∙ (same ∙ second_other node d second))
      ];
      watched = λ place d within live many. elim (cases_lt place count) [
        | inl old ↦ subst (λ (l : Lit). l.var.0 ≤ table.vars) (sym (pair_before watches a b d (2 * place) (omega (arith, old, two))))
            (watching.watched place d old (live_was table id lits place laws old live) (subst (λ (ls : List Lit). 2 ≤ length ls) (clause_with table id lits place old) many))
        | inr new ↦
            let is : place ≡ count = omega (arith, within, more, new) in
            subst (λ (l : Lit). l.var.0 ≤ table.vars) (sym (first_at (2 * place) d (ap (λ n. 2 * n) is))) (pair_many table.vars lits a b clause.in_range pair (subst (λ (ls : List Lit). 2 ≤ length ls) (clause_new place is) many))
      ];
    }

pub AreGuarded-pair : (entries : List Entry) (read count : ℕ) (watches : List Lit) (a b : Lit) → length watches ≡ 2 * count → AreGuarded entries read watches → IsGuarded entries read a b → IsGuarded entries read b a → AreGuarded entries read ((watches ++ a ∷ []) ++ b ∷ [])
AreGuarded-pair entries read count watches a b long all one two node d within =
    let ws : List Lit = (watches ++ a ∷ []) ++ b ∷ [] in
    elim (node_cases count node (omega (arith, within, length_push (watches ++ a ∷ []) b, length_push watches a, long))) [
      | inl old ↦ rw (pair_before watches a b d node (omega (arith, old, long)), pair_before watches a b d (other_of node) (omega (arith, other-within node count old, long))) (all node d (omega (arith, old, long)))
      | inr (inl first) ↦ rw (ap (λ n. get_or ws n d) first ∙ (pair_at watches a b d (2 * count) long).0, ap (λ n. get_or ws n d) (ap other_of first ∙ other-even count) ∙ (pair_at watches a b d (2 * count) long).1) one
      | inr (inr second) ↦ rw (ap (λ n. get_or ws n d) second ∙ (pair_at watches a b d (2 * count) long).1, ap (λ n. get_or ws n d) (ap other_of second ∙ other-odd count) ∙ (pair_at watches a b d (2 * count) long).0) two
    ]

-- the store with a clause more keeps what it keeps
pub IsKeeping-with : (table : PlacedClauses) (heads heads' : List ℕ) (nodes nodes' : List Node) (id : ClauseId) (lits : List Lit) (a b : Lit) → IsKeeping table heads nodes → clause_of (live_in table) id ≡ None → IsClause table.vars lits → IsPair table.vars lits a b → 2 * length table.clauses + 2 < 2 ^ 32 - 1 → length heads' ≡ length heads → watches_of nodes' ≡ (watches_of nodes ++ a ∷ []) ++ b ∷ [] → AreChained heads' (nexts_of nodes') (homes_of (watches_of nodes')) → IsKeeping (with_clause table id lits) heads' nodes'
IsKeeping-with table heads heads' nodes nodes' id lits a b keeping free clause pair few long watches chained = record {
  placed = ArePlaced-with table id lits clause free keeping.placed;
  numbered = keeping.numbered;
  few = omega (arith, few, length_push table.clauses lits);
  room = omega (arith, long, keeping.room);
  watching = subst (IsWatching (with_clause table id lits)) (sym watches) (IsWatching-push table id lits (watches_of nodes) a b keeping.placed free clause pair keeping.watching);
  chained = chained;
}
