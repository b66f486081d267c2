-- What a step needs of mid-walk, in the words of its calls.
use Rattle.std.proofs.Common.{◌≡◌, ◌≢◌, ℕ, ◌*◌, ◌/◌, ◌<◌, ◌≤◌, true, false, ◌⊎◌, inl, inr, List, [], ◌∷◌, ◌++◌, length, get_or, set, ap, sym, subst, ◌∙◌, arith}
use Rattle.std.specs.Prelude.{Option, Some, All, Contains}
use Rattle.std.proofs.lemmas.Bool.{cases_Bool}
use Rattle.std.proofs.lemmas.List.{get_or-map, length-map}
use Rattle.std.proofs.lemmas.List.Elements.{All-contains}
use Rattle.sat_core.specs.declared.literal.Lit.{Lit}
use Rattle.sat_core.specs.declared.literal.ClauseId.{ClauseId}
use Rattle.sat_core.specs.Clauses.{negated, IsOver}
use Rattle.sat_core.specs.Hints.{is_same, is_known}
use Rattle.sat_core.specs.Fresh.{IsOpen}
use Rattle.sat_core.specs.Marks.{mark_place}
use Rattle.sat_core.proofs.LiteralLaws.{is_same-true, is_same-refl}
use Rattle.sat_core.proofs.MarkLaws.{mark_within}
use Rattle.sat_core.proofs.OpenLaws.{true_is_not_false}
use Rattle.search_trail.specs.Trails.{TrailParts, AreFalse, known_of, assigned}
use Rattle.watch_store.specs.declared.node.Node.{Node}
use Rattle.watch_store.specs.Places.{PlacedClauses, clause_at, number_of_place}
use Rattle.watch_store.specs.Chains.{IsChainWalk}
use Rattle.watch_store.specs.Watching.{other_of, watches_of, nexts_of, homes_of}
use Rattle.watch_store.specs.Walking.{OthersFalse, IsMidWalk}
use Rattle.watch_store.proofs.FindLemmas.{before_within}
use Rattle.watch_store.proofs.WalkLemmas.{node_watch, partner_at, other_home, mid_keep, mid_move, mid_force}

pub node_in : (table : PlacedClauses) (heads : List ℕ) (nodes : List Node) (t : TrailParts) (home : ℕ) (kept : List ℕ) (node : ℕ) (rest : List ℕ) (before : Option ℕ) (at : ℕ) → IsMidWalk table heads nodes t home kept (node ∷ rest) before at → (node < length nodes) × (other_of node < length nodes) × (node / 2 < length table.clauses)
node_in table heads nodes t home kept node rest before at mid =
    let d : Lit = record { var = record { 0 = 0 }; positive = true } in
    let long : length (watches_of nodes) ≡ length nodes = length-map nodes (λ (n : Node). n.watch) in
    let within = (node_watch table heads nodes t home kept node rest before at d mid).0 in
    (omega (arith, within, long), omega (arith, (partner_at table heads nodes t home kept node rest before at d mid).0, long), omega (arith, within, mid.fits.watching.two_each))

-- the number of a node has 32 bits
pub node_low_bits : (table : PlacedClauses) (heads : List ℕ) (nodes : List Node) (t : TrailParts) (home : ℕ) (kept : List ℕ) (node : ℕ) (rest : List ℕ) (before : Option ℕ) (at : ℕ) → IsMidWalk table heads nodes t home kept (node ∷ rest) before at → node < 4294967296
node_low_bits table heads nodes t home kept node rest before at mid = omega (arith, (node_in table heads nodes t home kept node rest before at mid).2, mid.fits.few)

pub lits_in : (table : PlacedClauses) (heads : List ℕ) (nodes : List Node) (t : TrailParts) (home : ℕ) (kept : List ℕ) (node : ℕ) (rest : List ℕ) (before : Option ℕ) (at : ℕ) (lits : List Lit) → clause_at table (node / 2) ≡ lits → IsMidWalk table heads nodes t home kept (node ∷ rest) before at → All (IsOver t.vars) lits
lits_in table heads nodes t home kept node rest before at lits is mid =
    let inside = node_in table heads nodes t home kept node rest before at mid in
    subst (All (IsOver t.vars)) is (subst (λ n. All (IsOver n) (clause_at table (node / 2))) mid.fits.same_vars (mid.fits.placed.all_clauses (node / 2) [] inside.2).in_range)

pub partner_read : (nodes : List Node) (n : ℕ) (d : Node) (e : Lit) → n < length nodes → get_or (watches_of nodes) n e ≡ (get_or nodes n d).watch
partner_read nodes n d e within = get_or-map (λ (x : Node). x.watch) nodes n d e within

-- the other watched literal, as it was read
pub partner_is : (table : PlacedClauses) (heads : List ℕ) (nodes : List Node) (t : TrailParts) (home : ℕ) (kept : List ℕ) (node : ℕ) (rest : List ℕ) (before : Option ℕ) (at : ℕ) (n : ℕ) (d : Node) → n ≡ other_of node → IsMidWalk table heads nodes t home kept (node ∷ rest) before at → (e : Lit) → get_or (watches_of nodes) (other_of node) e ≡ (get_or nodes n d).watch
partner_is table heads nodes t home kept node rest before at n d is mid e =
    let inside = node_in table heads nodes t home kept node rest before at mid in
    ap (λ k. get_or (watches_of nodes) k e) (sym is) ∙ partner_read nodes n d e (omega (arith, inside.1, is))

pub partner_in : (table : PlacedClauses) (heads : List ℕ) (nodes : List Node) (t : TrailParts) (home : ℕ) (kept : List ℕ) (node : ℕ) (rest : List ℕ) (before : Option ℕ) (at : ℕ) (n : ℕ) (d : Node) → n ≡ other_of node → IsMidWalk table heads nodes t home kept (node ∷ rest) before at → IsOver t.vars (get_or nodes n d).watch
partner_in table heads nodes t home kept node rest before at n d is mid =
    subst (IsOver t.vars) (partner_is table heads nodes t home kept node rest before at n d is mid d.watch) (partner_at table heads nodes t home kept node rest before at d.watch mid).1.0

pub before_in : (table : PlacedClauses) (heads : List ℕ) (nodes : List Node) (t : TrailParts) (home : ℕ) (kept : List ℕ) (node : ℕ) (rest : List ℕ) (before : Option ℕ) (at : ℕ) (b : ℕ) → before ≡ Some b → IsMidWalk table heads nodes t home kept (node ∷ rest) before at → b < length nodes
before_in table heads nodes t home kept node rest before at b is mid = before_within heads nodes home kept node rest before at b is mid.walk

pub found_in : (vars : ℕ) (lits : List Lit) (lit : Lit) → All (IsOver vars) lits → Contains lits lit → IsOver vars lit
found_in vars lits lit over stands = All-contains (IsOver vars) lits lit over stands

pub home_in : (vars : ℕ) (heads : List ℕ) (lit : Lit) → 2 * vars ≤ length heads → IsOver vars lit → mark_place lit < length heads
home_in vars heads lit long over = omega (arith, mark_within vars lit over)

pub lit_cases : (one other : Lit) → (one ≡ other) ⊎ (one ≢ other)
lit_cases one other = elim (cases_Bool (is_same one other)) [
  | inl same ↦ inl (is_same-true one other same)
  | inr apart ↦ inr (λ same. true_is_not_false (sym (ap (λ l. is_same one l) (sym same) ∙ is_same-refl one) ∙ apart))
]

-- a clause whose watched literal and all others are false
pub all_false : (known lits : List Lit) (partner : Lit) → is_known known (negated partner) ≡ true → OthersFalse known lits partner → AreFalse known lits
all_false known lits partner false_now others k d within = elim (lit_cases (get_or lits k d) partner) [
  | inl is ↦ ap (λ l. is_known known (negated l)) is ∙ false_now
  | inr apart ↦ others k d within apart
]

pub step_kept : (table : PlacedClauses) (heads : List ℕ) (nodes : List Node) (t : TrailParts) (home : ℕ) (kept : List ℕ) (node : ℕ) (rest : List ℕ) (before : Option ℕ) (at : ℕ) (n : ℕ) (d : Node) → n ≡ other_of node → is_known (known_of t.entries) (get_or nodes n d).watch ≡ true → IsMidWalk table heads nodes t home kept (node ∷ rest) before at → IsMidWalk table heads nodes t home (kept ++ node ∷ []) rest (Some node) (get_or (nexts_of nodes) node 0)
step_kept table heads nodes t home kept node rest before at n d is known mid =
    mid_keep table heads nodes t home kept node rest before at (λ e. ap (is_known (known_of t.entries)) (partner_is table heads nodes t home kept node rest before at n d is mid e) ∙ known) mid

pub step_forced : (table : PlacedClauses) (heads : List ℕ) (nodes : List Node) (t t' : TrailParts) (home : ℕ) (kept : List ℕ) (node : ℕ) (rest : List ℕ) (before : Option ℕ) (at n : ℕ) (d : Node) (id : ClauseId) (lits : List Lit) → n ≡ other_of node → number_of_place table (node / 2) ≡ id → clause_at table (node / 2) ≡ lits → IsOpen (known_of t.entries) (get_or nodes n d).watch → OthersFalse (known_of t.entries) lits (get_or nodes n d).watch → t' ≡ assigned t (get_or nodes n d).watch id → IsMidWalk table heads nodes t home kept (node ∷ rest) before at → IsMidWalk table heads nodes t' home (kept ++ node ∷ []) rest (Some node) (get_or (nexts_of nodes) node 0)
step_forced table heads nodes t t' home kept node rest before at n d id lits is number found is_open others pushed mid =
    subst (λ u. IsMidWalk table heads nodes u home (kept ++ node ∷ []) rest (Some node) (get_or (nexts_of nodes) node 0)) (sym pushed)
    (mid_force table heads nodes t home kept node rest before at (get_or nodes n d).watch id (partner_is table heads nodes t home kept node rest before at n d is mid) number is_open
    (subst (λ ls. OthersFalse (known_of t.entries) ls (get_or nodes n d).watch) (sym found) others) mid)

pub step_conflict : (table : PlacedClauses) (known lits : List Lit) (node : ℕ) (partner : Lit) → clause_at table (node / 2) ≡ lits → is_known known (negated partner) ≡ true → OthersFalse known lits partner → AreFalse known (clause_at table (node / 2))
step_conflict table known lits node partner found false_now others = subst (AreFalse known) (sym found) (all_false known lits partner false_now others)

pub step_moved : (table : PlacedClauses) (heads heads' : List ℕ) (nodes nodes' : List Node) (t : TrailParts) (home : ℕ) (kept : List ℕ) (node : ℕ) (rest : List ℕ) (before : Option ℕ) (at n : ℕ) (d : Node) (lits : List Lit) (lit : Lit) → n ≡ other_of node → clause_at table (node / 2) ≡ lits → Contains lits lit → lit ≢ (get_or nodes n d).watch → is_known (known_of t.entries) (negated lit) ≡ false → length heads' ≡ length heads → watches_of nodes' ≡ set (watches_of nodes) node lit → (mark_place lit ≢ home → IsChainWalk heads (nexts_of nodes) (homes_of (watches_of nodes)) home kept (node ∷ rest) before at → IsChainWalk heads' (nexts_of nodes') (homes_of (watches_of nodes')) home kept rest before (get_or (nexts_of nodes) node 0)) → IsMidWalk table heads nodes t home kept (node ∷ rest) before at → IsMidWalk table heads' nodes' t home kept rest before (get_or (nexts_of nodes) node 0)
step_moved table heads heads' nodes nodes' t home kept node rest before at n d lits lit is found stands apart not_false long watches walk mid =
    let over : IsOver t.vars lit = found_in t.vars lits lit (lits_in table heads nodes t home kept node rest before at lits found mid) stands in
    let elsewhere : mark_place lit ≢ home = other_home table heads nodes t home kept node rest before at lit over not_false mid in
    mid_move table heads heads' nodes nodes' t home kept node rest before at (get_or (nexts_of nodes) node 0) lit lit long watches over
    (subst (λ ls. Contains ls lit) (sym found) stands)
    (λ same. apart (same ∙ partner_is table heads nodes t home kept node rest before at n d is mid lit))
    not_false (walk elsewhere mid.walk) mid
