-- The live clauses alone, each with the watches that it has.
use Rattle.std.proofs.Common.{◌≡◌, ℕ, suc, ◌+◌, ◌*◌, ◌/◌, ◌<◌, ◌≤◌, inl, inr, List, [], ◌∷◌, ◌++◌, length, take, get_or, refl, ap, sym, subst, ◌∙◌, arith}
use Rattle.std.specs.Prelude.{All, Contains, Option, Some, None}
use Rattle.std.proofs.lemmas.List.{take_more, length-take-le, append-nil, length_push}
use Rattle.std.proofs.lemmas.List.Elements.{All-nil, All-cons, All-head, All-tail}
use Rattle.sat_core.specs.declared.literal.Lit.{Lit}
use Rattle.sat_core.specs.declared.literal.ClauseId.{ClauseId}
use Rattle.sat_core.specs.Clauses.{IsClause}
use Rattle.sat_core.specs.Hints.{NumberedClause, clause_of}
use Rattle.search_trail.specs.Trails.{TrailParts, IsTrail}
use Rattle.search_trail.specs.Reasons.{AreReasons}
use Rattle.search_trail.proofs.ReasonLaws.{apart-eqb}
use Rattle.watch_store.specs.declared.node.Node.{Node}
use Rattle.watch_store.specs.Places.{PlacedClauses, IsPlacedAt, IsLiveAt, IsInserted, live_from, live_in, clause_at, with_clause}
use Rattle.watch_store.specs.Watching.{other_of, watches_of, IsWatching, AreGuarded}
use Rattle.watch_store.specs.Fits.{FitsTrail, IsPair, IsSamePair, ArePairsOf, IsKeeping}
use Rattle.watch_store.proofs.PairLemmas.{other-within, other-even, other-odd}
use Rattle.watch_store.proofs.PlaceLemmas.{clause_under}
use Rattle.watch_store.proofs.LiveLaws.{IsInserted-last}
use Rattle.watch_store.proofs.AddLemmas.{pair_at, pair_before, node_cases}
use Rattle.watch_store.proofs.EndLemmas.{IsGuarded-idle, IsEndable-of}
use Rattle.watch_store.proofs.StoreLemmas.{parts_of, all_watched}

-- ---- the live clauses, number by number
live_append : (clauses : List (List Lit)) (first : ℕ) (places more : List (Option ℕ)) → live_from clauses first (places ++ more) ≡ live_from clauses first places ++ live_from clauses (first + length places) more
live_append clauses first [] more = let here : first ≡ first + 0 = omega arith in ap (λ n. live_from clauses n more) here
live_append clauses first (None ∷ places) more =
    let later : first + 1 + length places ≡ first + suc (length places) = omega arith in
    live_append clauses (first + 1) places more ∙ ap (λ n. live_from clauses (first + 1) places ++ live_from clauses n more) later
live_append clauses first (Some p ∷ places) more =
    let later : first + 1 + length places ≡ first + suc (length places) = omega arith in
    ap (λ cs. clause_under clauses first p ∷ cs) (live_append clauses (first + 1) places more ∙ ap (λ n. live_from clauses (first + 1) places ++ live_from clauses n more) later)

live_more : (clauses : List (List Lit)) (places : List (Option ℕ)) (n : ℕ) (at : Option ℕ) → n < length places → get_or places n None ≡ at → live_from clauses 0 (take (n + 1) places) ≡ live_from clauses 0 (take n places) ++ live_from clauses n (at ∷ [])
live_more clauses places n at within is =
    let long : 0 + length (take n places) ≡ n = omega (arith, length-take-le n places (omega (arith, within))) in
    ap (live_from clauses 0) (take_more places n None within ∙ ap (λ p. take n places ++ p ∷ []) is)
    ∙ (live_append clauses 0 (take n places) (at ∷ []) ∙ ap (λ m. live_from clauses 0 (take n places) ++ live_from clauses m (at ∷ [])) long)

live_lower : (clauses : List (List Lit)) (first last : ℕ) (places : List (Option ℕ)) → first + length places ≤ last → All (λ c. c.id.0 < last) (live_from clauses first places)
live_lower clauses first last [] below = All-nil (λ (c : NumberedClause). c.id.0 < last)
live_lower clauses first last (None ∷ places) below = live_lower clauses (first + 1) last places (omega (arith, below))
live_lower clauses first last (Some p ∷ places) below = All-cons (λ (c : NumberedClause). c.id.0 < last) (clause_under clauses first p) (live_from clauses (first + 1) places) (omega (arith, below)) (live_lower clauses (first + 1) last places (omega (arith, below)))

free_above : (live : List NumberedClause) (id : ClauseId) → All (λ c. c.id.0 < id.0) live → clause_of live id ≡ None
free_above [] id below = refl
free_above (c ∷ live) id below =
    rw (apart-eqb c.id.0 id.0 (λ same. omega (arith, same, All-head (λ (x : NumberedClause). x.id.0 < id.0) c live below))) (free_above live id (All-tail (λ (x : NumberedClause). x.id.0 < id.0) c live below))

all_below : (table : PlacedClauses) (n : ℕ) (live : List NumberedClause) → n ≤ length table.places → live ≡ live_from table.clauses 0 (take n table.places) → All (λ c. c.id.0 < n) live
all_below table n live within is = subst (All (λ (c : NumberedClause). c.id.0 < n)) (sym is) (live_lower table.clauses 0 n (take n table.places) (omega (arith, length-take-le n table.places within)))

-- the next number is free
pub number_free : (table : PlacedClauses) (n : ℕ) (live : List NumberedClause) → n ≤ length table.places → live ≡ live_from table.clauses 0 (take n table.places) → clause_of live (record { 0 = n }) ≡ None
number_free table n live within is = free_above live (record { 0 = n }) (all_below table n live within is)

pub refill_none : (table : PlacedClauses) (n : ℕ) (live : List NumberedClause) → n < length table.places → get_or table.places n None ≡ None → live ≡ live_from table.clauses 0 (take n table.places) → live ≡ live_from table.clauses 0 (take (n + 1) table.places)
refill_none table n live within none is = is ∙ sym (live_more table.clauses table.places n None within none ∙ append-nil (live_from table.clauses 0 (take n table.places)))

pub refill_some : (table : PlacedClauses) (n place : ℕ) (lits : List Lit) (live live' : List NumberedClause) → n < length table.places → IsPlacedAt table n place → clause_at table place ≡ lits → live ≡ live_from table.clauses 0 (take n table.places) → IsInserted (record { 0 = n }) lits live live' → live' ≡ live_from table.clauses 0 (take (n + 1) table.places)
refill_some table n place lits live live' within found lits_are is inserted =
    IsInserted-last (record { 0 = n }) lits live live' (all_below table n live (omega (arith, within)) is) inserted
    ∙ (ap (λ l. l ++ record { id = record { 0 = n }; lits = lits } ∷ []) is
    ∙ (ap (λ ls. live_from table.clauses 0 (take n table.places) ++ record { id = record { 0 = n }; lits = ls } ∷ []) (sym lits_are)
    ∙ sym (live_more table.clauses table.places n (Some place) within found)))

-- ---- the watches, pair by pair
pub ArePairsOf-push : (vars place count : ℕ) (old new : List Lit) (a b : Lit) → length new ≡ 2 * count → IsSamePair vars (2 * place) old a b → ArePairsOf vars old new → ArePairsOf vars old ((new ++ a ∷ []) ++ b ∷ [])
ArePairsOf-push vars place count old new a b long same all node d within =
    let ws : List Lit = (new ++ a ∷ []) ++ b ∷ [] in
    elim (node_cases count node (omega (arith, within, length_push (new ++ a ∷ []) b, length_push new a, long))) [
      | inl before ↦ rw (pair_before new a b d node (omega (arith, before, long)), pair_before new a b d (other_of node) (omega (arith, other-within node count before, long))) (all node d (omega (arith, before, long)))
      | inr (inl first) ↦
          let at : get_or ws node d ≡ a = ap (λ n. get_or ws n d) first ∙ (pair_at new a b d (2 * count) long).0 in
          let partner : get_or ws (other_of node) d ≡ b = ap (λ n. get_or ws n d) (ap other_of first ∙ other-even count) ∙ (pair_at new a b d (2 * count) long).1 in
          elim same [
            | inl idle ↦ inl (subst (λ (l : Lit). vars < l.var.0) (sym at) idle.0)
            | inr own ↦ inr (2 * place, omega (arith, own.0), at ∙ sym (own.1 d).0, partner ∙ sym (ap (λ n. get_or old n d) (other-even place) ∙ (own.1 d).1))
          ]
      | inr (inr second) ↦
          let at : get_or ws node d ≡ b = ap (λ n. get_or ws n d) second ∙ (pair_at new a b d (2 * count) long).1 in
          let partner : get_or ws (other_of node) d ≡ a = ap (λ n. get_or ws n d) (ap other_of second ∙ other-odd count) ∙ (pair_at new a b d (2 * count) long).0 in
          elim same [
            | inl idle ↦ inl (subst (λ (l : Lit). vars < l.var.0) (sym at) idle.1)
            | inr own ↦ inr (2 * place + 1, own.0, at ∙ sym (own.1 d).1, partner ∙ sym (ap (λ n. get_or old n d) (other-odd place) ∙ (own.1 d).0))
          ]
    ]

-- one number more, which has no clause
pub refilled_none : (from : PlacedClauses) (n : ℕ) (id : ClauseId) (live : List NumberedClause) → n < length from.places → id.0 ≡ n → get_or from.places id.0 None ≡ None → live ≡ live_from from.clauses 0 (take n from.places) → live ≡ live_from from.clauses 0 (take (n + 1) from.places)
refilled_none from n id live within same none is = refill_none from n live within (ap (λ m. get_or from.places m None) (sym same) ∙ none) is

-- one number more, whose clause was put
pub refilled_some : (from table table' : PlacedClauses) (heads : List ℕ) (watching nodes nodes' : List Node) (n place : ℕ) (id : ClauseId) (lits : List Lit) (a b : Lit) → n < length from.places → id.0 ≡ n → IsPlacedAt from id.0 place → clause_at from place ≡ lits → IsSamePair from.vars (2 * place) (watches_of watching) a b → length (watches_of nodes) ≡ 2 * length table.clauses → table.vars ≡ from.vars → live_in table ≡ live_from from.clauses 0 (take n from.places) → ArePairsOf from.vars (watches_of watching) (watches_of nodes) → IsKeeping table' heads nodes' → table' ≡ with_clause table id lits → watches_of nodes' ≡ (watches_of nodes ++ a ∷ []) ++ b ∷ [] → IsInserted id lits (live_in table) (live_in table') → IsKeeping table' heads nodes' × (table'.vars ≡ from.vars) × (live_in table' ≡ live_from from.clauses 0 (take (n + 1) from.places)) × ArePairsOf from.vars (watches_of watching) (watches_of nodes')
refilled_some from table table' heads watching nodes nodes' n place id lits a b within same found lits_are pair long vars live pairs keeping is watches inserted = (
  keeping,
  ap (λ (t : PlacedClauses). t.vars) is ∙ vars,
  refill_some from n place lits (live_in table) (live_in table') within (ap (λ m. get_or from.places m None) (sym same) ∙ found) lits_are live (subst (λ m. IsInserted (record { 0 = m }) lits (live_in table) (live_in table')) same inserted),
  subst (ArePairsOf from.vars (watches_of watching)) (sym watches) (ArePairsOf-push from.vars place (length table.clauses) (watches_of watching) (watches_of nodes) a b long pair pairs),
)

-- what a live clause of two or more literals watches
pub pair_of_live : (table : PlacedClauses) (watches : List Lit) (place : ℕ) (first second : Lit) → place < length table.clauses → IsLiveAt table place → 2 ≤ length (clause_at table place) → ((d : Lit) → get_or watches (2 * place) d ≡ first) → ((d : Lit) → get_or watches (2 * place + 1) d ≡ second) → IsWatching table watches → IsPair table.vars (clause_at table place) first second × IsSamePair table.vars (2 * place) watches first second
pair_of_live table watches place first second inside live many is_first is_second watching =
    let node : ℕ = 2 * place in
    let within : node + 1 < length watches = omega (arith, inside, watching.two_each) in
    let slot : node / 2 ≡ place = omega arith in
    let slot' : (node + 1) / 2 ≡ place = omega arith in
    let low : (get_or watches node first).var.0 ≤ table.vars = watching.watched place first inside live many in
    let pair = IsEndable-of table place watches within watching in
    let stands : Contains (clause_at table place) (get_or watches node first) = subst (λ p. Contains (clause_at table p) (get_or watches node first)) slot (watching.stand node first (omega (arith, within)) low) in
    let stands' : Contains (clause_at table place) (get_or watches (node + 1) first) = subst (λ p. Contains (clause_at table p) (get_or watches (node + 1) first)) slot' (watching.stand (node + 1) first within (pair.low first low)) in (
      inl ((λ same. pair.differ first (is_first first ∙ (same ∙ sym (is_second first)))), (subst (Contains (clause_at table place)) (is_first first) stands, subst (Contains (clause_at table place)) (is_second first) stands')),
      inr (within, λ d. (is_first d, is_second d)),
    )

AreGuarded-pairs : (t : TrailParts) (old new : List Lit) → IsTrail t → ArePairsOf t.vars old new → AreGuarded t.entries t.read old → AreGuarded t.entries t.read new
AreGuarded-pairs t old new laws pairs all node d within = elim (pairs node d within) [
  | inl high ↦ IsGuarded-idle t (get_or new node d) (get_or new (other_of node) d) laws high
  | inr own ↦ rw (own.2, own.3) (all own.0 d own.1)
]

-- store and trail go on fitting
pub FitsTrail-refilled : (table table' : PlacedClauses) (heads : List ℕ) (nodes nodes' : List Node) (t : TrailParts) → IsKeeping table' heads nodes' → table'.vars ≡ table.vars → live_in table' ≡ live_in table → ArePairsOf table.vars (watches_of nodes) (watches_of nodes') → FitsTrail (parts_of table nodes) t → FitsTrail (parts_of table' nodes') t
FitsTrail-refilled table table' heads nodes nodes' t keeping vars live pairs fits = record {
  laws = fits.laws;
  same_vars = vars ∙ fits.same_vars;
  over = subst (λ cs. All (λ (c : NumberedClause). IsClause t.vars c.lits) cs) (sym live) fits.over;
  watched = all_watched table' (watches_of nodes') keeping.placed keeping.watching;
  guarded = AreGuarded-pairs t (watches_of nodes) (watches_of nodes') fits.laws (subst (λ n. ArePairsOf n (watches_of nodes) (watches_of nodes')) fits.same_vars pairs) fits.guarded;
  reasons = subst (λ cs. AreReasons cs t.entries) (sym live) fits.reasons;
  unread_present = fits.unread_present;
}
