-- A clause ends: both of its nodes are idle from then on.
use Rattle.std.proofs.Common.{◌≡◌, ◌≢◌, ℕ, ◌+◌, ◌*◌, ◌/◌, ◌<◌, ◌≤◌, ◌⊎◌, inl, inr, List, length, get_or, set, refl, ap, sym, subst, ◌∙◌, arith}
use Rattle.std.specs.Prelude.{Some, None, Contains}
use Rattle.std.proofs.lemmas.Bool.{cases_eq, cases_lt}
use Rattle.std.proofs.lemmas.List.{length-set, get_or-set_same, get_or-set_other, get_or-map}
use Rattle.sat_core.specs.declared.literal.Lit.{Lit}
use Rattle.search_trail.specs.Trails.{TrailParts, IsTrail}
use Rattle.watch_store.specs.declared.node.Node.{Node}
use Rattle.watch_store.specs.Places.{PlacedClauses, IsLiveAt, clause_at, number_of_place, without_clause}
use Rattle.watch_store.specs.Chains.{AreChained}
use Rattle.watch_store.specs.Watching.{other_of, watches_of, nexts_of, homes_of, IsWatching, IsGuarded, AreGuarded}
use Rattle.watch_store.specs.Fits.{IsEndable, IsEnded, IsKeeping}
use Rattle.watch_store.proofs.PairLemmas.{other-slot, other-even, other-odd}
use Rattle.sat_core.specs.Marks.{mark_place}
use Rattle.watch_store.proofs.WalkLemmas.{same_home, home_at}
use Rattle.watch_store.proofs.PlaceLemmas.{placed_still, placed_without, ArePlaced-without}

-- both nodes watch another literal now
pub IsEnded-set : (vars node : ℕ) (watches : List Lit) (x y : Lit) → node + 1 < length watches → vars < x.var.0 → vars < y.var.0 → x ≢ y → IsEnded vars node watches (set (set watches node x) (node + 1) y)
IsEnded-set vars node watches x y within high_x high_y apart =
    let one : List Lit = set watches node x in
    let both : List Lit = set one (node + 1) y in
    let long : length one ≡ length watches = length-set watches node x in
    let first : (d : Lit) → get_or both node d ≡ x = λ d. get_or-set_other one (node + 1) node y d (λ same. omega (arith, same)) ∙ get_or-set_same watches node x d (omega (arith, within)) in
    let second : (d : Lit) → get_or both (node + 1) d ≡ y = λ d. get_or-set_same one (node + 1) y d (omega (arith, within, long)) in
    record {
      same_length = length-set one (node + 1) y ∙ long;
      idle = λ d. (subst (λ (l : Lit). vars < l.var.0) (sym (first d)) high_x, subst (λ (l : Lit). vars < l.var.0) (sym (second d)) high_y);
      named = λ d. (subst (λ (l : Lit). 1 ≤ l.var.0) (sym (first d)) (omega (arith, high_x)), subst (λ (l : Lit). 1 ≤ l.var.0) (sym (second d)) (omega (arith, high_y)));
      differ = λ d same. apart (sym (first d) ∙ (same ∙ second d));
      others = λ k d not_first not_second. get_or-set_other one (node + 1) k y d not_second ∙ get_or-set_other watches node k x d not_first;
    }

-- nothing to do where the first of them is idle already
pub IsEnded-same : (vars node : ℕ) (watches : List Lit) → IsEndable vars node watches → ((d : Lit) → vars < (get_or watches node d).var.0) → IsEnded vars node watches watches
IsEnded-same vars node watches pair high = record {
  same_length = omega arith;
  idle = λ d. (high d, pair.high d (high d));
  named = pair.named;
  differ = pair.differ;
  others = λ k d not_first not_second. refl;
}

pub IsEndable-of : (table : PlacedClauses) (place : ℕ) (watches : List Lit) → 2 * place + 1 < length watches → IsWatching table watches → IsEndable table.vars (2 * place) watches
IsEndable-of table place watches within watching =
    let node : ℕ = 2 * place in
    let inside : node < length watches = omega (arith, within) in
    let low : (d : Lit) → (get_or watches node d).var.0 ≤ table.vars → (get_or watches (node + 1) d).var.0 ≤ table.vars = λ d is. subst (λ n. (get_or watches n d).var.0 ≤ table.vars) (other-even place) (watching.both node d inside is) in
    let back : (d : Lit) → (get_or watches (node + 1) d).var.0 ≤ table.vars → (get_or watches node d).var.0 ≤ table.vars = λ d is. subst (λ n. (get_or watches n d).var.0 ≤ table.vars) (other-odd place) (watching.both (node + 1) d within is) in
    record {
      named = λ d. (watching.named node d inside, watching.named (node + 1) d within);
      differ = λ d. subst (λ n. get_or watches node d ≢ get_or watches n d) (other-even place) (watching.differ node d inside);
      low = low;
      high = λ d high. elim (cases_lt table.vars (get_or watches (node + 1) d).var.0) [
        | inl above ↦ above
        | inr below ↦ absurd (omega (arith, high, back d below))
      ];
    }

-- an idle literal has another home
pub idle_elsewhere : (watches : List Lit) (vars node : ℕ) (d idle : Lit) → node < length watches → 1 ≤ (get_or watches node d).var.0 → (get_or watches node d).var.0 ≤ vars → idle.var.0 ≡ vars + 1 → get_or (homes_of watches) node 0 ≢ mark_place idle
idle_elsewhere watches vars node d idle within named low high same =
    let is : get_or watches node d ≡ idle = same_home (get_or watches node d) idle named (omega (arith, high)) (sym (home_at watches node d within) ∙ same) in
    omega (arith, low, high, ap (λ (l : Lit). l.var.0) is)

-- a node belongs to the pair, or neither it nor its partner does
node_cases : (place m : ℕ) → (m ≡ 2 * place) ⊎ ((m ≡ 2 * place + 1) ⊎ (m / 2 ≢ place))
node_cases place m = elim (cases_eq m (2 * place)) [
  | inl first ↦ inl first
  | inr not_first ↦ inr (elim (cases_eq m (2 * place + 1)) [
    | inl second ↦ inl second
    | inr not_second ↦ inr (λ same. omega (arith, same, not_first, not_second))
  ])
]

kept_at : (vars place : ℕ) (old new : List Lit) (m : ℕ) (d : Lit) → IsEnded vars (2 * place) old new → m / 2 ≢ place → get_or new m d ≡ get_or old m d
kept_at vars place old new m d ended apart = ended.others m d (λ same. apart (omega (arith, same))) (λ same. apart (omega (arith, same)))

kept_other : (vars place : ℕ) (old new : List Lit) (m : ℕ) (d : Lit) → IsEnded vars (2 * place) old new → m / 2 ≢ place → get_or new (other_of m) d ≡ get_or old (other_of m) d
kept_other vars place old new m d ended apart = kept_at vars place old new (other_of m) d ended (λ same. apart (sym (other-slot m) ∙ same))

-- ---- which places are live
apart_numbers : (table : PlacedClauses) (one other : ℕ) → IsLiveAt table one → IsLiveAt table other → one ≢ other → (number_of_place table one).0 ≢ (number_of_place table other).0
apart_numbers table one other live live' apart same = apart (one_place one other (sym live ∙ (ap (λ n. get_or table.places n None) same ∙ live'))) where
  one_place : (a b : ℕ) → Some a ≡ Some b → a ≡ b
  one_place a b is = cc

pub IsWatching-end : (table : PlacedClauses) (place : ℕ) (old new : List Lit) → IsLiveAt table place → IsEnded table.vars (2 * place) old new → IsWatching table old → IsWatching (without_clause table place) new
IsWatching-end table place old new live ended watching =
    let long : length new ≡ length old = ended.same_length in
    let still : (m : ℕ) → m ≢ place → IsLiveAt table m → IsLiveAt (without_clause table place) m = λ m apart own. placed_still table place (number_of_place table m).0 m (apart_numbers table m place own live apart) own in
    record {
      two_each = long ∙ watching.two_each;
      named = λ m d within. elim (node_cases place m) [
        | inl first ↦ subst (λ n. 1 ≤ (get_or new n d).var.0) (sym first) (ended.named d).0
        | inr (inl second) ↦ subst (λ n. 1 ≤ (get_or new n d).var.0) (sym second) (ended.named d).1
        | inr (inr apart) ↦ subst (λ (l : Lit). 1 ≤ l.var.0) (sym (kept_at table.vars place old new m d ended apart)) (watching.named m d (omega (arith, within, long)))
      ];
      live = λ m d within low. elim (node_cases place m) [
        | inl first ↦ absurd (omega (arith, (ended.idle d).0, subst (λ n. (get_or new n d).var.0 ≤ table.vars) first low))
        | inr (inl second) ↦ absurd (omega (arith, (ended.idle d).1, subst (λ n. (get_or new n d).var.0 ≤ table.vars) second low))
        | inr (inr apart) ↦ still (m / 2) apart (watching.live m d (omega (arith, within, long)) (subst (λ (l : Lit). l.var.0 ≤ table.vars) (kept_at table.vars place old new m d ended apart) low))
      ];
      stand = λ m d within low. elim (node_cases place m) [
        | inl first ↦ absurd (omega (arith, (ended.idle d).0, subst (λ n. (get_or new n d).var.0 ≤ table.vars) first low))
        | inr (inl second) ↦ absurd (omega (arith, (ended.idle d).1, subst (λ n. (get_or new n d).var.0 ≤ table.vars) second low))
        | inr (inr apart) ↦
            let is = kept_at table.vars place old new m d ended apart in
            subst (Contains (clause_at table (m / 2))) (sym is) (watching.stand m d (omega (arith, within, long)) (subst (λ (l : Lit). l.var.0 ≤ table.vars) is low))
      ];
      both = λ m d within low. elim (node_cases place m) [
        | inl first ↦ absurd (omega (arith, (ended.idle d).0, subst (λ n. (get_or new n d).var.0 ≤ table.vars) first low))
        | inr (inl second) ↦ absurd (omega (arith, (ended.idle d).1, subst (λ n. (get_or new n d).var.0 ≤ table.vars) second low))
        | inr (inr apart) ↦ subst (λ (l : Lit). l.var.0 ≤ table.vars) (sym (kept_other table.vars place old new m d ended apart)) (watching.both m d (omega (arith, within, long)) (subst (λ (l : Lit). l.var.0 ≤ table.vars) (kept_at table.vars place old new m d ended apart) low))
      ];
      differ = λ m d within same. elim (node_cases place m) [
        | inl first ↦ ended.differ d (ap (λ n. get_or new n d) (sym first) ∙ (same ∙ ap (λ n. get_or new n d) (ap other_of first ∙ other-even place)))
        | inr (inl second) ↦ ended.differ d (sym (ap (λ n. get_or new n d) (sym second) ∙ (same ∙ ap (λ n. get_or new n d) (ap other_of second ∙ other-odd place))))
        | inr (inr apart) ↦ watching.differ m d (omega (arith, within, long)) (sym (kept_at table.vars place old new m d ended apart) ∙ (same ∙ kept_other table.vars place old new m d ended apart))
      ];
      watched = λ m d within own many.
          let was = placed_without table place (number_of_place table m).0 m own in
          let apart : m ≢ place = λ same. was.1 (ap (λ n. (number_of_place table n).0) same) in
          subst (λ (l : Lit). l.var.0 ≤ table.vars) (sym (kept_at table.vars place old new (2 * m) d ended (λ same. apart (omega (arith, same))))) (watching.watched m d within was.0 many);
    }

-- the store with a clause less keeps what it keeps
pub IsKeeping-without : (table : PlacedClauses) (heads heads' : List ℕ) (nodes nodes' : List Node) (place : ℕ) → IsLiveAt table place → IsEnded table.vars (2 * place) (watches_of nodes) (watches_of nodes') → length heads' ≡ length heads → AreChained heads' (nexts_of nodes') (homes_of (watches_of nodes')) → IsKeeping table heads nodes → IsKeeping (without_clause table place) heads' nodes'
IsKeeping-without table heads heads' nodes nodes' place live ended long chained keeping = record {
  placed = ArePlaced-without table place keeping.placed;
  numbered = keeping.numbered;
  few = keeping.few;
  room = omega (arith, long, keeping.room);
  watching = IsWatching-end table place (watches_of nodes) (watches_of nodes') live ended keeping.watching;
  chained = chained;
}

-- no trail holds an idle literal
pub IsGuarded-idle : (t : TrailParts) (watch partner : Lit) → IsTrail t → t.vars < watch.var.0 → IsGuarded t.entries t.read watch partner
IsGuarded-idle t watch partner laws high k d below is =
    absurd (omega (arith, high, (laws.in_range k d (omega (arith, below, laws.read_within))).1, ap (λ (l : Lit). l.var.0) is))

pub AreGuarded-end : (t : TrailParts) (place : ℕ) (old new : List Lit) → IsTrail t → IsEnded t.vars (2 * place) old new → AreGuarded t.entries t.read old → AreGuarded t.entries t.read new
AreGuarded-end t place old new laws ended all m d within = elim (node_cases place m) [
  | inl first ↦ IsGuarded-idle t (get_or new m d) (get_or new (other_of m) d) laws (subst (λ n. t.vars < (get_or new n d).var.0) (sym first) (ended.idle d).0)
  | inr (inl second) ↦ IsGuarded-idle t (get_or new m d) (get_or new (other_of m) d) laws (subst (λ n. t.vars < (get_or new n d).var.0) (sym second) (ended.idle d).1)
  | inr (inr apart) ↦ rw (kept_at t.vars place old new m d ended apart, kept_other t.vars place old new m d ended apart) (all m d (omega (arith, within, ended.same_length)))
]

-- both nodes of a live place are there
pub node_room : (table : PlacedClauses) (heads : List ℕ) (nodes : List Node) (place : ℕ) → IsLiveAt table place → IsKeeping table heads nodes → 2 * place + 1 < length (watches_of nodes)
node_room table heads nodes place live keeping = omega (arith, keeping.placed.within (number_of_place table place).0 place live, keeping.watching.two_each)

-- a low watch, as it is read
pub low_read : (nodes : List Node) (vars node : ℕ) (e : Node) (d : Lit) → node < length nodes → (get_or nodes node e).watch.var.0 ≤ vars → (get_or (watches_of nodes) node d).var.0 ≤ vars
low_read nodes vars node e d within low = subst (λ (l : Lit). l.var.0 ≤ vars) (sym (get_or-map (λ (x : Node). x.watch) nodes node e d within)) low

-- behind the first node the second has another home than an idle literal too
pub second_elsewhere : (watches : List Lit) (vars node : ℕ) (first idle : Lit) → node + 1 < length watches → IsEndable vars node watches → (get_or watches node idle).var.0 ≤ vars → idle.var.0 ≡ vars + 1 → get_or (homes_of (set watches node first)) (node + 1) 0 ≢ mark_place idle
second_elsewhere watches vars node first idle within pair low high =
    let same : get_or (set watches node first) (node + 1) idle ≡ get_or watches (node + 1) idle = get_or-set_other watches node (node + 1) first idle (λ is. omega (arith, is)) in
    idle_elsewhere (set watches node first) vars (node + 1) idle idle (omega (arith, within, length-set watches node first))
    (subst (λ (l : Lit). 1 ≤ l.var.0) (sym same) (pair.named idle).1)
    (subst (λ (l : Lit). l.var.0 ≤ vars) (sym same) (pair.low idle low)) high
