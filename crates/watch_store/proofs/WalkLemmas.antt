-- The steps of a walk keep what holds in mid-walk.
use Rattle.std.proofs.Common.{◌≡◌, ◌≢◌, ℕ, ◌+◌, ◌/◌, ◌<◌, ◌≤◌, true, false, ◌||◌, ◌⊎◌, inl, inr, List, [], ◌∷◌, ◌++◌, length, get_or, set, refl, ap, sym, subst, ◌∙◌, arith}
use Rattle.std.specs.Prelude.{nat_eq, Option, Some, None, Contains}
use Rattle.std.proofs.lemmas.Bool.{cases_eq, eqb-true, or_cases}
use Rattle.std.proofs.lemmas.List.{get_or-map, length-map, get_or-set_other, length_push, get_or_push, get_or_append_left, append-nil, map_push}
use Rattle.std.proofs.lemmas.List.Folds.{list_any-append}
use Rattle.std.proofs.Math.Bool.{or-false}
use Rattle.sat_core.specs.declared.literal.Lit.{Lit}
use Rattle.sat_core.specs.declared.literal.ClauseId.{ClauseId}
use Rattle.sat_core.specs.Clauses.{negated, IsOver}
use Rattle.sat_core.specs.Hints.{clause_of, is_same, is_known}
use Rattle.sat_core.specs.Fresh.{IsOpen}
use Rattle.sat_core.specs.Marks.{mark_place}
use Rattle.sat_core.proofs.LiteralLaws.{negated-negated}
use Rattle.sat_core.proofs.MarkLaws.{same_place}
use Rattle.sat_core.proofs.OpenLaws.{true_is_not_false}
use Rattle.search_trail.specs.declared.entry.Entry.{Entry}
use Rattle.search_trail.specs.Trails.{TrailParts, IsTrail, known_of, assigned}
use Rattle.search_trail.specs.Reasons.{IsReason}
use Rattle.search_trail.proofs.TrailLaws.{OneSign, IsTrail-push, now_low, one_sign, known-at_entry}
use Rattle.search_trail.proofs.ReasonLaws.{AreReasons-push}
use Rattle.watch_store.specs.declared.node.Node.{Node}
use Rattle.watch_store.specs.Places.{PlacedClauses, IsLiveAt, live_in, clause_at, number_of_place}
use Rattle.watch_store.specs.Chains.{is_among, lives_at, IsChainWalk}
use Rattle.watch_store.specs.Watching.{other_of, watches_of, nexts_of, homes_of, IsWatching, AreGuarded}
use Rattle.watch_store.specs.Walking.{OthersFalse, IsFitting, IsMidWalk}
use Rattle.watch_store.proofs.ChainLemmas.{walk_at, walk_keep, lives_here}
use Rattle.watch_store.proofs.PairLemmas.{other-within, other-slot}
use Rattle.watch_store.proofs.PlaceLemmas.{placed_clause}
use Rattle.watch_store.proofs.WatchingLemmas.{IsWatching-move}
use Rattle.watch_store.proofs.GuardLemmas.{AreGuarded-push, AreGuarded-move, AreGuarded-read, up_to-all}

-- two literals with one home are the same
pub same_home : (one other : Lit) → 1 ≤ one.var.0 → 1 ≤ other.var.0 → mark_place one ≡ mark_place other → one ≡ other
same_home one other low low' same = same_place (one.var.0 + other.var.0) one other (low, omega arith) (low', omega arith) same

pub home_at : (watches : List Lit) (node : ℕ) (d : Lit) → node < length watches → get_or (homes_of watches) node 0 ≡ mark_place (get_or watches node d)
home_at watches node d within = get_or-map mark_place watches node d 0 within

-- ---- the node at which the walk stands
pub node_watch : (table : PlacedClauses) (heads : List ℕ) (nodes : List Node) (t : TrailParts) (home : ℕ) (kept : List ℕ) (node : ℕ) (rest : List ℕ) (before : Option ℕ) (at : ℕ) (d : Lit) → IsMidWalk table heads nodes t home kept (node ∷ rest) before at → (node < length (watches_of nodes)) × ((e : Entry) → get_or (watches_of nodes) node d ≡ negated (get_or t.entries t.read e).lit)
node_watch table heads nodes t home kept node rest before at d mid =
    let here = walk_at heads (nexts_of nodes) (homes_of (watches_of nodes)) home kept node rest before at mid.walk in
    let within : node < length (watches_of nodes) = omega (arith, here.1, length-map (watches_of nodes) mark_place) in (
      within,
      λ e. same_home (get_or (watches_of nodes) node d) (negated (get_or t.entries t.read e).lit) (mid.fits.watching.named node d within) (mid.fits.laws.in_range t.read e mid.unread).0 (sym (home_at (watches_of nodes) node d within) ∙ (here.2 ∙ sym (mid.at_hand e))),
    )

-- it is no idle one
pub node_low : (table : PlacedClauses) (heads : List ℕ) (nodes : List Node) (t : TrailParts) (home : ℕ) (kept : List ℕ) (node : ℕ) (rest : List ℕ) (before : Option ℕ) (at : ℕ) (d : Lit) → IsMidWalk table heads nodes t home kept (node ∷ rest) before at → (get_or (watches_of nodes) node d).var.0 ≤ table.vars
node_low table heads nodes t home kept node rest before at d mid =
    let e : Entry = record { lit = d; reason = None; level = 0 } in
    let now = node_watch table heads nodes t home kept node rest before at d mid in
    omega (arith, ap (λ (l : Lit). l.var.0) (now.1 e), (mid.fits.laws.in_range t.read e mid.unread).1, mid.fits.same_vars)

-- its watched literal is false
pub node_false : (table : PlacedClauses) (heads : List ℕ) (nodes : List Node) (t : TrailParts) (home : ℕ) (kept : List ℕ) (node : ℕ) (rest : List ℕ) (before : Option ℕ) (at : ℕ) (d : Lit) → IsMidWalk table heads nodes t home kept (node ∷ rest) before at → (node < length (watches_of nodes)) × (is_known (known_of t.entries) (negated (get_or (watches_of nodes) node d)) ≡ true)
node_false table heads nodes t home kept node rest before at d mid =
    let e : Entry = record { lit = d; reason = None; level = 0 } in
    let now = node_watch table heads nodes t home kept node rest before at d mid in
    (now.0, ap (is_known (known_of t.entries)) (ap negated (now.1 e) ∙ negated-negated (get_or t.entries t.read e).lit) ∙ known-at_entry t.entries t.read e mid.unread)

-- its clause is live
pub node_live : (table : PlacedClauses) (heads : List ℕ) (nodes : List Node) (t : TrailParts) (home : ℕ) (kept : List ℕ) (node : ℕ) (rest : List ℕ) (before : Option ℕ) (at : ℕ) → IsMidWalk table heads nodes t home kept (node ∷ rest) before at → IsLiveAt table (node / 2)
node_live table heads nodes t home kept node rest before at mid =
    let d : Lit = record { var = record { 0 = 0 }; positive = true } in
    mid.fits.watching.live node d (node_watch table heads nodes t home kept node rest before at d mid).0 (node_low table heads nodes t home kept node rest before at d mid)

-- the other node of its clause
pub partner_at : (table : PlacedClauses) (heads : List ℕ) (nodes : List Node) (t : TrailParts) (home : ℕ) (kept : List ℕ) (node : ℕ) (rest : List ℕ) (before : Option ℕ) (at : ℕ) (d : Lit) → IsMidWalk table heads nodes t home kept (node ∷ rest) before at → (other_of node < length (watches_of nodes)) × (IsOver t.vars (get_or (watches_of nodes) (other_of node) d) × Contains (clause_at table (node / 2)) (get_or (watches_of nodes) (other_of node) d))
partner_at table heads nodes t home kept node rest before at d mid =
    let now = node_watch table heads nodes t home kept node rest before at d mid in
    let within : other_of node < length (watches_of nodes) = omega (arith, other-within node (length table.clauses) (omega (arith, mid.fits.watching.two_each, now.0)), mid.fits.watching.two_each) in
    let low : (get_or (watches_of nodes) (other_of node) d).var.0 ≤ table.vars = mid.fits.watching.both node d now.0 (node_low table heads nodes t home kept node rest before at d mid) in (
      within,
      ((mid.fits.watching.named (other_of node) d within, omega (arith, low, mid.fits.same_vars)), subst (λ n. Contains (clause_at table n) (get_or (watches_of nodes) (other_of node) d)) (other-slot node) (mid.fits.watching.stand (other_of node) d within low)),
    )

-- ---- the steps
has-push_cases : (kept : List ℕ) (node m : ℕ) → is_among (kept ++ node ∷ []) m ≡ true → (is_among kept m ≡ true) ⊎ (m ≡ node)
has-push_cases kept node m found = elim (or_cases (is_among kept m) (is_among (node ∷ []) m) (sym (list_any-append (nat_eq m) kept (node ∷ [])) ∙ found)) [
  | inl before ↦ inl before
  | inr last ↦ inr (eqb-true m node (sym (or-false (nat_eq m node)) ∙ last))
]

pub mid_keep : (table : PlacedClauses) (heads : List ℕ) (nodes : List Node) (t : TrailParts) (home : ℕ) (kept : List ℕ) (node : ℕ) (rest : List ℕ) (before : Option ℕ) (at : ℕ) → ((d : Lit) → is_known (known_of t.entries) (get_or (watches_of nodes) (other_of node) d) ≡ true) → IsMidWalk table heads nodes t home kept (node ∷ rest) before at → IsMidWalk table heads nodes t home (kept ++ node ∷ []) rest (Some node) (get_or (nexts_of nodes) node 0)
mid_keep table heads nodes t home kept node rest before at partner mid = record {
  fits = mid.fits;
  walk = walk_keep heads (nexts_of nodes) (homes_of (watches_of nodes)) home kept node rest before at mid.walk;
  unread = mid.unread;
  at_hand = mid.at_hand;
  kept_true = λ m d found. elim (has-push_cases kept node m found) [
    | inl old ↦ mid.kept_true m d old
    | inr new ↦ subst (λ n. is_known (known_of t.entries) (get_or (watches_of nodes) (other_of n) d) ≡ true) (sym new) (partner d)
  ];
}

-- the literal that is to be watched has another home
pub other_home : (table : PlacedClauses) (heads : List ℕ) (nodes : List Node) (t : TrailParts) (home : ℕ) (kept : List ℕ) (node : ℕ) (rest : List ℕ) (before : Option ℕ) (at : ℕ) (lit : Lit) → IsOver t.vars lit → is_known (known_of t.entries) (negated lit) ≡ false → IsMidWalk table heads nodes t home kept (node ∷ rest) before at → mark_place lit ≢ home
other_home table heads nodes t home kept node rest before at lit over not_false mid same =
    let here = walk_at heads (nexts_of nodes) (homes_of (watches_of nodes)) home kept node rest before at mid.walk in
    let now = node_false table heads nodes t home kept node rest before at lit mid in
    let is : lit ≡ get_or (watches_of nodes) node lit = same_home lit (get_or (watches_of nodes) node lit) over.0 (mid.fits.watching.named node lit now.0) (same ∙ (sym here.2 ∙ home_at (watches_of nodes) node lit now.0)) in
    true_is_not_false (sym now.1 ∙ (ap (λ l. is_known (known_of t.entries) (negated l)) (sym is) ∙ not_false))

pub mid_move : (table : PlacedClauses) (heads heads' : List ℕ) (nodes nodes' : List Node) (t : TrailParts) (home : ℕ) (kept : List ℕ) (node : ℕ) (rest : List ℕ) (before : Option ℕ) (at after : ℕ) (lit d : Lit) → length heads' ≡ length heads → watches_of nodes' ≡ set (watches_of nodes) node lit → IsOver t.vars lit → Contains (clause_at table (node / 2)) lit → lit ≢ get_or (watches_of nodes) (other_of node) d → is_known (known_of t.entries) (negated lit) ≡ false → IsChainWalk heads' (nexts_of nodes') (homes_of (watches_of nodes')) home kept rest before after → IsMidWalk table heads nodes t home kept (node ∷ rest) before at → IsMidWalk table heads' nodes' t home kept rest before after
mid_move table heads heads' nodes nodes' t home kept node rest before at after lit d long watches over stands apart not_false walk mid =
    let now = node_false table heads nodes t home kept node rest before at d mid in
    let signs : OneSign t.entries = one_sign t mid.fits.laws in
    record {
      fits = record {
        laws = mid.fits.laws;
        placed = mid.fits.placed;
        same_vars = mid.fits.same_vars;
        room = omega (arith, long, mid.fits.room);
        few = mid.fits.few;
        watching = subst (IsWatching table) (sym watches) (IsWatching-move table (watches_of nodes) node lit d now.0 (node_low table heads nodes t home kept node rest before at d mid) (subst (λ n. IsOver n lit) (sym mid.fits.same_vars) over) stands apart mid.fits.watching);
        guarded = subst (AreGuarded t.entries t.read) (sym watches) (AreGuarded-move t.entries t.read (watches_of nodes) (length table.clauses) node lit d signs mid.fits.laws.read_within mid.fits.watching.two_each now.0 now.1 not_false mid.fits.guarded);
        reasons = mid.fits.reasons;
        unread_present = mid.fits.unread_present;
      };
      walk = walk;
      unread = mid.unread;
      at_hand = mid.at_hand;
      kept_true = λ m e found.
          let old : is_known (known_of t.entries) (get_or (watches_of nodes) (other_of m) e) ≡ true = mid.kept_true m e found in
          let elsewhere : other_of m ≢ node = λ same.
          let false_now = (node_false table heads nodes t home kept node rest before at e mid).1 in
          true_is_not_false (sym false_now ∙ signs (get_or (watches_of nodes) node e) (ap (λ n. is_known (known_of t.entries) (get_or (watches_of nodes) n e)) (sym same) ∙ old)) in
          ap (is_known (known_of t.entries)) (ap (λ ws. get_or ws (other_of m) e) watches ∙ get_or-set_other (watches_of nodes) node (other_of m) lit e elsewhere) ∙ old;
    }

-- the other watched literal is forced
pub mid_force : (table : PlacedClauses) (heads : List ℕ) (nodes : List Node) (t : TrailParts) (home : ℕ) (kept : List ℕ) (node : ℕ) (rest : List ℕ) (before : Option ℕ) (at : ℕ) (lit : Lit) (id : ClauseId) → ((d : Lit) → get_or (watches_of nodes) (other_of node) d ≡ lit) → number_of_place table (node / 2) ≡ id → IsOpen (known_of t.entries) lit → OthersFalse (known_of t.entries) (clause_at table (node / 2)) lit → IsMidWalk table heads nodes t home kept (node ∷ rest) before at → IsMidWalk table heads nodes (assigned t lit id) home (kept ++ node ∷ []) rest (Some node) (get_or (nexts_of nodes) node 0)
mid_force table heads nodes t home kept node rest before at lit id partner number is_open others mid =
    let e : Entry = record { lit = lit; reason = Some id; level = t.present } in
    let theirs = partner_at table heads nodes t home kept node rest before at lit mid in
    let over : IsOver t.vars lit = subst (IsOver t.vars) (partner lit) theirs.1.0 in
    let reason : IsReason (live_in table) (known_of t.entries) lit id = record {
      lits = clause_at table (node / 2);
      stands = ap (clause_of (live_in table)) (sym number) ∙ placed_clause table (number_of_place table (node / 2)) (node / 2) (node_live table heads nodes t home kept node rest before at mid);
      holds = subst (Contains (clause_at table (node / 2))) (partner lit) theirs.1.1;
      others_false = others;
    } in
    let pushed : List Entry = t.entries ++ e ∷ [] in
    let more : length pushed ≡ length t.entries + 1 = length_push t.entries e in
    let grown : known_of pushed ≡ known_of t.entries ++ lit ∷ [] = map_push (λ (x : Entry). x.lit) t.entries e in
    let stays : (l : Lit) → is_known (known_of t.entries) l ≡ true → is_known (known_of pushed) l ≡ true = λ l found. ap (λ k. is_known k l) grown ∙ (list_any-append (is_same l) (known_of t.entries) (lit ∷ []) ∙ ap (λ b. b || is_known (lit ∷ []) l) found) in
    let first : (d : Entry) → get_or pushed t.read d ≡ get_or t.entries t.read d = λ d. get_or_append_left t.entries (e ∷ []) d t.read mid.unread in
    record {
      fits = record {
        laws = IsTrail-push t e mid.fits.laws over is_open (omega arith) (omega arith) (λ none. absurd (cc)) (omega (arith, now_low t mid.fits.laws));
        placed = mid.fits.placed;
        same_vars = mid.fits.same_vars;
        room = mid.fits.room;
        few = mid.fits.few;
        watching = mid.fits.watching;
        guarded = AreGuarded-push t.entries t.read (watches_of nodes) e mid.fits.laws.read_within mid.fits.guarded;
        reasons = AreReasons-push (live_in table) t.entries e mid.fits.reasons reason;
        unread_present = λ k d from within. elim (cases_eq k (length t.entries)) [
          | inl here ↦ ap (λ x. x.level) (get_or_push t.entries e d k (sym here))
          | inr old ↦ let inside : k < length t.entries = omega (arith, within, more) in
              ap (λ x. x.level) (get_or_append_left t.entries (e ∷ []) d k inside) ∙ mid.fits.unread_present k d from inside
        ];
      };
      walk = walk_keep heads (nexts_of nodes) (homes_of (watches_of nodes)) home kept node rest before at mid.walk;
      unread = omega (arith, mid.unread, more);
      at_hand = λ d. ap (λ x. mark_place (negated x.lit)) (first d) ∙ mid.at_hand d;
      kept_true = λ m d found. elim (has-push_cases kept node m found) [
        | inl old ↦ stays (get_or (watches_of nodes) (other_of m) d) (mid.kept_true m d old)
        | inr new ↦
            let is : get_or (watches_of nodes) (other_of m) d ≡ (get_or pushed (length t.entries) e).lit = ap (λ n. get_or (watches_of nodes) (other_of n) d) new ∙ (partner d ∙ ap (λ (x : Entry). x.lit) (sym (get_or_push t.entries e e (length t.entries) refl))) in
            ap (is_known (known_of pushed)) is ∙ known-at_entry pushed (length t.entries) e (omega (arith, more))
      ];
    }

read_more : (t : TrailParts) → IsTrail t → t.read < length t.entries → IsTrail (record t { read = t.read + 1 })
read_more t laws unread = record {
  numbered = laws.numbered;
  in_range = laws.in_range;
  no_variable_twice = laws.no_variable_twice;
  read_within = omega (arith, unread);
  few = laws.few;
  levels_rise = laws.levels_rise;
  up_to_now = laws.up_to_now;
  decisions_begin = laws.decisions_begin;
  decided_above_zero = laws.decided_above_zero;
  levels_low = laws.levels_low;
  no_level_missing = laws.no_level_missing;
}

-- at the end of the chain the literal counts as read
pub mid_end : (table : PlacedClauses) (heads : List ℕ) (nodes : List Node) (t : TrailParts) (home : ℕ) (kept : List ℕ) (before : Option ℕ) (at : ℕ) → IsMidWalk table heads nodes t home kept [] before at → IsFitting table heads (watches_of nodes) (record t { read = t.read + 1 })
mid_end table heads nodes t home kept before at mid = record {
  laws = read_more t mid.fits.laws mid.unread;
  placed = mid.fits.placed;
  same_vars = mid.fits.same_vars;
  room = mid.fits.room;
  few = mid.fits.few;
  watching = mid.fits.watching;
  guarded = AreGuarded-read t.entries t.read (watches_of nodes) mid.fits.guarded (λ node d e inside is.
      let home_is : get_or (homes_of (watches_of nodes)) node 0 ≡ home = home_at (watches_of nodes) node d inside ∙ (ap mark_place (sym (negated-negated (get_or (watches_of nodes) node d)) ∙ ap negated (sym is)) ∙ mid.at_hand e) in
      let lives : lives_at (homes_of (watches_of nodes)) home node ≡ true = lives_here (homes_of (watches_of nodes)) home node (omega (arith, inside, length-map (watches_of nodes) mark_place)) home_is in
      let found : is_among kept node ≡ true = ap (λ ns. is_among ns node) (sym (append-nil kept)) ∙ (mid.walk.chain.exact node ∙ lives) in
      up_to-all (get_or t.entries t.read e).level t.entries (get_or (watches_of nodes) (other_of node) d)
      (λ k f within. omega (arith, mid.fits.laws.up_to_now k f within, mid.fits.unread_present t.read e (omega arith) mid.unread))
      (mid.kept_true node d found));
  reasons = mid.fits.reasons;
  unread_present = λ k d from within. mid.fits.unread_present k d (omega arith) within;
}
