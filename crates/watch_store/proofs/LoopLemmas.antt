-- The loop along a chain: how it begins, goes on and ends.
use Rattle.std.proofs.Common.{◌≡◌, ℕ, suc, ◌+◌, ◌*◌, ◌/◌, ◌<◌, ◌≤◌, true, ◌⊎◌, inl, inr, List, [], ◌∷◌, ◌++◌, length, get_or, refl, ap, sym, subst, ◌∙◌, arith}
use Rattle.std.specs.Prelude.{Option, Some, None}
use Rattle.std.proofs.lemmas.List.{length-map, get_or_default}
use Rattle.sat_core.specs.declared.literal.Lit.{Lit}
use Rattle.sat_core.specs.declared.literal.ClauseId.{ClauseId}
use Rattle.sat_core.specs.Clauses.{negated, IsOver}
use Rattle.sat_core.specs.Hints.{clause_of}
use Rattle.sat_core.specs.Marks.{mark_place}
use Rattle.sat_core.proofs.LiteralLaws.{negated-negated}
use Rattle.sat_core.proofs.MarkLaws.{mark_within}
use Rattle.search_trail.specs.declared.entry.Entry.{Entry}
use Rattle.search_trail.specs.Trails.{TrailParts, Grows, AreFalse, known_of}
use Rattle.search_trail.proofs.TrailLaws.{Grows-none, Grows-on}
use Rattle.conflict_learn.specs.Learning.{IsConflict}
use Rattle.watch_store.specs.declared.node.Node.{Node}
use Rattle.watch_store.specs.Places.{PlacedClauses, live_in, clause_at, number_of_place}
use Rattle.watch_store.specs.Chains.{IsLinkedChain}
use Rattle.watch_store.specs.Watching.{watches_of, nexts_of, homes_of, holders}
use Rattle.watch_store.specs.Walking.{IsMidWalk, IsStore}
use Rattle.watch_store.proofs.ChainLemmas.{walk_start, walk_end}
use Rattle.watch_store.proofs.CountLemmas.{chain_length}
use Rattle.watch_store.proofs.FindLemmas.{chain_short}
use Rattle.watch_store.proofs.PlaceLemmas.{placed_clause}
use Rattle.watch_store.proofs.WalkLemmas.{node_watch, node_low, node_live, mid_end}

pub record IsWalking (table : PlacedClauses) (heads : List ℕ) (nodes : List Node) (first t : TrailParts) (home : ℕ) (before : Option ℕ) (at visited from steps : ℕ) : Type 0 where
  pub lit : Lit
  pub is_lit : (d : Entry) → (get_or first.entries first.read d).lit ≡ lit
  pub kept : List ℕ
  pub rest : List ℕ
  pub mid : IsMidWalk table heads nodes t home kept rest before at
  pub few : visited + length rest ≤ holders (live_in table) (negated lit)
  pub short : visited + length rest ≤ 2 * length table.clauses
  pub ticks : steps ≡ from + visited
  pub grows : Grows first t
  pub read : t.read ≡ first.read

pub Grows-read : (a b : TrailParts) (n : ℕ) → Grows a b → Grows a (record b { read = n })
Grows-read a b n grows = record { vars = grows.vars; present = grows.present; more = grows.more; entries = grows.entries; at_present = grows.at_present }

pub walking_start : (table : PlacedClauses) (heads : List ℕ) (nodes : List Node) (t : TrailParts) (lit falsified : Lit) (home from : ℕ) → IsStore table heads nodes t → t.read < length t.entries → ((d : Entry) → (get_or t.entries t.read d).lit ≡ lit) → falsified ≡ negated lit → home ≡ mark_place falsified → IsWalking table heads nodes t t home None (get_or heads home 0) 0 from from
walking_start table heads nodes t lit falsified home from store unread at is_false is_home =
    let d : Entry = record { lit = lit; reason = None; level = 0 } in
    let over : IsOver t.vars lit = subst (IsOver t.vars) (at d) (store.fits.laws.in_range t.read d unread) in
    let over' : IsOver t.vars falsified = subst (IsOver t.vars) (sym is_false) over in
    let within : home < length heads = omega (arith, mark_within t.vars falsified over', is_home, store.fits.room) in
    let start = walk_start heads (nexts_of nodes) (homes_of (watches_of nodes)) home within store.chained in
    record {
      lit = lit;
      is_lit = at;
      kept = [];
      rest = start.0;
      mid = record {
        fits = store.fits;
        walk = start.1;
        unread = unread;
        at_hand = λ e. ap (λ l. mark_place (negated l)) (at e) ∙ (ap mark_place (sym is_false) ∙ sym is_home);
        kept_true = λ node e found. absurd (cc);
      };
      few =
          let all : length start.0 ≤ holders (live_in table) falsified = chain_length table heads (nexts_of nodes) (watches_of nodes) start.0 falsified store.fits.watching (subst (λ n. IsOver n falsified) (sym store.fits.same_vars) over') (subst (λ h. IsLinkedChain heads (nexts_of nodes) (homes_of (watches_of nodes)) h start.0) is_home start.1.chain) in
          subst (λ l. 0 + length start.0 ≤ holders (live_in table) l) is_false (omega (arith, all));
      short = omega (arith, chain_short heads (nexts_of nodes) (homes_of (watches_of nodes)) home start.0 start.1.chain, length-map (watches_of nodes) mark_place, store.fits.watching.two_each);
      ticks = omega arith;
      grows = Grows-none t;
      read = refl;
    }

-- the node at which the walk stands, if the link leads to one
pub walking_at : (table : PlacedClauses) (heads : List ℕ) (nodes : List Node) (first t : TrailParts) (home : ℕ) (before : Option ℕ) (at visited from steps : ℕ) → at < length nodes → (walking : IsWalking table heads nodes first t home before at visited from steps) → (kept : List ℕ) × (rest : List ℕ) × IsMidWalk table heads nodes t home kept (at ∷ rest) before at × (visited + suc (length rest) ≤ holders (live_in table) (negated walking.lit)) × (visited + suc (length rest) ≤ 2 * length table.clauses)
walking_at table heads nodes first t home before at visited from steps within walking =
    go walking.rest walking.mid walking.few walking.short where
      go : (rest : List ℕ) → IsMidWalk table heads nodes t home walking.kept rest before at → visited + length rest ≤ holders (live_in table) (negated walking.lit) → visited + length rest ≤ 2 * length table.clauses → (kept : List ℕ) × (rest : List ℕ) × IsMidWalk table heads nodes t home kept (at ∷ rest) before at × (visited + suc (length rest) ≤ holders (live_in table) (negated walking.lit)) × (visited + suc (length rest) ≤ 2 * length table.clauses)
      go [] mid few short = absurd (omega (arith, within, mid.walk.to_come, mid.walk.table.few_nodes, length-map (watches_of nodes) mark_place, length-map nodes (λ (n : Node). n.watch)))
      go (node ∷ rest) mid few short = (walking.kept, rest, subst (λ n. IsMidWalk table heads nodes t home walking.kept (n ∷ rest) before at) (sym mid.walk.to_come.0) mid, few, short)

pub walking_here : (table : PlacedClauses) (heads heads' : List ℕ) (nodes nodes' : List Node) (first t t' : TrailParts) (home : ℕ) (before : Option ℕ) (at after visited from steps steps' : ℕ) → at < length nodes → ((kept rest : List ℕ) → IsMidWalk table heads nodes t home kept (at ∷ rest) before at → IsMidWalk table heads' nodes' t' home (kept ++ at ∷ []) rest (Some at) after) → Grows t t' → t'.read ≡ t.read → steps' ≡ steps + 1 → IsWalking table heads nodes first t home before at visited from steps → IsWalking table heads' nodes' first t' home (Some at) after (visited + 1) from steps'
walking_here table heads heads' nodes nodes' first t t' home before at after visited from steps steps' within tells grows read tick walking =
    let here = walking_at table heads nodes first t home before at visited from steps within walking in
    record {
      lit = walking.lit;
      is_lit = walking.is_lit;
      kept = here.0 ++ at ∷ [];
      rest = here.1;
      mid = tells here.0 here.1 here.2;
      few = omega (arith, here.3);
      short = omega (arith, here.4);
      ticks = omega (arith, walking.ticks, tick);
      grows = Grows-on first t t' walking.grows grows;
      read = read ∙ walking.read;
    }

pub walking_gone : (table : PlacedClauses) (heads heads' : List ℕ) (nodes nodes' : List Node) (first t t' : TrailParts) (home : ℕ) (before : Option ℕ) (at after visited from steps steps' : ℕ) → at < length nodes → ((kept rest : List ℕ) → IsMidWalk table heads nodes t home kept (at ∷ rest) before at → IsMidWalk table heads' nodes' t' home kept rest before after) → Grows t t' → t'.read ≡ t.read → steps' ≡ steps + 1 → IsWalking table heads nodes first t home before at visited from steps → IsWalking table heads' nodes' first t' home before after (visited + 1) from steps'
walking_gone table heads heads' nodes nodes' first t t' home before at after visited from steps steps' within tells grows read tick walking =
    let here = walking_at table heads nodes first t home before at visited from steps within walking in
    record {
      lit = walking.lit;
      is_lit = walking.is_lit;
      kept = here.0;
      rest = here.1;
      mid = tells here.0 here.1 here.2;
      few = omega (arith, here.3);
      short = omega (arith, here.4);
      ticks = omega (arith, walking.ticks, tick);
      grows = Grows-on first t t' walking.grows grows;
      read = read ∙ walking.read;
    }

-- the chain is walked to its end
pub walking_end : (table : PlacedClauses) (heads : List ℕ) (nodes : List Node) (first t : TrailParts) (home : ℕ) (before : Option ℕ) (at visited from steps : ℕ) → (length nodes ≤ at) ⊎ (length nodes ≤ visited) → IsWalking table heads nodes first t home before at visited from steps → IsStore table heads nodes (record t { read = t.read + 1 })
walking_end table heads nodes first t home before at visited from steps over walking =
    go walking.rest walking.mid walking.short where
      long : length (nexts_of nodes) ≡ length nodes
      long = length-map nodes (λ (n : Node). n.next)

      go : (rest : List ℕ) → IsMidWalk table heads nodes t home walking.kept rest before at → visited + length rest ≤ 2 * length table.clauses → IsStore table heads nodes (record t { read = t.read + 1 })
      go [] mid short = record {
        fits = mid_end table heads nodes t home walking.kept before at mid;
        chained = walk_end heads (nexts_of nodes) (homes_of (watches_of nodes)) home walking.kept [] before at mid.walk;
      }
      go (node ∷ rest) mid short = absurd (elim over [
        | inl outside ↦ omega (arith, outside, mid.walk.to_come.0, mid.walk.to_come.1, long)
        | inr all ↦ omega (arith, all, short, mid.fits.watching.two_each, length-map nodes (λ (n : Node). n.watch))
      ])

-- the walk stops at a false clause
pub walking_stop : (table : PlacedClauses) (heads : List ℕ) (nodes : List Node) (t : TrailParts) (home : ℕ) (kept rest : List ℕ) (before : Option ℕ) (at : ℕ) → IsMidWalk table heads nodes t home kept rest before at → IsStore table heads nodes t
walking_stop table heads nodes t home kept rest before at mid = record {
  fits = mid.fits;
  chained = walk_end heads (nexts_of nodes) (homes_of (watches_of nodes)) home kept rest before at mid.walk;
}

pub step_ready : (table : PlacedClauses) (heads : List ℕ) (nodes : List Node) (first t : TrailParts) (home : ℕ) (before : Option ℕ) (at visited from steps : ℕ) → at < length nodes → IsWalking table heads nodes first t home before at visited from steps → (kept : List ℕ) × (rest : List ℕ) × IsMidWalk table heads nodes t home kept (at ∷ rest) before at
step_ready table heads nodes first t home before at visited from steps within walking =
    let here = walking_at table heads nodes first t home before at visited from steps within walking in (here.0, here.1, here.2)

-- the literal that became false, and its chain
pub falsified_in : (table : PlacedClauses) (heads : List ℕ) (nodes : List Node) (t : TrailParts) (place : ℕ) (lit falsified : Lit) → IsStore table heads nodes t → t.read < length t.entries → place ≡ t.read → ((d : Entry) → (get_or t.entries place d).lit ≡ lit) → falsified ≡ negated lit → IsOver t.vars falsified × (mark_place falsified < length heads)
falsified_in table heads nodes t place lit falsified store unread is at is_false =
    let d : Entry = record { lit = lit; reason = None; level = 0 } in
    let over : IsOver t.vars lit = subst (IsOver t.vars) (ap (λ n. (get_or t.entries n d).lit) (sym is) ∙ at d) (store.fits.laws.in_range t.read d unread) in
    let over' : IsOver t.vars falsified = subst (IsOver t.vars) (sym is_false) over in
    (over', omega (arith, mark_within t.vars falsified over', store.fits.room))

pub walking_ticks : (table : PlacedClauses) (heads : List ℕ) (nodes : List Node) (first t : TrailParts) (home : ℕ) (before : Option ℕ) (at visited from steps : ℕ) (d : Entry) → IsWalking table heads nodes first t home before at visited from steps → steps ≤ from + holders (live_in table) (negated (get_or first.entries first.read d).lit)
walking_ticks table heads nodes first t home before at visited from steps d walking =
    subst (λ l. steps ≤ from + holders (live_in table) (negated l)) (sym (walking.is_lit d)) (omega (arith, walking.few, walking.ticks))

pub walking_ticked : (table : PlacedClauses) (heads : List ℕ) (nodes : List Node) (first t : TrailParts) (home : ℕ) (before : Option ℕ) (at visited from steps steps' : ℕ) (d : Entry) → at < length nodes → steps' ≡ steps + 1 → IsWalking table heads nodes first t home before at visited from steps → steps' ≤ from + holders (live_in table) (negated (get_or first.entries first.read d).lit)
walking_ticked table heads nodes first t home before at visited from steps steps' d within tick walking =
    let here = walking_at table heads nodes first t home before at visited from steps within walking in
    subst (λ l. steps' ≤ from + holders (live_in table) (negated l)) (sym (walking.is_lit d)) (omega (arith, here.3, walking.ticks, tick))

-- a false clause that holds the literal at hand is a conflict
conflict_at : (table : PlacedClauses) (heads : List ℕ) (nodes : List Node) (t : TrailParts) (home : ℕ) (kept : List ℕ) (node : ℕ) (rest : List ℕ) (before : Option ℕ) (at : ℕ) (id : ClauseId) → number_of_place table (node / 2) ≡ id → AreFalse (known_of t.entries) (clause_at table (node / 2)) → IsMidWalk table heads nodes t home kept (node ∷ rest) before at → IsConflict (live_in table) t id
conflict_at table heads nodes t home kept node rest before at id number all_false mid =
    let d : Lit = record { var = record { 0 = 0 }; positive = true } in
    let e : Entry = record { lit = d; reason = None; level = 0 } in
    let now = node_watch table heads nodes t home kept node rest before at d mid in
    let stands = mid.fits.watching.stand node d now.0 (node_low table heads nodes t home kept node rest before at d mid) in
    let entry : Entry = get_or t.entries t.read e in
    let lit : entry.lit ≡ negated (get_or (watches_of nodes) node d) = sym (ap negated (now.1 e) ∙ negated-negated entry.lit) in
    record {
      lits = clause_at table (node / 2);
      stands = ap (clause_of (live_in table)) (sym number) ∙ placed_clause table (number_of_place table (node / 2)) (node / 2) (node_live table heads nodes t home kept node rest before at mid);
      all_false = all_false;
      at_present = λ above. (stands.0, get_or (watches_of nodes) node d, stands.1, stands.2, (t.read, entry, mid.unread, get_or_default t.entries t.read entry e mid.unread, (lit, mid.fits.unread_present t.read e (omega arith) mid.unread)));
    }

pub walking_conflict : (table : PlacedClauses) (heads heads' : List ℕ) (nodes nodes' : List Node) (first t t' : TrailParts) (home : ℕ) (before : Option ℕ) (at visited from steps : ℕ) (id : ClauseId) → at < length nodes → number_of_place table (at / 2) ≡ id → ((kept rest : List ℕ) → IsMidWalk table heads nodes t home kept (at ∷ rest) before at → IsMidWalk table heads' nodes' t' home kept (at ∷ rest) before at × AreFalse (known_of t'.entries) (clause_at table (at / 2))) → IsWalking table heads nodes first t home before at visited from steps → IsStore table heads' nodes' t' × IsConflict (live_in table) t' id
walking_conflict table heads heads' nodes nodes' first t t' home before at visited from steps id within number tells walking =
    let here = walking_at table heads nodes first t home before at visited from steps within walking in
    let left = tells here.0 here.1 here.2 in
    (walking_stop table heads' nodes' t' home here.0 (at ∷ here.1) before at left.0, conflict_at table heads' nodes' t' home here.0 at here.1 before at id number left.1 left.0)

-- the place of the node at which the walk stands
pub walking_place : (table : PlacedClauses) (heads : List ℕ) (nodes : List Node) (first t : TrailParts) (home : ℕ) (before : Option ℕ) (at visited from steps : ℕ) → at < length nodes → IsWalking table heads nodes first t home before at visited from steps → at / 2 < length table.clauses
walking_place table heads nodes first t home before at visited from steps within walking = omega (arith, within, walking.mid.fits.watching.two_each, length-map nodes (λ (n : Node). n.watch))
