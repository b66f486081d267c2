-- A node pushed behind the others, and the search for a node in its chain.
use Rattle.std.proofs.Common.{◌≡◌, ◌≢◌, ℕ, zero, suc, ◌+◌, ◌-◌, ◌^◌, ◌<◌, ◌≤◌, true, ◌||◌, inl, inr, List, [], ◌∷◌, ◌++◌, length, get_or, set, refl, ap, sym, subst, ◌∙◌, arith}
use Rattle.std.specs.Prelude.{nat_eq, Option, Some, None, AllPairs}
use Rattle.std.proofs.lemmas.Bool.{eq-eqb, eqb-true, or_cases}
use Rattle.std.proofs.Math.Bool.{or-true}
use Rattle.std.proofs.lemmas.List.{length-map, map_push, get_or-map, append_assoc}
use Rattle.sat_core.specs.declared.literal.Lit.{Lit}
use Rattle.sat_core.specs.Marks.{mark_place}
use Rattle.sat_core.proofs.OpenLaws.{distinct_below}
use Rattle.watch_store.specs.declared.node.Node.{Node}
use Rattle.watch_store.specs.Chains.{is_among, Once, IsLinkedChain, IsChainWalk, AreChained}
use Rattle.watch_store.specs.Watching.{watches_of, nexts_of, homes_of}
use Rattle.watch_store.proofs.ChainLemmas.{walk_start, walk_keep, kept_split, home_of, lives_here, lives_parts, true_is_not_false}
use Rattle.watch_store.proofs.PushLemmas.{AreChained-push}

pub chained_pushed : (heads heads' : List ℕ) (nodes nodes' : List Node) (watch : Lit) (n next : ℕ) → mark_place watch < length heads → length nodes < 2 ^ 32 - 1 → n ≡ length nodes → next ≡ get_or heads (mark_place watch) 0 → heads' ≡ set heads (mark_place watch) n → nodes' ≡ nodes ++ record { watch = watch; next = next } ∷ [] → AreChained heads (nexts_of nodes) (homes_of (watches_of nodes)) → AreChained heads' (nexts_of nodes') (homes_of (watches_of nodes'))
chained_pushed heads heads' nodes nodes' watch n next within room n_is next_is heads_is nodes_is chained =
    let homes : List ℕ = homes_of (watches_of nodes) in
    let homes_long : length homes ≡ length nodes = length-map (watches_of nodes) mark_place ∙ length-map nodes (λ (x : Node). x.watch) in
    let nexts_are : nexts_of nodes' ≡ nexts_of nodes ++ get_or heads (mark_place watch) 0 ∷ [] = ap nexts_of nodes_is ∙ (map_push (λ (x : Node). x.next) nodes (record { watch = watch; next = next }) ∙ ap (λ k. nexts_of nodes ++ k ∷ []) next_is) in
    let homes_are : homes_of (watches_of nodes') ≡ homes ++ mark_place watch ∷ [] = ap (λ ns. homes_of (watches_of ns)) nodes_is ∙ (ap homes_of (map_push (λ (x : Node). x.watch) nodes (record { watch = watch; next = next })) ∙ map_push mark_place (watches_of nodes) watch) in
    let heads_are : heads' ≡ set heads (mark_place watch) (length homes) = heads_is ∙ ap (set heads (mark_place watch)) (n_is ∙ sym homes_long) in
    rw (heads_are, nexts_are, homes_are) (AreChained-push heads (nexts_of nodes) homes (mark_place watch) within (omega (arith, homes_long)) chained)

pub watches_pushed : (nodes nodes' : List Node) (watch : Lit) (next : ℕ) → nodes' ≡ nodes ++ record { watch = watch; next = next } ∷ [] → watches_of nodes' ≡ watches_of nodes ++ watch ∷ []
watches_pushed nodes nodes' watch next is = ap watches_of is ∙ map_push (λ (x : Node). x.watch) nodes (record { watch = watch; next = next })

-- ---- the search
pub record IsFinding (heads nexts homes : List ℕ) (home node : ℕ) (before : Option ℕ) (at visited : ℕ) : Type 0 where
  pub kept : List ℕ
  pub rest : List ℕ
  pub walk : IsChainWalk heads nexts homes home kept rest before at
  pub still : is_among rest node ≡ true
  pub few : visited + length rest ≤ length homes

has_at : (nodes : List ℕ) (j d : ℕ) → j < length nodes → is_among nodes (get_or nodes j d) ≡ true
has_at [] j d within = absurd (omega arith)
has_at (n ∷ nodes) zero d within = ap (λ b. b || is_among nodes n) (eq-eqb n n refl)
has_at (n ∷ nodes) (suc j) d within = ap (λ b. nat_eq (get_or nodes j d) n || b) (has_at nodes j d (omega arith)) ∙ or-true (nat_eq (get_or nodes j d) n)

apart_from_once : (nodes : List ℕ) → Once nodes → AllPairs (λ a b. a ≢ b) nodes
apart_from_once [] once i j d low high = absurd (omega arith)
apart_from_once (n ∷ nodes) once zero zero d low high = absurd (omega arith)
apart_from_once (n ∷ nodes) once zero (suc j) d low high = λ same. true_is_not_false (sym (has_at nodes j d (omega arith)) ∙ (ap (is_among nodes) (sym same) ∙ once.0))
apart_from_once (n ∷ nodes) once (suc i) zero d low high = absurd (omega arith)
apart_from_once (n ∷ nodes) once (suc i) (suc j) d low high = apart_from_once nodes once.1 i j d (omega arith) (omega arith)

pub chain_short : (heads nexts homes : List ℕ) (home : ℕ) (nodes : List ℕ) → IsLinkedChain heads nexts homes home nodes → length nodes ≤ length homes
chain_short heads nexts homes home nodes chain = distinct_below nodes (length homes) (apart_from_once nodes chain.once)
    (λ k d within. (lives_parts homes home (get_or nodes k d) (sym (chain.exact (get_or nodes k d)) ∙ has_at nodes k d within)).0)

pub finding_start : (heads nexts homes : List ℕ) (home node : ℕ) → home < length heads → node < length homes → get_or homes node 0 ≡ home → AreChained heads nexts homes → IsFinding heads nexts homes home node None (get_or heads home 0) 0
finding_start heads nexts homes home node within inside lives chained =
    let start = walk_start heads nexts homes home within chained in
    record {
      kept = [];
      rest = start.0;
      walk = start.1;
      still = start.1.chain.exact node ∙ lives_here homes home node inside lives;
      few = omega (arith, chain_short heads nexts homes home start.0 start.1.chain);
    }

pub finding_found : (heads nexts homes : List ℕ) (home node : ℕ) (before : Option ℕ) (at visited : ℕ) → at ≡ node → IsFinding heads nexts homes home node before at visited → (kept : List ℕ) × (rest : List ℕ) × IsChainWalk heads nexts homes home kept (node ∷ rest) before node
finding_found heads nexts homes home node before at visited here finding = go finding.rest finding.walk finding.still where
  go : (rest : List ℕ) → IsChainWalk heads nexts homes home finding.kept rest before at → is_among rest node ≡ true → (kept : List ℕ) × (rest : List ℕ) × IsChainWalk heads nexts homes home kept (node ∷ rest) before node
  go [] walk still = absurd (cc)
  go (n ∷ rest) walk still = (finding.kept, rest, subst (λ k. IsChainWalk heads nexts homes home finding.kept (k ∷ rest) before node) (sym walk.to_come.0 ∙ here) (subst (λ k. IsChainWalk heads nexts homes home finding.kept (n ∷ rest) before k) here walk))

pub finding_at : (heads nexts homes : List ℕ) (home node : ℕ) (before : Option ℕ) (at visited : ℕ) → IsFinding heads nexts homes home node before at visited → (at < length homes) × (visited < length homes)
finding_at heads nexts homes home node before at visited finding = go finding.rest finding.walk finding.still finding.few where
  go : (rest : List ℕ) → IsChainWalk heads nexts homes home finding.kept rest before at → is_among rest node ≡ true → visited + length rest ≤ length homes → (at < length homes) × (visited < length homes)
  go [] walk still few = absurd (cc)
  go (n ∷ rest) walk still few = (omega (arith, walk.to_come.0, walk.to_come.1, walk.table.all_nodes), omega (arith, few))

pub finding_on : (heads nexts homes : List ℕ) (home node : ℕ) (before : Option ℕ) (at visited : ℕ) → at ≢ node → IsFinding heads nexts homes home node before at visited → IsFinding heads nexts homes home node (Some at) (get_or nexts at 0) (visited + 1)
finding_on heads nexts homes home node before at visited apart finding = go finding.rest finding.walk finding.still finding.few where
  go : (rest : List ℕ) → IsChainWalk heads nexts homes home finding.kept rest before at → is_among rest node ≡ true → visited + length rest ≤ length homes → IsFinding heads nexts homes home node (Some at) (get_or nexts at 0) (visited + 1)
  go [] walk still few = absurd (cc)
  go (n ∷ rest) walk still few =
      let is : n ≡ at = sym walk.to_come.0 in
      record {
        kept = finding.kept ++ n ∷ [];
        rest = rest;
        walk = subst (λ k. IsChainWalk heads nexts homes home (finding.kept ++ n ∷ []) rest (Some k) (get_or nexts k 0)) is (walk_keep heads nexts homes home finding.kept n rest before at walk);
        still = elim (or_cases (nat_eq node n) (is_among rest node) still) [
          | inl here ↦ absurd (apart (sym (eqb-true node n here ∙ is)))
          | inr later ↦ later
        ];
        few = omega (arith, few);
      }

pub homes_long : (nodes : List Node) → length (homes_of (watches_of nodes)) ≡ length nodes
homes_long nodes = length-map (watches_of nodes) mark_place ∙ length-map nodes (λ (x : Node). x.watch)

-- the home of a node, as it is read
pub home_read : (nodes : List Node) (node : ℕ) (d : Node) → node < length nodes → get_or (homes_of (watches_of nodes)) node 0 ≡ mark_place (get_or nodes node d).watch
home_read nodes node d within =
    get_or-map mark_place (watches_of nodes) node d.watch 0 (omega (arith, within, length-map nodes (λ (x : Node). x.watch)))
    ∙ ap mark_place (get_or-map (λ (x : Node). x.watch) nodes node d d.watch within)

-- the node before another one in a walk
pub before_within : (heads : List ℕ) (nodes : List Node) (home : ℕ) (kept : List ℕ) (node : ℕ) (rest : List ℕ) (before : Option ℕ) (at b : ℕ) → before ≡ Some b → IsChainWalk heads (nexts_of nodes) (homes_of (watches_of nodes)) home kept (node ∷ rest) before at → b < length nodes
before_within heads nodes home kept node rest before at b is walk =
    let split = kept_split kept b (sym is ∙ walk.last) in
    let whole : kept ++ node ∷ rest ≡ split.0 ++ b ∷ node ∷ rest = ap (λ k. k ++ node ∷ rest) split.1 ∙ append_assoc split.0 (b ∷ []) (node ∷ rest) in
    let here = home_of heads (nexts_of nodes) (homes_of (watches_of nodes)) home split.0 b (node ∷ rest) (subst (IsLinkedChain heads (nexts_of nodes) (homes_of (watches_of nodes)) home) whole walk.chain) in
    omega (arith, here.0, homes_long nodes)
