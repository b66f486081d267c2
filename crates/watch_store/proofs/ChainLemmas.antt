-- Laws of chains: a link is written elsewhere, a node is cut out, a node is put in front, and the steps of a walk.
use Rattle.std.proofs.Common.{◌≡◌, ◌≢◌, ℕ, ◌<◌, Bool, true, false, ◌&&◌, ◌||◌, inl, inr, List, [], ◌∷◌, ◌++◌, length, get_or, set, refl, ap, sym, subst, ◌∙◌, arith}
use Rattle.std.specs.Prelude.{nat_eq, nat_lt, Option, Some, None}
use Rattle.std.proofs.lemmas.Bool.{cases_eq, eqb-true, eq-eqb, and_parts, ltb-true, lt-ltb}
use Rattle.std.proofs.lemmas.List.{length-set, get_or-set_same, get_or-set_other, append_assoc}
use Rattle.std.proofs.lemmas.List.Folds.{list_any-append}
use Rattle.std.proofs.Math.Bool.{or-true}
use Rattle.watch_store.specs.Chains.{IsLinked, is_among, Once, lives_at, IsLinkedChain, IsLinkTable, AreChained, last_or, last_kept, IsChainWalk}

-- ---- tests on numbers
pub apart-eqb : (a b : ℕ) → a ≢ b → nat_eq a b ≡ false
apart-eqb a b apart = elim (nat_eq a b) as (λ t. nat_eq a b ≡ t → t ≡ false) [
  | true ↦ λ same. absurd (apart (eqb-true a b same))
  | false ↦ λ _. refl
] refl

pub true_is_not_false : true ≡ false → ⊥
true_is_not_false same = cc

eqb-apart : (a b : ℕ) → nat_eq a b ≡ false → a ≢ b
eqb-apart a b test same = true_is_not_false (sym (eq-eqb a b same) ∙ test)

both_false : (a b : Bool) → (a || b) ≡ false → (a ≡ false) × (b ≡ false)
both_false true b never = absurd (cc)
both_false false b is = (refl, is)

either_false : (a b : Bool) → a ≡ false → b ≡ false → (a || b) ≡ false
either_false a b one other = ap (λ x. x || b) one ∙ other

-- ---- membership
pub has-append : (xs ys : List ℕ) (n : ℕ) → is_among (xs ++ ys) n ≡ (is_among xs n || is_among ys n)
has-append xs ys n = list_any-append (nat_eq n) xs ys

-- a link elsewhere leaves the chain
pub IsLinked-frame : (nexts : List ℕ) (at : ℕ) (nodes : List ℕ) (n v : ℕ) → is_among nodes n ≡ false → IsLinked nexts at nodes → IsLinked (set nexts n v) at nodes
IsLinked-frame nexts at [] n v out end = end
IsLinked-frame nexts at (node ∷ nodes) n v out chain =
    let parts = both_false (nat_eq n node) (is_among nodes n) out in
    let same : get_or (set nexts n v) node 0 ≡ get_or nexts node 0 = get_or-set_other nexts n node v 0 (λ here. eqb-apart n node parts.0 (sym here)) in
    (chain.0, omega (arith, length-set nexts n v, chain.1), subst (λ a. IsLinked (set nexts n v) a nodes) (sym same) (IsLinked-frame nexts (get_or nexts node 0) nodes n v parts.1 chain.2))

-- from a node within a chain the rest of it is linked
pub IsLinked-from : (nexts : List ℕ) (at : ℕ) (front : List ℕ) (node : ℕ) (rest : List ℕ) → IsLinked nexts at (front ++ node ∷ rest) → (node < length nexts) × IsLinked nexts (get_or nexts node 0) rest
IsLinked-from nexts at [] node rest chain = (chain.1, chain.2)
IsLinked-from nexts at (f ∷ front) node rest chain = IsLinked-from nexts (get_or nexts f 0) front node rest chain.2

Once-tail : (front rest : List ℕ) → Once (front ++ rest) → Once rest
Once-tail [] rest once = once
Once-tail (f ∷ front) rest once = Once-tail front rest once.1

-- a node taken out of a list without repetition
pub Once-out : (front : List ℕ) (node : ℕ) (rest : List ℕ) → Once (front ++ node ∷ rest) → Once (front ++ rest) × (is_among (front ++ rest) node ≡ false)
Once-out [] node rest once = (once.1, once.0)
Once-out (f ∷ front) node rest once =
    let inner = Once-out front node rest once.1 in
    let out : (is_among front f || (nat_eq f node || is_among rest f)) ≡ false = sym (has-append front (node ∷ rest) f) ∙ once.0 in
    let one = both_false (is_among front f) (nat_eq f node || is_among rest f) out in
    let two = both_false (nat_eq f node) (is_among rest f) one.1 in (
      (has-append front rest f ∙ either_false (is_among front f) (is_among rest f) one.0 two.1, inner.0),
      either_false (nat_eq node f) (is_among (front ++ rest) node) (apart-eqb node f (λ same. eqb-apart f node two.0 (sym same))) inner.1,
    )

-- the other nodes stay members
pub has-out : (front : List ℕ) (node : ℕ) (rest : List ℕ) (n : ℕ) → n ≢ node → is_among (front ++ rest) n ≡ is_among (front ++ node ∷ rest) n
has-out [] node rest n apart = ap (λ t. t || is_among rest n) (sym (apart-eqb n node apart))
has-out (f ∷ front) node rest n apart = ap (λ t. nat_eq n f || t) (has-out front node rest n apart)

-- the node behind `before` is cut out of the chain
pub IsLinked-cut : (nexts : List ℕ) (at : ℕ) (front : List ℕ) (before node : ℕ) (rest : List ℕ) → Once (front ++ before ∷ node ∷ rest) → IsLinked nexts at (front ++ before ∷ node ∷ rest) → IsLinked (set nexts before (get_or nexts node 0)) at (front ++ before ∷ rest)
IsLinked-cut nexts at [] before node rest once chain =
    let v : ℕ = get_or nexts node 0 in
    let out : is_among rest before ≡ false = (both_false (nat_eq before node) (is_among rest before) once.0).1 in (
      chain.0,
      omega (arith, length-set nexts before v, chain.1),
      subst (λ a. IsLinked (set nexts before v) a rest) (sym (get_or-set_same nexts before v 0 chain.1)) (IsLinked-frame nexts v rest before v out chain.2.2),
    )
IsLinked-cut nexts at (f ∷ front) before node rest once chain =
    let v : ℕ = get_or nexts node 0 in
    let out : (is_among front f || (nat_eq f before || is_among (node ∷ rest) f)) ≡ false = sym (has-append front (before ∷ node ∷ rest) f) ∙ once.0 in
    let apart : f ≢ before = eqb-apart f before (both_false (nat_eq f before) (is_among (node ∷ rest) f) (both_false (is_among front f) (nat_eq f before || is_among (node ∷ rest) f) out).1).0 in
    let same : get_or (set nexts before v) f 0 ≡ get_or nexts f 0 = get_or-set_other nexts before f v 0 apart in (
      chain.0,
      omega (arith, length-set nexts before v, chain.1),
      subst (λ a. IsLinked (set nexts before v) a (front ++ before ∷ rest)) (sym same) (IsLinked-cut nexts (get_or nexts f 0) front before node rest once.1 chain.2),
    )

-- a node is put in front
pub IsLinked-front : (nexts : List ℕ) (head : ℕ) (nodes : List ℕ) (node : ℕ) → node < length nexts → is_among nodes node ≡ false → IsLinked nexts head nodes → IsLinked (set nexts node head) node (node ∷ nodes)
IsLinked-front nexts head nodes node within out chain = (
  refl,
  omega (arith, length-set nexts node head),
  subst (λ a. IsLinked (set nexts node head) a nodes) (sym (get_or-set_same nexts node head 0 within)) (IsLinked-frame nexts head nodes node head out chain),
)

-- ---- homes
and-false : (b : Bool) → (b && false) ≡ false
and-false true = refl
and-false false = refl

lives_elsewhere : (homes : List ℕ) (home node : ℕ) → get_or homes node 0 ≢ home → lives_at homes home node ≡ false
lives_elsewhere homes home node apart = ap (λ t. nat_lt node (length homes) && t) (apart-eqb (get_or homes node 0) home apart) ∙ and-false (nat_lt node (length homes))

pub lives_here : (homes : List ℕ) (home node : ℕ) → node < length homes → get_or homes node 0 ≡ home → lives_at homes home node ≡ true
lives_here homes home node within same = ap (λ t. t && nat_eq (get_or homes node 0) home) (lt-ltb node (length homes) within) ∙ eq-eqb (get_or homes node 0) home same

-- another node's home is as it was
lives-set_other : (homes : List ℕ) (node to home n : ℕ) → n ≢ node → lives_at (set homes node to) home n ≡ lives_at homes home n
lives-set_other homes node to home n apart =
    ap (λ k. nat_lt n k && nat_eq (get_or (set homes node to) n 0) home) (length-set homes node to)
    ∙ ap (λ h. nat_lt n (length homes) && nat_eq h home) (get_or-set_other homes node n to 0 apart)

pub lives_parts : (homes : List ℕ) (home node : ℕ) → lives_at homes home node ≡ true → (node < length homes) × (get_or homes node 0 ≡ home)
lives_parts homes home node lives =
    let parts = and_parts (nat_lt node (length homes)) (nat_eq (get_or homes node 0) home) lives in
    (ltb-true node (length homes) parts.0, eqb-true (get_or homes node 0) home parts.1)

has_self : (front : List ℕ) (node : ℕ) (rest : List ℕ) → is_among (front ++ node ∷ rest) node ≡ true
has_self front node rest = has-append front (node ∷ rest) node ∙ (ap (λ t. is_among front node || (t || is_among rest node)) (eq-eqb node node refl) ∙ or-true (is_among front node))

-- the node of a chain lives at its home
pub home_of : (heads nexts homes : List ℕ) (home : ℕ) (front : List ℕ) (node : ℕ) (rest : List ℕ) → IsLinkedChain heads nexts homes home (front ++ node ∷ rest) → (node < length homes) × (get_or homes node 0 ≡ home)
home_of heads nexts homes home front node rest chain = lives_parts homes home node (sym (chain.exact node) ∙ has_self front node rest)

not_in_other : (heads nexts homes : List ℕ) (home other node : ℕ) (nodes : List ℕ) → get_or homes node 0 ≡ home → other ≢ home → IsLinkedChain heads nexts homes other nodes → is_among nodes node ≡ false
not_in_other heads nexts homes home other node nodes here apart chain = chain.exact node ∙ lives_elsewhere homes other node (λ same. apart (sym same ∙ here))

last_or-push : (n : ℕ) (nodes : List ℕ) (node : ℕ) → last_or n (nodes ++ node ∷ []) ≡ node
last_or-push n [] node = refl
last_or-push n (m ∷ nodes) node = last_or-push m nodes node

last_kept-push : (nodes : List ℕ) (node : ℕ) → last_kept (nodes ++ node ∷ []) ≡ Some node
last_kept-push [] node = refl
last_kept-push (n ∷ nodes) node = ap (λ k. Some k) (last_or-push n nodes node)

-- a list with a last element
split_last : (n : ℕ) (nodes : List ℕ) → (front : List ℕ) × (n ∷ nodes ≡ front ++ last_or n nodes ∷ [])
split_last n [] = ([], refl)
split_last n (m ∷ nodes) = let inner = split_last m nodes in (n ∷ inner.0, ap (λ ns. n ∷ ns) inner.1)

pub kept_split : (kept : List ℕ) (before : ℕ) → Some before ≡ last_kept kept → (front : List ℕ) × (kept ≡ front ++ before ∷ [])
kept_split [] before is = absurd (cc)
kept_split (n ∷ kept) before is =
    let inner = split_last n kept in
    let same : last_or n kept ≡ before = cc in
    (inner.0, inner.1 ∙ ap (λ k. inner.0 ++ k ∷ []) same)

pub none_kept : (kept : List ℕ) → None ≡ last_kept kept → kept ≡ []
none_kept [] is = refl
none_kept (n ∷ kept) is = absurd (cc)

-- ---- the steps of a walk
pub walk_start : (heads nexts homes : List ℕ) (home : ℕ) → home < length heads → AreChained heads nexts homes → (rest : List ℕ) × IsChainWalk heads nexts homes home [] rest None (get_or heads home 0)
walk_start heads nexts homes home within chained =
    let here = chained.chains home within in (
      here.0,
      record {
        table = chained.table;
        home_within = within;
        chain = here.1;
        to_come = here.1.linked;
        last = refl;
        others = λ other inside apart. chained.chains other inside;
      },
    )

pub walk_end : (heads nexts homes : List ℕ) (home : ℕ) (kept rest : List ℕ) (before : Option ℕ) (at : ℕ) → IsChainWalk heads nexts homes home kept rest before at → AreChained heads nexts homes
walk_end heads nexts homes home kept rest before at walk = record {
  table = walk.table;
  chains = λ other within. elim (cases_eq other home) [
    | inl here ↦ (kept ++ rest, subst (λ h. IsLinkedChain heads nexts homes h (kept ++ rest)) (sym here) walk.chain)
    | inr apart ↦ walk.others other within apart
  ];
}

-- where the walk stands
pub walk_at : (heads nexts homes : List ℕ) (home : ℕ) (kept : List ℕ) (node : ℕ) (rest : List ℕ) (before : Option ℕ) (at : ℕ) → IsChainWalk heads nexts homes home kept (node ∷ rest) before at → (at ≡ node) × (node < length homes) × (get_or homes node 0 ≡ home)
walk_at heads nexts homes home kept node rest before at walk =
    let here = home_of heads nexts homes home kept node rest walk.chain in
    (walk.to_come.0, here.0, here.1)

pub walk_keep : (heads nexts homes : List ℕ) (home : ℕ) (kept : List ℕ) (node : ℕ) (rest : List ℕ) (before : Option ℕ) (at : ℕ) → IsChainWalk heads nexts homes home kept (node ∷ rest) before at → IsChainWalk heads nexts homes home (kept ++ node ∷ []) rest (Some node) (get_or nexts node 0)
walk_keep heads nexts homes home kept node rest before at walk = record {
  table = walk.table;
  home_within = walk.home_within;
  chain = subst (IsLinkedChain heads nexts homes home) (sym (append_assoc kept (node ∷ []) rest)) walk.chain;
  to_come = walk.to_come.2;
  last = sym (last_kept-push kept node);
  others = walk.others;
}

-- the chains where a node has been cut out of its own and is in none
record IsUnlinked (heads nexts homes : List ℕ) (home : ℕ) (kept rest : List ℕ) (node after : ℕ) : Type 0 where
  table : IsLinkTable heads nexts homes
  home_within : home < length heads
  within : node < length homes
  here : get_or homes node 0 ≡ home
  linked : IsLinked nexts (get_or heads home 0) (kept ++ rest)
  to_come : IsLinked nexts after rest
  once : Once (kept ++ rest)
  out : is_among (kept ++ rest) node ≡ false
  exact : (n : ℕ) → is_among (kept ++ node ∷ rest) n ≡ lives_at homes home n
  others : (other : ℕ) → other < length heads → other ≢ home → (nodes : List ℕ) × IsLinkedChain heads nexts homes other nodes

unlink_first : (heads nexts homes : List ℕ) (home node : ℕ) (rest : List ℕ) (before : Option ℕ) (at : ℕ) → IsChainWalk heads nexts homes home [] (node ∷ rest) before at → IsUnlinked (set heads home (get_or nexts node 0)) nexts homes home [] rest node (get_or nexts node 0)
unlink_first heads nexts homes home node rest before at walk =
    let after : ℕ = get_or nexts node 0 in
    let here = home_of heads nexts homes home [] node rest walk.chain in
    let long : length (set heads home after) ≡ length heads = length-set heads home after in
    record {
      table = record { all_nodes = walk.table.all_nodes; few_nodes = walk.table.few_nodes; all_homes = λ n within. omega (arith, walk.table.all_homes n within) };
      home_within = omega (arith, walk.home_within);
      within = here.0;
      here = here.1;
      linked = subst (λ a. IsLinked nexts a rest) (sym (get_or-set_same heads home after 0 walk.home_within)) walk.to_come.2;
      to_come = walk.to_come.2;
      once = walk.chain.once.1;
      out = walk.chain.once.0;
      exact = walk.chain.exact;
      others = λ other within apart.
          let old = walk.others other (omega (arith, within)) apart in (
            old.0,
            record {
              linked = subst (λ a. IsLinked nexts a old.0) (sym (get_or-set_other heads home other after 0 apart)) old.1.linked;
              once = old.1.once;
              exact = old.1.exact;
            },
          );
    }

unlink_later : (heads nexts homes : List ℕ) (home : ℕ) (front : List ℕ) (b node : ℕ) (rest : List ℕ) (before : Option ℕ) (at : ℕ) → IsChainWalk heads nexts homes home (front ++ b ∷ []) (node ∷ rest) before at → IsUnlinked heads (set nexts b (get_or nexts node 0)) homes home (front ++ b ∷ []) rest node (get_or nexts node 0)
unlink_later heads nexts homes home front b node rest before at walk =
    let after : ℕ = get_or nexts node 0 in
    let kept : List ℕ = front ++ b ∷ [] in
    let whole : kept ++ node ∷ rest ≡ front ++ b ∷ node ∷ rest = append_assoc front (b ∷ []) (node ∷ rest) in
    let left : kept ++ rest ≡ front ++ b ∷ rest = append_assoc front (b ∷ []) rest in
    let chain : IsLinkedChain heads nexts homes home (front ++ b ∷ node ∷ rest) = subst (IsLinkedChain heads nexts homes home) whole walk.chain in
    let here = home_of heads nexts homes home kept node rest walk.chain in
    let b_here = home_of heads nexts homes home front b (node ∷ rest) chain in
    let long : length (set nexts b after) ≡ length nexts = length-set nexts b after in
    let out = Once-out kept node rest walk.chain.once in
    let b_out : is_among rest b ≡ false = (both_false (nat_eq b node) (is_among rest b) (Once-tail front (b ∷ node ∷ rest) chain.once).0).1 in
    record {
      table = record { all_nodes = long ∙ walk.table.all_nodes; few_nodes = walk.table.few_nodes; all_homes = walk.table.all_homes };
      home_within = walk.home_within;
      within = here.0;
      here = here.1;
      linked = subst (IsLinked (set nexts b after) (get_or heads home 0)) (sym left) (IsLinked-cut nexts (get_or heads home 0) front b node rest chain.once chain.linked);
      to_come = IsLinked-frame nexts after rest b after b_out walk.to_come.2;
      once = out.0;
      out = out.1;
      exact = walk.chain.exact;
      others = λ other within apart.
          let old = walk.others other within apart in (
            old.0,
            record {
              linked = IsLinked-frame nexts (get_or heads other 0) old.0 b after (not_in_other heads nexts homes home other b old.0 b_here.1 apart old.1) old.1.linked;
              once = old.1.once;
              exact = old.1.exact;
            },
          );
    }

-- the node is put in front of another chain
link_front : (heads nexts homes : List ℕ) (home : ℕ) (kept rest : List ℕ) (before : Option ℕ) (node after to : ℕ) → to < length heads → to ≢ home → before ≡ last_kept kept → IsUnlinked heads nexts homes home kept rest node after → IsChainWalk (set heads to node) (set nexts node (get_or heads to 0)) (set homes node to) home kept rest before after
link_front heads nexts homes home kept rest before node after to to_within to_apart last un =
    let head : ℕ = get_or heads to 0 in
    let heads' : List ℕ = set heads to node in
    let nexts' : List ℕ = set nexts node head in
    let homes' : List ℕ = set homes node to in
    let long_heads : length heads' ≡ length heads = length-set heads to node in
    let long_nexts : length nexts' ≡ length nexts = length-set nexts node head in
    let long_homes : length homes' ≡ length homes = length-set homes node to in
    let node_at : get_or homes' node 0 ≡ to = get_or-set_same homes node to 0 un.within in
    let rest_out : is_among rest node ≡ false = (both_false (is_among kept node) (is_among rest node) (sym (has-append kept rest node) ∙ un.out)).1 in
    record {
      table = record {
        all_nodes = long_nexts ∙ (un.table.all_nodes ∙ sym long_homes);
        few_nodes = omega (arith, un.table.few_nodes);
        all_homes = λ n within. elim (cases_eq n node) [
          | inl same ↦ subst (λ h. h < length heads') (sym (ap (λ k. get_or homes' k 0) same ∙ node_at)) (omega (arith, to_within))
          | inr apart ↦ subst (λ h. h < length heads') (sym (get_or-set_other homes node n to 0 apart)) (omega (arith, un.table.all_homes n (omega (arith, within))))
        ];
      };
      home_within = omega (arith, un.home_within);
      chain = record {
        linked = subst (λ a. IsLinked nexts' a (kept ++ rest)) (sym (get_or-set_other heads to home node 0 (λ same. to_apart (sym same)))) (IsLinked-frame nexts (get_or heads home 0) (kept ++ rest) node head un.out un.linked);
        once = un.once;
        exact = λ n. elim (cases_eq n node) [
          | inl same ↦ ap (is_among (kept ++ rest)) same ∙ (un.out ∙ sym (lives_elsewhere homes' home n (λ is. to_apart (sym node_at ∙ (ap (λ k. get_or homes' k 0) (sym same) ∙ is)))))
          | inr apart ↦ has-out kept node rest n apart ∙ (un.exact n ∙ sym (lives-set_other homes node to home n apart))
        ];
      };
      to_come = IsLinked-frame nexts after rest node head rest_out un.to_come;
      last = last;
      others = λ other within apart. elim (cases_eq other to) [
        | inl here ↦
            let old = un.others to to_within to_apart in
            let fresh : is_among old.0 node ≡ false = not_in_other heads nexts homes home to node old.0 un.here to_apart old.1 in (
              node ∷ old.0,
              subst (λ h. IsLinkedChain heads' nexts' homes' h (node ∷ old.0)) (sym here) (record {
                linked = subst (λ a. IsLinked nexts' a (node ∷ old.0)) (sym (get_or-set_same heads to node 0 to_within)) (IsLinked-front nexts head old.0 node (omega (arith, un.within, un.table.all_nodes)) fresh old.1.linked);
                once = (fresh, old.1.once);
                exact = λ n. elim (cases_eq n node) [
                  | inl same ↦ ap (λ t. t || is_among old.0 n) (eq-eqb n node same) ∙ sym (lives_here homes' to n (omega (arith, un.within, long_homes, same)) (ap (λ k. get_or homes' k 0) same ∙ node_at))
                  | inr different ↦ ap (λ t. t || is_among old.0 n) (apart-eqb n node different) ∙ (old.1.exact n ∙ sym (lives-set_other homes node to to n different))
                ];
              }),
            )
        | inr elsewhere ↦
            let old = un.others other (omega (arith, within)) apart in
            let fresh : is_among old.0 node ≡ false = not_in_other heads nexts homes home other node old.0 un.here apart old.1 in (
              old.0,
              record {
                linked = subst (λ a. IsLinked nexts' a old.0) (sym (get_or-set_other heads to other node 0 elsewhere)) (IsLinked-frame nexts (get_or heads other 0) old.0 node head fresh old.1.linked);
                once = old.1.once;
                exact = λ n. elim (cases_eq n node) [
                  | inl same ↦ ap (is_among old.0) same ∙ (fresh ∙ sym (lives_elsewhere homes' other n (λ is. elsewhere (sym is ∙ (ap (λ k. get_or homes' k 0) same ∙ node_at)))))
                  | inr different ↦ old.1.exact n ∙ sym (lives-set_other homes node to other n different)
                ];
              },
            )
      ];
    }

-- A node is moved in mid-walk to the front of another home's chain. No node was kept before it:
pub walk_move_first : (heads nexts homes : List ℕ) (home : ℕ) (kept : List ℕ) (node : ℕ) (rest : List ℕ) (at to : ℕ) → to < length heads → to ≢ home → IsChainWalk heads nexts homes home kept (node ∷ rest) None at → IsChainWalk (set (set heads home (get_or nexts node 0)) to node) (set nexts node (get_or heads to 0)) (set homes node to) home kept rest None (get_or nexts node 0)
walk_move_first heads nexts homes home kept node rest at to within apart walk =
    let none : kept ≡ [] = none_kept kept walk.last in
    let after : ℕ = get_or nexts node 0 in
    let start : IsChainWalk heads nexts homes home [] (node ∷ rest) None at = subst (λ k. IsChainWalk heads nexts homes home k (node ∷ rest) None at) none walk in
    let heads1 : List ℕ = set heads home after in
    let head : get_or heads1 to 0 ≡ get_or heads to 0 = get_or-set_other heads home to after 0 apart in
    let moved : IsChainWalk (set heads1 to node) (set nexts node (get_or heads1 to 0)) (set homes node to) home [] rest None after =
    link_front heads1 nexts homes home [] rest None node after to (omega (arith, within, length-set heads home after)) apart refl (unlink_first heads nexts homes home node rest None at start) in
    subst (λ k. IsChainWalk (set heads1 to node) (set nexts node (get_or heads to 0)) (set homes node to) home k rest None after) (sym none)
    (subst (λ h. IsChainWalk (set heads1 to node) (set nexts node h) (set homes node to) home [] rest None after) head moved)

-- the node `b` was kept last:
pub walk_move_later : (heads nexts homes : List ℕ) (home : ℕ) (kept : List ℕ) (b node : ℕ) (rest : List ℕ) (at to : ℕ) → to < length heads → to ≢ home → IsChainWalk heads nexts homes home kept (node ∷ rest) (Some b) at → IsChainWalk (set heads to node) (set (set nexts b (get_or nexts node 0)) node (get_or heads to 0)) (set homes node to) home kept rest (Some b) (get_or nexts node 0)
walk_move_later heads nexts homes home kept b node rest at to within apart walk =
    let split = kept_split kept b walk.last in
    let start : IsChainWalk heads nexts homes home (split.0 ++ b ∷ []) (node ∷ rest) (Some b) at = subst (λ k. IsChainWalk heads nexts homes home k (node ∷ rest) (Some b) at) split.1 walk in
    subst (λ k. IsChainWalk (set heads to node) (set (set nexts b (get_or nexts node 0)) node (get_or heads to 0)) (set homes node to) home k rest (Some b) (get_or nexts node 0)) (sym split.1)
    (link_front heads (set nexts b (get_or nexts node 0)) homes home (split.0 ++ b ∷ []) rest (Some b) node (get_or nexts node 0) to within apart (sym (last_kept-push split.0 b)) (unlink_later heads nexts homes home split.0 b node rest (Some b) at start))
