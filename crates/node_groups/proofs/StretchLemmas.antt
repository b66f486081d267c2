-- The ends at one node are a stretch of the ends in order.
use Rattle.std.proofs.Common.{◌≡◌, ℕ, ◌+◌, ◌-◌, ◌<◌, ◌≤◌, true, false, leb, ltb, List, Contains, length, get_or, take, drop, ap, ◌∙◌, subst, inl, inr, arith}
use Rattle.std.specs.List.Sorted.{IsNonDecreasingBy, IsPartitionPoint}
use Rattle.std.proofs.lemmas.Bool.{cases_lt}
use Rattle.std.proofs.lemmas.Bool.Decides.{nat_tests}
use Rattle.std.proofs.lemmas.List.{take-append-drop, get_or-take, get_or-drop, length-take-le, length-drop}
use Rattle.std.proofs.lemmas.List.Elements.{Contains-append_left, Contains-append_right}
use Rattle.node_groups.specs.declared.ends.End.{End}
use Rattle.node_groups.specs.Ends.{IsStretchAt}

pub below_from_tests : (es : List End) (n k : ℕ) → IsPartitionPoint (λ e. ltb e.node n ≡ true) (λ e. ltb e.node n ≡ false) es k →
    IsPartitionPoint (λ e. e.node < n) (λ e. n ≤ e.node) es k
below_from_tests es n k point = (
  λ i d low high. let t : ltb (get_or es i d).node n ≡ true = point.0 i d low high in grind (arith, nat_tests),
  λ i d low high. let t : ltb (get_or es i d).node n ≡ false = point.1 i d low high in grind (arith, nat_tests),
)

pub up_to_from_tests : (es : List End) (n k : ℕ) → IsPartitionPoint (λ e. leb e.node n ≡ true) (λ e. leb e.node n ≡ false) es k →
    IsPartitionPoint (λ e. e.node ≤ n) (λ e. n < e.node) es k
up_to_from_tests es n k point = (
  λ i d low high. let t : leb (get_or es i d).node n ≡ true = point.0 i d low high in grind (arith, nat_tests),
  λ i d low high. let t : leb (get_or es i d).node n ≡ false = point.1 i d low high in grind (arith, nat_tests),
)

-- what is left of ends at rising nodes is at rising nodes
pub rest_rises : (es : List End) (n : ℕ) → IsNonDecreasingBy (λ e. e.node) es → IsNonDecreasingBy (λ e. e.node) (drop n es)
rest_rises es n rising i j d le lt =
    let rest : length (drop n es) ≡ length es - n = length-drop n es in
    let first : (get_or (drop n es) i d).node ≡ (get_or es (n + i) d).node = ap (λ (e : End). e.node) (get_or-drop n es i d) in
    let second : (get_or (drop n es) j d).node ≡ (get_or es (n + j) d).node = ap (λ (e : End). e.node) (get_or-drop n es j d) in
    let rise : (get_or es (n + i) d).node ≤ (get_or es (n + j) d).node = rising (n + i) (n + j) d (omega arith) (omega arith) in
    omega arith

-- the part of a list between two points is the stretch of the node
module _ (es : List End) (n a b : ℕ) (a_in : a ≤ length es) (b_in : b ≤ length (drop a es))
    (below : IsPartitionPoint (λ e. e.node < n) (λ e. n ≤ e.node) es a)
    (up_to : IsPartitionPoint (λ e. e.node ≤ n) (λ e. n < e.node) (drop a es) b) where
  stretch_here : (k : ℕ) (d : End) → k < length (take b (drop a es)) → (get_or (take b (drop a es)) k d).node ≡ n
  stretch_here k d within =
      let long : length (take b (drop a es)) ≡ b = length-take-le b (drop a es) b_in in
      let rest : length (drop a es) ≡ length es - a = length-drop a es in
      let in_take : get_or (take b (drop a es)) k d ≡ get_or (drop a es) k d = get_or-take b (drop a es) k d (omega arith) in
      let in_drop : get_or (drop a es) k d ≡ get_or es (a + k) d = get_or-drop a es k d in
      let most : (get_or (drop a es) k d).node ≤ n = up_to.0 k d (omega arith) (omega arith) in
      let least : n ≤ (get_or es (a + k) d).node = below.1 (a + k) d (omega arith) (omega arith) in
      let same : (get_or (drop a es) k d).node ≡ (get_or es (a + k) d).node = ap (λ (e : End). e.node) in_drop in
      ap (λ (e : End). e.node) in_take ∙ omega arith

  stretch_some : (e : End) → Contains (take b (drop a es)) e → Contains es e
  stretch_some e there =
      let rest : Contains (drop a es) e = subst (λ xs. Contains xs e) (take-append-drop b (drop a es)) (Contains-append_left (take b (drop a es)) (drop b (drop a es)) e there) in
      subst (λ xs. Contains xs e) (take-append-drop a es) (Contains-append_right (take a es) (drop a es) e rest)

  stretch_all : (e : End) → Contains es e → e.node ≡ n → Contains (take b (drop a es)) e
  stretch_all e (k, within, is) at =
      let node : (get_or es k e).node ≡ n = ap (λ (e : End). e.node) is ∙ at in
      let rest : length (drop a es) ≡ length es - a = length-drop a es in
      let long : length (take b (drop a es)) ≡ b = length-take-le b (drop a es) b_in in
      let low : a ≤ k = elim (cases_lt k a) [ inl early ↦ absurd (let less : (get_or es k e).node < n = below.0 k e (omega arith) early in omega arith) | inr past ↦ past ] in
      let place : a + (k - a) ≡ k = omega arith in
      let in_drop : get_or (drop a es) (k - a) e ≡ get_or es k e = subst (λ m. get_or (drop a es) (k - a) e ≡ get_or es m e) place (get_or-drop a es (k - a) e) in
      let same : (get_or (drop a es) (k - a) e).node ≡ (get_or es k e).node = ap (λ (e : End). e.node) in_drop in
      let high : k - a < b = elim (cases_lt (k - a) b) [ inl under ↦ under | inr past ↦ absurd (let more : n < (get_or (drop a es) (k - a) e).node = up_to.1 (k - a) e past (omega arith) in omega arith) ] in
      (k - a, omega arith, get_or-take b (drop a es) (k - a) e high ∙ (in_drop ∙ is))

  pub stretch_at : IsStretchAt es n (take b (drop a es))
  stretch_at = record { here = stretch_here; some = stretch_some; all = stretch_all }
