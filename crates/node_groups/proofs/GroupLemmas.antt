-- From ends that meet to the groups of segments that touch
use Rattle.std.proofs.Common.{◌≡◌, ℕ, ◌+◌, ◌-◌, ◌<◌, ◌≤◌, List, ◌++◌, take, drop, true, false, IsTrue, Contains, length, get_or, refl, sym, ap, ◌∙◌, inl, inr, arith}
use Rattle.std.specs.List.{AllAdjacentBelow}
use Rattle.std.proofs.lemmas.List.{get_or_past, get_or_default, take_at}
use Rattle.std.proofs.lemmas.List.Elements.{Contains-get_or}
use Rattle.std.proofs.lemmas.List.Sorted.{all_adjacent_more}
use Rattle.std.proofs.lemmas.Bool.{cases_lt}
use Rattle.node_groups.specs.declared.ends.End.{End}
use Rattle.node_groups.specs.Reach.{Reaches}
use Rattle.node_groups.specs.Forest.{IsForest, HasParent, AreRoots, AreAllRoots, Joined, JoinsAlike, AddsPair, WithPair, JoinsBy, IsParentOrChild}
use Rattle.node_groups.specs.Ends.{IsInOrder, MeetAt, Shares}
use Rattle.node_groups.specs.Groups.{GroupsByReach, NamedByLowest}
use Rattle.node_groups.proofs.ReachLaws.{Reaches-refl, Reaches-step, Reaches-keeps, Reaches-within}
use Rattle.node_groups.proofs.ForestLaws.{Joined-refl, Joined-sym, Joined-trans, Joined-parent, Joined-within}
use Rattle.node_groups.proofs.EndLemmas.{between_met, joins_far}

-- what was joined still is, once a pair was added
pub joined_kept : (p q : List ℕ) (a b i j : ℕ) → AddsPair p q a b → Joined p i j → Joined q i j
unfolding AddsPair WithPair
joined_kept p q a b i j adds h = (adds i j).1 (Reaches-step (WithPair (Joined p) a b) i j (inl h))

-- the pair that was added is joined
pub joined_pair : (p q : List ℕ) (a b : ℕ) → AddsPair p q a b → Joined q a b
unfolding AddsPair WithPair
joined_pair p q a b adds = (adds a b).1 (Reaches-step (WithPair (Joined p) a b) a b (inr (inl (refl, refl))))

Shares-back : (ends : List End) (barriers : List ℕ) (i j : ℕ) → Shares ends barriers i j → Shares ends barriers j i
unfolding Shares
Shares-back ends barriers i j (e, f, e_in, f_in, e_at, f_at, meet) =
    (f, e, f_in, e_in, f_at, e_at, record { one_part = sym meet.one_part; one_node = sym meet.one_node; free = λ at. meet.free (rw meet.one_node at) })

Shares-meet : (ends : List End) (barriers : List ℕ) (e f : End) → Contains ends e → Contains ends f → MeetAt barriers e f → Shares ends barriers e.place f.place
unfolding Shares
Shares-meet ends barriers e f e_in f_in meet = (e, f, e_in, f_in, refl, refl, meet)

-- no tree holds what ends don't join
pub sound_more : (ends : List End) (barriers p q : List ℕ) (e f : End) → AddsPair p q e.place f.place → Contains ends e → Contains ends f → MeetAt barriers e f → ((i j : ℕ) → Joined p i j → Reaches (Shares ends barriers) i j) → (i j : ℕ) → Joined q i j → Reaches (Shares ends barriers) i j
unfolding AddsPair WithPair
sound_more ends barriers p q e f adds e_in f_in meet sound i j h =
    Reaches-within (WithPair (Joined p) e.place f.place) (Shares ends barriers) each i j ((adds i j).0 h)
  where
    here : Shares ends barriers e.place f.place
    here = Shares-meet ends barriers e f e_in f_in meet

    each : (x y : ℕ) → WithPair (Joined p) e.place f.place x y → Reaches (Shares ends barriers) x y
    each x y (inl h) = sound x y h
    each x y (inr (inl (x_is, y_is))) = rw (x_is, y_is) (Reaches-step (Shares ends barriers) e.place f.place here)
    each x y (inr (inr (x_is, y_is))) = rw (x_is, y_is) (Reaches-step (Shares ends barriers) f.place e.place (Shares-back ends barriers e.place f.place here))

-- where each item is a root, an item is joined with itself alone
pub sound_first : (p : List ℕ) (R : ℕ → ℕ → Type 0) → AreAllRoots p → ((x y : ℕ) → R x y → R y x) → (i j : ℕ) → Joined p i j → Reaches R i j
sound_first p R roots back i j h =
    Joined-within p R back (λ x y up. let e : y ≡ x = sym up.is ∙ roots x up.within in rw e (Reaches-refl R x)) i j h

-- what the loop over the ends has joined below a place: trees hold only what ends join, and neighbours that meet stand in one tree
pub record JoinedSoFar (ends : List End) (barriers parents : List ℕ) (place : ℕ) : Type 0 where
  pub forest : IsForest parents
  pub sound : (i j : ℕ) → Joined parents i j → Reaches (Shares ends barriers) i j
  pub near : AllAdjacentBelow (λ e f. MeetAt barriers e f → Joined parents e.place f.place) ends place

module _ (ends : List End) (barriers : List ℕ) where
  pub so_far_first : (p : List ℕ) → AreAllRoots p → JoinedSoFar ends barriers p 1
  so_far_first p roots = record {
    forest = λ k below. omega (arith, roots k below);
    sound = sound_first p (Shares ends barriers) roots (Shares-back ends barriers);
    near = λ k d below. absurd (omega arith);
  }

  pub so_far_apart : (p : List ℕ) (n : ℕ) (d e : End) → JoinedSoFar ends barriers p n → 0 < n → n < length ends → (MeetAt barriers (get_or ends (n - 1) d) (get_or ends n e) → IsTrue false) → JoinedSoFar ends barriers p (n + 1)
  so_far_apart p n d e before above within apart = record {
    forest = before.forest;
    sound = before.sound;
    near = all_adjacent_more ends (λ e f. MeetAt barriers e f → Joined p e.place f.place) n above before.near
        (λ z meet. let never : false ≡ true = apart (rw (get_or_default ends (n - 1) d z (omega arith), get_or_default ends n e z within) meet) in cc);
  }

  pub so_far_joined : (p q : List ℕ) (n : ℕ) (d e : End) → JoinedSoFar ends barriers p n → 0 < n → n < length ends → MeetAt barriers (get_or ends (n - 1) d) (get_or ends n e) → IsForest q → AddsPair p q (get_or ends (n - 1) d).place (get_or ends n e).place → JoinedSoFar ends barriers q (n + 1)
  so_far_joined p q n d e before above within meet forest adds = record {
    forest = forest;
    sound = sound_more ends barriers p q (get_or ends (n - 1) d) (get_or ends n e) adds (Contains-get_or ends (n - 1) d (omega arith)) (Contains-get_or ends n e within) meet before.sound;
    near = all_adjacent_more ends (λ e f. MeetAt barriers e f → Joined q e.place f.place) n above
        (λ k z below met. joined_kept p q _ _ _ _ adds (before.near k z below met))
        (λ z met. rw (get_or_default ends (n - 1) z d (omega arith), get_or_default ends n z e within) (joined_pair p q _ _ adds));
  }

  -- all that meet stand in one tree
  pub joined_where_met : (p : List ℕ) → IsInOrder ends → AllAdjacentBelow (λ e f. MeetAt barriers e f → Joined p e.place f.place) ends (length ends) → (i j : ℕ) → Shares ends barriers i j → Joined p i j
  unfolding Shares
  joined_where_met p order near i j (e, f, (k, k_below, k_is), (m, m_below, m_is), e_at, f_at, meet) =
      let e_is : get_or ends k e ≡ e = k_is in
      let f_is : get_or ends m e ≡ f = get_or_default ends m e f m_below ∙ m_is in
      let back : MeetAt barriers f e = record { one_part = sym meet.one_part; one_node = sym meet.one_node; free = λ here. meet.free (rw meet.one_node here) } in
      rw (← e_at, ← f_at) (elim (cases_lt m k) [
        | inr upto ↦
            let far : Joined p (get_or ends k e).place (get_or ends m e).place =
            joins_far (MeetAt barriers) (λ e f. Joined p e.place f.place) (λ e. Joined-refl p e.place) (λ e f g. Joined-trans p e.place f.place g.place) (between_met barriers) ends order (length ends) (omega arith) near k m e upto m_below (rw (e_is, f_is) meet) in
            rw (e_is, f_is) at far
        | inl above ↦
            let far : Joined p (get_or ends m e).place (get_or ends k e).place =
            joins_far (MeetAt barriers) (λ e f. Joined p e.place f.place) (λ e. Joined-refl p e.place) (λ e f g. Joined-trans p e.place f.place g.place) (between_met barriers) ends order (length ends) (omega arith) near m k e (omega arith) k_below (rw (f_is, e_is) back) in
            Joined-sym p f.place e.place (rw (f_is, e_is) at far)
      ])

  pub so_far_last : (p : List ℕ) (n : ℕ) → JoinedSoFar ends barriers p n → length ends ≤ n → IsInOrder ends → JoinsBy p (Shares ends barriers)
  unfolding JoinsBy Joined
  so_far_last p n before all order i j = (
    before.sound i j,
    Reaches-within (Shares ends barriers) (IsParentOrChild p) (joined_where_met p order (λ k d below. before.near k d (omega arith))) i j,
  )

-- trees that hold the same items are joined by the same relation
pub JoinsBy_alike : (p q : List ℕ) (R : ℕ → ℕ → Type 0) → JoinsAlike p q → JoinsBy p R → JoinsBy q R
unfolding JoinsAlike JoinsBy
JoinsBy_alike p q R alike by i j = (λ h. (by i j).0 ((alike i j).0 h), λ h. (alike i j).1 ((by i j).1 h))

-- a flat forest in which trees hold what reaches each other
module _ (p : List ℕ) (R : ℕ → ℕ → Type 0) (forest : IsForest p) (roots : AreRoots p) (by : JoinsBy p R) where
  linked_same : (x y : ℕ) → HasParent p x y → get_or p x 0 ≡ get_or p y 0
  linked_same x y h =
      let at_parent : get_or p y 0 ≡ get_or p (get_or p x 0) 0 = ap (λ z. get_or p z 0) (sym h.is) in
      sym (roots x h.within).is ∙ sym at_parent

  joined_same : (i j : ℕ) → Joined p i j → get_or p i 0 ≡ get_or p j 0
  unfolding Joined IsParentOrChild
  joined_same i j h = Reaches-keeps (IsParentOrChild p) (λ x. get_or p i 0 ≡ get_or p x 0) each i j h refl
    where
      each : (x y : ℕ) → IsParentOrChild p x y → get_or p i 0 ≡ get_or p x 0 → get_or p i 0 ≡ get_or p y 0
      each x y (inl up) so_far = so_far ∙ linked_same x y up
      each x y (inr down) so_far = so_far ∙ sym (linked_same y x down)

  to_root : (i : ℕ) → i < length p → Joined p i (get_or p i 0)
  to_root i within = Joined-parent p i (get_or p i 0) (record { within = within; is = refl })

  same_joined : (i j : ℕ) → i < length p → j < length p → get_or p i 0 ≡ get_or p j 0 → Joined p i j
  same_joined i j i_in j_in same =
      let second : Joined p (get_or p i 0) j = rw same (Joined-sym p j (get_or p j 0) (to_root j j_in)) in
      Joined-trans p i (get_or p i 0) j (to_root i i_in) second

  no_higher : (k : ℕ) → get_or p k 0 ≤ k
  no_higher k = elim (cases_lt k (length p)) [
    | inl within ↦ forest k within
    | inr past ↦ rw (get_or_past p k 0 past) (omega arith)
  ]

  pub flat_same : GroupsByReach R p
  unfolding JoinsBy
  flat_same i j i_in j_in = (λ same. (by i j).0 (same_joined i j i_in j_in same), λ reached. joined_same i j ((by i j).1 reached))

  pub flat_lowest : NamedByLowest R p
  unfolding JoinsBy
  flat_lowest i within = record {
    reaches = (by (get_or p i 0) i).0 (Joined-sym p i (get_or p i 0) (to_root i within));
    lowest = λ k reached. let same : get_or p k 0 ≡ get_or p i 0 = joined_same k i ((by k i).1 reached) in omega (arith, no_higher k);
  }

-- what stands in a vector once its whole slice was written
pub written_back : (xs ys : List ℕ) (n : ℕ) → n ≡ length xs → take n (xs ++ drop (length xs) ys) ≡ xs
written_back xs ys n is = take_at xs (drop (length xs) ys) n (sym is)
