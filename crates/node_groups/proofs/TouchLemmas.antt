-- Ends of a list of segments meet where the segments touch
use Rattle.std.proofs.Common.{◌≡◌, ℕ, ◌<◌, List, Some, Contains, All, IsPermutation, length, refl, sym, ◌∙◌, get_or}
use Rattle.std.specs.List.{slice_get}
use Rattle.std.proofs.lemmas.Option.{slice_get_within}
use Rattle.std.proofs.lemmas.List.Elements.{Contains-get_or}
use Rattle.std.proofs.lemmas.List.Sorted.{Contains-permutation, IsPermutation-sym}
use Rattle.node_groups.specs.declared.segments.Segment.{Segment}
use Rattle.node_groups.specs.declared.ends.End.{End}
use Rattle.node_groups.specs.Reach.{Reaches}
use Rattle.node_groups.specs.Touch.{HasEnd, Touch}
use Rattle.node_groups.specs.Ends.{AreEndsOf, end_at, Shares}
use Rattle.node_groups.specs.Groups.{GroupsByReach, NamedByLowest}
use Rattle.node_groups.proofs.ReachLaws.{Reaches-step, Reaches-within}

-- groups by one relation are groups by another with the same steps
module _ (R S : ℕ → ℕ → Type 0) (forth : (i j : ℕ) → R i j → S i j) (back : (i j : ℕ) → S i j → R i j) where
  reach_forth : (i j : ℕ) → Reaches R i j → Reaches S i j
  reach_forth = Reaches-within R S (λ x y step. Reaches-step S x y (forth x y step))

  reach_back : (i j : ℕ) → Reaches S i j → Reaches R i j
  reach_back = Reaches-within S R (λ x y step. Reaches-step R x y (back x y step))

  pub GroupsByReach_along : (groups : List ℕ) → GroupsByReach R groups → GroupsByReach S groups
  GroupsByReach_along groups by i j i_in j_in = (λ same. reach_forth i j ((by i j i_in j_in).0 same), λ reached. (by i j i_in j_in).1 (reach_back i j reached))

  pub NamedByLowest_along : (groups : List ℕ) → NamedByLowest R groups → NamedByLowest S groups
  NamedByLowest_along groups by i within =
      let h = by i within in
      record { reaches = reach_forth _ i h.reaches; lowest = λ k reached. h.lowest k (reach_back k i reached) }

module _ (segments : List Segment) (ends : List End) (are : AreEndsOf segments ends) where
  pub ends_below : All (λ e. e.place < length segments) ends
  ends_below k d below =
      let e : End = get_or ends k d in
      let is = (are.each e).0 (Contains-get_or ends k d below) in
      slice_get_within segments e.place is.segment is.is

  pub ends_have : (k : ℕ) (s : Segment) (node : ℕ) → slice_get segments k ≡ Some s → HasEnd s node → Contains ends (end_at node s.part k)
  ends_have k s node is at_end = (are.each (end_at node s.part k)).1 (record { segment = s; is = is; part = refl; node = at_end })

  module _ (barriers sorted : List ℕ) (sort : IsPermutation barriers sorted) where
    pub touch_from_shares : (i j : ℕ) → Shares ends sorted i j → Touch segments barriers i j
    unfolding Shares
    touch_from_shares i j (e, f, e_in, f_in, e_at, f_at, meet) =
        let first = (are.each e).0 e_in in
        let second = (are.each f).0 f_in in
        record {
          first = first.segment;
          second = second.segment;
          node = e.node;
          at_first = rw (← e_at) first.is;
          at_second = rw (← f_at) second.is;
          one_part = first.part ∙ meet.one_part ∙ sym second.part;
          end_of_first = first.node;
          end_of_second = rw meet.one_node second.node;
          no_barrier = λ barrier. meet.free (Contains-permutation barriers sorted e.node sort barrier);
        }

    pub shares_from_touch : (i j : ℕ) → Touch segments barriers i j → Shares ends sorted i j
    unfolding Shares
    shares_from_touch i j touch = (
      end_at touch.node touch.first.part i,
      end_at touch.node touch.second.part j,
      ends_have i touch.first touch.node touch.at_first touch.end_of_first,
      ends_have j touch.second touch.node touch.at_second touch.end_of_second,
      refl,
      refl,
      record {
        one_part = touch.one_part;
        one_node = refl;
        free = λ barrier. touch.no_barrier (Contains-permutation sorted barriers touch.node (IsPermutation-sym barriers sorted sort) barrier);
      },
    )

    pub touch_groups : (groups : List ℕ) → GroupsByReach (Shares ends sorted) groups → GroupsByReach (Touch segments barriers) groups
    touch_groups = GroupsByReach_along (Shares ends sorted) (Touch segments barriers) touch_from_shares shares_from_touch

    pub touch_lowest : (groups : List ℕ) → NamedByLowest (Shares ends sorted) groups → NamedByLowest (Touch segments barriers) groups
    touch_lowest = NamedByLowest_along (Shares ends sorted) (Touch segments barriers) touch_from_shares shares_from_touch
