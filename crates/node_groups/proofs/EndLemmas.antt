-- Ends in order, and which ends a list of segments has
use Rattle.std.proofs.Common.{◌≡◌, ℕ, zero, suc, ◌+◌, ◌<◌, ◌≤◌, ◌⊎◌, false, List, [], ◌∷◌, Some, Contains, length, get_or, refl, sym, ◌∙◌, subst, inl, inr, arith, add-one, add-zero, zero-add}
use Rattle.std.specs.declared.cmp.Ordering.{Ordering}
use Rattle.std.specs.Ordering.{MatchOrdering, ordering_then, is_lt, nat_cmp}
use Rattle.std.specs.declared.cmp.Ordering.TheVariants.{Less, Equal, Greater}
use Rattle.std.specs.List.{AllAdjacentBelow, AllByRecursion, slice_get}
use Rattle.std.specs.List.Sorted.{IsNonDecreasingBy, IsPermutation, IsSorted}
use Rattle.std.proofs.lemmas.Cmp.{ranked}
use Rattle.std.proofs.lemmas.Bool.{cases_eq}
use Rattle.std.proofs.lemmas.List.Elements.{All-contains, All-from_recursion}
use Rattle.std.proofs.lemmas.List.Sorted.{Contains-permutation, IsPermutation-sym}
use Rattle.node_groups.specs.declared.segments.Segment.{Segment}
use Rattle.node_groups.specs.declared.ends.End.{End}
use Rattle.node_groups.specs.Touch.{HasEnd}
use Rattle.node_groups.specs.Ends.{AreEndsOf, IsEndIn, end_at, ends_from, UpTo, IsInOrder, MeetAt}

same_end : (e f : End) → e.node ≡ f.node → e.part ≡ f.part → e.place ≡ f.place → e ≡ f
same_end e f node part place = λ i. record { node = node i; part = part i; place = place i }

up_to_by_cases : (a b x y : ℕ) (o n p : Ordering) → MatchOrdering o (a < b) (a ≡ b) (b < a) → MatchOrdering n (x < y) (x ≡ y) (y < x) → is_lt (ordering_then o (ordering_then n p)) ≡ false → (b < a) ⊎ ((b ≡ a) × (y ≤ x))
up_to_by_cases a b x y Less n p h k is = cc
up_to_by_cases a b x y Greater n p h k is = inl h
up_to_by_cases a b x y Equal Less p h k is = cc
up_to_by_cases a b x y Equal Equal p h k is = inr (sym h, omega arith)
up_to_by_cases a b x y Equal Greater p h k is = inr (sym h, omega arith)

-- from what a sort of the ends says of neighbours
up_to_from_cmp : (e f : End) → is_lt (ordering_then (nat_cmp f.node e.node) (ordering_then (nat_cmp f.part e.part) (nat_cmp f.place e.place))) ≡ false → UpTo e f
up_to_from_cmp e f is = up_to_by_cases f.node e.node f.part e.part _ _ _ (ranked f.node e.node _ refl) (ranked f.part e.part _ refl) is

-- what a sort of the ends ensures
pub IsInOrder_from_sort : (ends : List End) → IsSorted (λ e f. ordering_then (nat_cmp e.node f.node) (ordering_then (nat_cmp e.part f.part) (nat_cmp e.place f.place))) ends → IsInOrder ends
unfolding IsInOrder
IsInOrder_from_sort ends sorted k d below = up_to_from_cmp (get_or ends k d) (get_or ends (k + 1) d) (sorted k d (omega arith) below)

UpTo-trans : (e f g : End) → UpTo e f → UpTo f g → UpTo e g
UpTo-trans e f g (inl h) (inl k) = inl (omega arith)
UpTo-trans e f g (inl h) (inr (k, l)) = inl (omega arith)
UpTo-trans e f g (inr (h, m)) (inl k) = inl (omega arith)
UpTo-trans e f g (inr (h, m)) (inr (k, l)) = inr (h ∙ k, omega arith)

-- each end is up to every later one
pub up_to_far : (ends : List End) → IsInOrder ends → (i j : ℕ) (d : End) → i ≤ j → j < length ends → UpTo (get_or ends i d) (get_or ends j d)
unfolding IsInOrder
up_to_far ends order i zero d le lt = let e : i ≡ zero = omega arith in rw e (inr (refl, omega arith))
up_to_far ends order i (suc j) d le lt = elim (cases_eq i (suc j)) [
  | inl same ↦ rw same (inr (refl, omega arith))
  | inr other ↦
      let step : UpTo (get_or ends j d) (get_or ends (suc j) d) = subst (λ n. UpTo (get_or ends j d) (get_or ends n d)) (add-one j) (order j d (omega arith)) in
      UpTo-trans (get_or ends i d) (get_or ends j d) (get_or ends (suc j) d) (up_to_far ends order i j d (omega arith) (omega arith)) step
]

node_up : (e f : End) → UpTo e f → e.node ≤ f.node
node_up e f (inl h) = omega arith
node_up e f (inr (h, k)) = omega arith

-- ends in order are at rising nodes
pub nodes_rise : (ends : List End) → IsInOrder ends → IsNonDecreasingBy (λ e. e.node) ends
nodes_rise ends order i j d le lt = node_up (get_or ends i d) (get_or ends j d) (up_to_far ends order i j d le lt)

-- what stands between two ends at a node is at that node
between_node : (e f g : End) → UpTo e f → UpTo f g → e.node ≡ g.node → (e.node ≡ f.node) × (f.node ≡ g.node)
between_node e f g (inl h) (inl k) p = absurd (omega arith)
between_node e f g (inl h) (inr (k, l)) p = absurd (omega arith)
between_node e f g (inr (h, m)) (inl k) p = absurd (omega arith)
between_node e f g (inr (h, m)) (inr (k, l)) p = (h, k)

between_part : (e f g : End) → UpTo e f → UpTo f g → e.node ≡ g.node → e.part ≡ g.part → e.part ≡ f.part
between_part e f g (inl h) (inl k) p n = absurd (omega arith)
between_part e f g (inl h) (inr (k, l)) p n = absurd (omega arith)
between_part e f g (inr (h, m)) (inl k) p n = absurd (omega arith)
between_part e f g (inr (h, m)) (inr (k, l)) p n = omega arith

-- what stands between two ends that meet meets both
pub between_met : (barriers : List ℕ) (e f g : End) → UpTo e f → UpTo f g → MeetAt barriers e g → MeetAt barriers e f × MeetAt barriers f g
between_met barriers e f g before after meet =
    let nodes = between_node e f g before after meet.one_node in
    let part : e.part ≡ f.part = between_part e f g before after meet.one_node meet.one_part in (
      record { one_part = part; one_node = nodes.0; free = meet.free },
      record { one_part = sym part ∙ meet.one_part; one_node = nodes.1; free = λ barrier. meet.free (rw nodes.0 barrier) },
    )

-- what joins each two neighbours of a kind joins each two of that kind, where those between two of a kind are of that kind with both
module _ (Kind Joins : End → End → Type 0) (itself : (e : End) → Joins e e) (joins : (e f g : End) → Joins e f → Joins f g → Joins e g) (between : (e f g : End) → UpTo e f → UpTo f g → Kind e g → Kind e f × Kind f g) (ends : List End) (order : IsInOrder ends) (n : ℕ) (within : n ≤ length ends) (near : AllAdjacentBelow (λ e f. Kind e f → Joins e f) ends n) where
  pub joins_far : (i j : ℕ) (d : End) → i ≤ j → j < n → Kind (get_or ends i d) (get_or ends j d) → Joins (get_or ends i d) (get_or ends j d)
  joins_far i zero d le lt kind = let e : i ≡ zero = omega arith in rw e (itself (get_or ends zero d))
  joins_far i (suc j) d le lt kind = elim (cases_eq i (suc j)) [
    | inl same ↦ rw same (itself (get_or ends (suc j) d))
    | inr other ↦
        let both = between (get_or ends i d) (get_or ends j d) (get_or ends (suc j) d)
        (up_to_far ends order i j d (omega arith) (omega arith)) (up_to_far ends order j (suc j) d (omega arith) (omega arith)) kind in
        let next : Kind (get_or ends j d) (get_or ends (suc j) d) → Joins (get_or ends j d) (get_or ends (suc j) d) =
        subst (λ m. Kind (get_or ends j d) (get_or ends m d) → Joins (get_or ends j d) (get_or ends m d)) (add-one j) (near j d (omega arith)) in
        joins (get_or ends i d) (get_or ends j d) (get_or ends (suc j) d) (joins_far i j d (omega arith) (omega arith) both.0) (next both.1)
  ]

-- a fact of every end that a segment of the list has holds of all ends
pub ends_all : (Q : End → Type 0) (first : ℕ) (xs : List Segment) → ((k : ℕ) (s : Segment) (node : ℕ) → slice_get xs k ≡ Some s → HasEnd s node → Q (end_at node s.part (first + k))) → AllByRecursion Q (ends_from first xs)
ends_all Q first [] all = tt
ends_all Q first (s ∷ rest) all = (
  rw add-zero at (all 0 s s.low refl (inl refl)),
  (
    rw add-zero at (all 0 s s.high refl (inr refl)),
    ends_all Q (first + 1) rest (λ k t node is at_end.
        let e : first + suc k ≡ first + 1 + k = omega arith in rw e at (all (suc k) t node is at_end)),
  ),
)

contains_later : (x e : End) (xs : List End) → Contains xs e → Contains (x ∷ xs) e
contains_later x e xs (k, below, is) = (suc k, omega arith, is)

-- each end of each segment is among the ends
pub ends_contain : (first : ℕ) (xs : List Segment) (k : ℕ) (s : Segment) (node : ℕ) → slice_get xs k ≡ Some s → HasEnd s node → Contains (ends_from first xs) (end_at node s.part (first + k))
ends_contain first [] k s node is at_end = cc
ends_contain first (x ∷ rest) zero s node is (inl low) =
    let e : x ≡ s = cc in rw (← low, ← e, add-zero) (0, omega arith, refl)
ends_contain first (x ∷ rest) zero s node is (inr high) =
    let e : x ≡ s = cc in rw (← high, ← e, add-zero) (1, omega arith, refl)
ends_contain first (x ∷ rest) (suc k) s node is at_end =
    let e : first + suc k ≡ first + 1 + k = omega arith in
    rw e (contains_later (end_at x.low x.part first) (end_at node s.part (first + 1 + k)) (end_at x.high x.part first ∷ ends_from (first + 1) rest)
    (contains_later (end_at x.high x.part first) (end_at node s.part (first + 1 + k)) (ends_from (first + 1) rest) (ends_contain (first + 1) rest k s node is at_end)))

-- the ends of the segments, in whatever order, are their ends
pub ends_of_segments : (segments : List Segment) (ends : List End) → IsPermutation (ends_from 0 segments) ends → AreEndsOf segments ends
ends_of_segments segments ends same = record {
  each = λ e. (
    λ there. All-contains (IsEndIn segments) (ends_from 0 segments) e
        (All-from_recursion (IsEndIn segments) (ends_from 0 segments) (ends_all (IsEndIn segments) 0 segments
        (λ k s node is at_end. record { segment = s; is = rw zero-add is; part = refl; node = at_end })))
        (Contains-permutation ends (ends_from 0 segments) e (IsPermutation-sym (ends_from 0 segments) ends same) there),
    λ is. Contains-permutation (ends_from 0 segments) ends e same
        (subst (Contains (ends_from 0 segments)) (same_end (end_at e.node is.segment.part (0 + e.place)) e refl is.part (omega arith))
        (ends_contain 0 segments e.place is.segment e.node is.is is.node)),
  );
}
