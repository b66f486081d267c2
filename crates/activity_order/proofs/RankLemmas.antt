-- The ranks at the places of a heap, when two places exchange what stands there, and when one score grows.
use Rattle.std.proofs.Common.{◌≡◌, ◌≢◌, ℕ, ◌+◌, ◌-◌, ◌*◌, ◌^◌, ◌<◌, ◌≤◌, inl, inr, List, length, get_or, set, ap, sym, subst, ◌∙◌, arith}
use Rattle.std.proofs.lemmas.Bool.{cases_eq}
use Rattle.std.proofs.lemmas.List.{get_or-set_same, get_or-set_other, length-set}
use Rattle.activity_order.specs.Scores.{rank}
use Rattle.activity_order.specs.Heaps.{IsChild, IsOrdered, IsOrderedBut, IsOrderedBelow, rank_at}
use Rattle.activity_order.proofs.SiftLemmas.{up_step, down_step, not_top, below}

-- ---- two places exchange what stands there
pub exchanged_first : (heap : List ℕ) (one other : ℕ) → one < length heap → other < length heap → get_or (set (set heap one (get_or heap other 0)) other (get_or heap one 0)) one 0 ≡ get_or heap other 0
exchanged_first heap one other within within' = elim (cases_eq one other) [
  | inl same ↦
      ap (λ k. get_or (set (set heap one (get_or heap other 0)) other (get_or heap one 0)) k 0) same
      ∙ (get_or-set_same (set heap one (get_or heap other 0)) other (get_or heap one 0) 0 (omega (arith, length-set heap one (get_or heap other 0), within')) ∙ ap (λ k. get_or heap k 0) same)
  | inr apart ↦ get_or-set_other (set heap one (get_or heap other 0)) other one (get_or heap one 0) 0 apart ∙ get_or-set_same heap one (get_or heap other 0) 0 within
]

pub exchanged_second : (heap : List ℕ) (one other : ℕ) → other < length heap → get_or (set (set heap one (get_or heap other 0)) other (get_or heap one 0)) other 0 ≡ get_or heap one 0
exchanged_second heap one other within = get_or-set_same (set heap one (get_or heap other 0)) other (get_or heap one 0) 0 (omega (arith, length-set heap one (get_or heap other 0), within))

pub exchanged_other : (heap : List ℕ) (one other k : ℕ) → k ≢ one → k ≢ other → get_or (set (set heap one (get_or heap other 0)) other (get_or heap one 0)) k 0 ≡ get_or heap k 0
exchanged_other heap one other k not_one not_other = get_or-set_other (set heap one (get_or heap other 0)) other k (get_or heap one 0) 0 not_other ∙ get_or-set_other heap one k (get_or heap other 0) 0 not_one

pub up_exchanged : (scores heap later : List ℕ) (size at parent : ℕ) → size ≤ length heap → IsChild parent at → at < size → rank scores (get_or heap parent 0) < rank scores (get_or heap at 0) → later ≡ set (set heap at (get_or heap parent 0)) parent (get_or heap at 0) → IsOrderedBut (rank_at scores heap) size at → IsOrderedBut (rank_at scores later) size parent
up_exchanged scores heap later size at parent all child within higher is ordered =
    let low : parent < length heap = omega (arith, below parent at child, within, all) in
    up_step (rank_at scores heap) (rank_at scores later) size at parent child within higher
    (ap (rank scores) (ap (λ l. get_or l at 0) is ∙ exchanged_first heap at parent (omega (arith, within, all)) low))
    (ap (rank scores) (ap (λ l. get_or l parent 0) is ∙ exchanged_second heap at parent low))
    (λ k not_at not_parent. ap (rank scores) (ap (λ l. get_or l k 0) is ∙ exchanged_other heap at parent k not_at not_parent))
    ordered

pub down_exchanged : (scores heap later : List ℕ) (size at child : ℕ) → size ≤ length heap → IsChild at child → child < size → ((k : ℕ) → IsChild at k → k < size → rank_at scores heap k ≤ rank_at scores heap child) → rank scores (get_or heap at 0) < rank scores (get_or heap child 0) → later ≡ set (set heap at (get_or heap child 0)) child (get_or heap at 0) → IsOrderedBelow (rank_at scores heap) size at → IsOrderedBelow (rank_at scores later) size child
down_exchanged scores heap later size at child all is_child within greater higher is ordered =
    let low : at < length heap = omega (arith, below at child is_child, within, all) in
    let high : child < length heap = omega (arith, within, all) in
    down_step (rank_at scores heap) (rank_at scores later) size at child is_child within greater higher
    (ap (rank scores) (ap (λ l. get_or l at 0) is ∙ exchanged_first heap at child low high))
    (ap (rank scores) (ap (λ l. get_or l child 0) is ∙ exchanged_second heap at child high))
    (λ k not_at not_child. ap (rank scores) (ap (λ l. get_or l k 0) is ∙ exchanged_other heap at child k not_at not_child))
    ordered

-- the last one goes to the top, and one fewer are in order
pub shrunk : (scores heap later : List ℕ) (last size : ℕ) → size ≡ last + 1 → later ≡ set (set heap 0 (get_or heap last 0)) last (get_or heap 0 0) → IsOrdered (rank_at scores heap) size → IsOrderedBelow (rank_at scores later) last 0
shrunk scores heap later last size long is ordered = record {
  others = λ p k c short apart.
      omega (arith, same k short (λ e. not_top p (subst (IsChild p) e c)), same p (omega (arith, below p k c, short)) apart, ordered p k c (omega (arith, long, short)));
  across = λ p k top c short. absurd (not_top p top);
} where
  same : (k : ℕ) → k < last → k ≢ 0 → rank_at scores later k ≡ rank_at scores heap k
  same k short apart = ap (rank scores) (ap (λ l. get_or l k 0) is ∙ exchanged_other heap 0 last k apart (λ e. omega (arith, e, short)))

-- another one comes to the end, and one more are in order but for it
pub grown : (scores heap later : List ℕ) (at size : ℕ) → size ≤ at → later ≡ set (set heap at (get_or heap size 0)) size (get_or heap at 0) → IsOrdered (rank_at scores heap) size → IsOrderedBut (rank_at scores later) (size + 1) size
grown scores heap later at size outside is ordered = record {
  others = λ p k c short apart.
      let low : k < size = omega (arith, short, apart) in
      omega (arith, same k low, same p (omega (arith, below p k c, low)), ordered p k c low);
  across = λ p k top c short. absurd (omega (arith, below size k c, short));
} where
  same : (k : ℕ) → k < size → rank_at scores later k ≡ rank_at scores heap k
  same k low = ap (rank scores) (ap (λ l. get_or l k 0) is ∙ exchanged_other heap at size k (λ e. omega (arith, e, low, outside)) (λ e. omega (arith, e, low)))

-- ---- one score is greater
rank_same : (scores : List ℕ) (place score v : ℕ) → v ≢ place → rank (set scores place score) v ≡ rank scores v
rank_same scores place score v apart = ap (λ s. s * 2 ^ 32 + (2 ^ 32 - 1 - v)) (get_or-set_other scores place v score 0 apart)

rank_more : (scores : List ℕ) (place score : ℕ) → place < length scores → get_or scores place 0 ≤ score → rank scores place ≤ rank (set scores place score) place
rank_more scores place score within more = let is : get_or (set scores place score) place 0 ≡ score = get_or-set_same scores place score 0 within in omega (arith, is, more)

rank_least : (scores : List ℕ) (place score v : ℕ) → place < length scores → get_or scores place 0 ≤ score → rank scores v ≤ rank (set scores place score) v
rank_least scores place score v within more = elim (cases_eq v place) [
  | inl here ↦ subst (λ n. rank scores n ≤ rank (set scores place score) n) (sym here) (rank_more scores place score within more)
  | inr apart ↦ omega (arith, rank_same scores place score v apart)
]

-- where it stands at that place of the heap
pub bumped : (scores heap : List ℕ) (size place score at : ℕ) → place < length scores → get_or scores place 0 ≤ score → ((k : ℕ) → k < size → get_or heap k 0 ≡ place → k ≡ at) → at < size → IsOrdered (rank_at scores heap) size → IsOrderedBut (rank_at (set scores place score) heap) size at
bumped scores heap size place score at within more alone at_within ordered = record {
  others = λ p k c short apart.
      let same : rank later (get_or heap k 0) ≡ rank scores (get_or heap k 0) = rank_same scores place score (get_or heap k 0) (λ e. apart (alone k short e)) in
      omega (arith, same, least (get_or heap p 0), ordered p k c short);
  across = λ p k top c short.
      let same : rank later (get_or heap k 0) ≡ rank scores (get_or heap k 0) = rank_same scores place score (get_or heap k 0) (λ e. absurd (omega (arith, alone k short e, below at k c))) in
      omega (arith, same, least (get_or heap p 0), ordered p at top at_within, ordered at k c short);
} where
  later : List ℕ
  later = set scores place score

  least : (v : ℕ) → rank scores v ≤ rank later v
  least v = rank_least scores place score v within more

-- where it stands outside
pub bumped_outside : (scores heap : List ℕ) (size place score : ℕ) → ((k : ℕ) → k < size → get_or heap k 0 ≢ place) → IsOrdered (rank_at scores heap) size → IsOrdered (rank_at (set scores place score) heap) size
bumped_outside scores heap size place score nowhere ordered p k c short =
    omega (arith, same k short, same p (omega (arith, below p k c, short)), ordered p k c short) where
      same : (k : ℕ) → k < size → rank (set scores place score) (get_or heap k 0) ≡ rank scores (get_or heap k 0)
      same k low = rank_same scores place score (get_or heap k 0) (nowhere k low)

-- ---- at first each place has its own number, and no score is above 0
pub ordered_counted : (scores heap : List ℕ) (size : ℕ) → ((v : ℕ) → get_or scores v 0 ≡ 0) → ((k : ℕ) → k < size → get_or heap k 0 ≡ k) → IsOrdered (rank_at scores heap) size
ordered_counted scores heap size none each p k c short =
    let low : p < k = below p k c in
    omega (arith, low, each k short, each p (omega (arith, low, short)), none (get_or heap k 0), none (get_or heap p 0))
