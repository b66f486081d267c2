-- The heap as a whole: who is first, and what it keeps when a score grows.
use Rattle.std.proofs.Common.{◌≡◌, ℕ, ◌<◌, ◌≤◌, true, false, List, length, get_or, set, ap, sym, subst, ◌∙◌, arith}
use Rattle.std.specs.Prelude.{All}
use Rattle.std.proofs.lemmas.List.{length-set, get_or_default}
use Rattle.activity_order.specs.Scores.{rank}
use Rattle.activity_order.specs.Heaps.{IsOrderedBut, IsHeap, rank_at, waits_of}
use Rattle.activity_order.proofs.SiftLemmas.{top_is_first}
use Rattle.activity_order.proofs.RankLemmas.{bumped, bumped_outside}
use Rattle.activity_order.proofs.PlaceLemmas.{waits_long, waits_within, place_of_waiting, waiting_of_place, not_waiting}

-- ---- a score grows
pub bump_ordered : (scores heap places : List ℕ) (size place score : ℕ) → IsHeap scores heap places size → place < length places → get_or scores place 0 ≤ score → get_or places place 0 < size → IsOrderedBut (rank_at (set scores place score) heap) size (get_or places place 0)
bump_ordered scores heap places size place score was within more waits =
    bumped scores heap size place score (get_or places place 0) (omega (arith, within, was.all_scored)) more
    (λ k low is. sym (was.stands.placed k (omega (arith, low, was.within))).1 ∙ ap (λ v. get_or places v 0) is)
    waits was.ordered

pub bump_outside : (scores heap places : List ℕ) (size place score : ℕ) → IsHeap scores heap places size → size ≤ get_or places place 0 → IsHeap (set scores place score) heap places size
bump_outside scores heap places size place score was away = record {
  all_scored = length-set scores place score ∙ was.all_scored;
  within = was.within;
  stands = was.stands;
  ordered = bumped_outside scores heap size place score (λ k low is. omega (arith, (was.stands.placed k (omega (arith, low, was.within))).1, ap (λ v. get_or places v 0) is, away, low)) was.ordered;
}

-- ---- who is first
pub none_waits : (places : List ℕ) → All (λ waits. waits ≡ false) (waits_of places 0)
none_waits places k d within =
    let within' : k < length places = omega (arith, within, waits_long places 0) in
    get_or_default (waits_of places 0) k d false within ∙ not_waiting places 0 k within' (omega arith)

pub top_waits : (scores heap places : List ℕ) (size : ℕ) → IsHeap scores heap places size → 0 < size → get_or (waits_of places size) (get_or heap 0 0) false ≡ true
top_waits scores heap places size was some =
    let at_top = was.stands.placed 0 (omega (arith, some, was.within)) in
    waiting_of_place places size (get_or heap 0 0) at_top.0 (omega (arith, at_top.1, some))

pub top_first : (scores heap places : List ℕ) (size place : ℕ) → IsHeap scores heap places size → 0 < size → get_or (waits_of places size) place false ≡ true → rank scores place ≤ rank scores (get_or heap 0 0)
top_first scores heap places size place was some waits =
    let there = was.stands.back place (waits_within places size place waits) in
    subst (λ v. rank scores v ≤ rank scores (get_or heap 0 0)) there.1 (top_is_first (rank_at scores heap) size was.ordered (get_or places place 0) (place_of_waiting places size place waits))
