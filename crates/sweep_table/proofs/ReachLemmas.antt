-- How far paths can go on: what one round more tells, and that nothing comes of dead ends.
use Rattle.std.proofs.Common.{◌≡◌, ◌<◌, ◌≤◌, ◌+◌, ◌-◌, ◌*◌, inl, inr, ℕ, suc, true, false, List, [], ◌∷◌, ◌++◌, length, get_or, ap, sym, ◌∙◌, refl, subst, arith}
use Rattle.std.specs.Prelude.{All, ◌&&◌, Bool, not, nat_le, slice_set}
use Rattle.std.specs.List.{flat_map}
use Rattle.std.proofs.lemmas.Bool.{cases_Bool, cases_eq}
use Rattle.std.proofs.lemmas.List.{length-set, get_or-set_same, get_or-set_other}
use Rattle.std.proofs.lemmas.List.Elements.{Contains-get_or, All-same}
use Rattle.cell_net.specs.Space.{IsCell}
use Rattle.cell_net.specs.declared.cells.DirCell.{DirCell}
use Rattle.cell_net.specs.declared.parts.InstanceParts.{InstanceParts}
use Rattle.sweep_table.specs.Growing.{AreAfter, after_of, branch, cell_limit, grown, may_go_on, path_has_cell}
use Rattle.sweep_table.specs.Order.{directed_number}
use Rattle.sweep_table.specs.Reach.{IsDeadEnd, IsReach, IsReachBelow, reach_of}
use Rattle.sweep_table.proofs.DirectedLaws.{same_directed}
use Rattle.sweep_table.proofs.GrowLemmas.{branch_no, branch_yes, grown_some, number_within}

flat_map_none : {X Y : Type 0} (f : X → List Y) (xs : List X) → All (λ x. f x ≡ []) xs → flat_map f xs ≡ []
flat_map_none f [] none = refl
flat_map_none f (x ∷ xs) none =
    let first : f x ≡ [] = none 0 x (omega arith) in
    let rest : flat_map f xs ≡ [] = flat_map_none f xs (λ k d h. none (suc k) d (omega arith)) in
    ap (λ ys. ys ++ flat_map f xs) first ∙ rest

dead_says : (p : InstanceParts) (train : ℕ) (after : List (List DirCell)) (count more : ℕ) (d : DirCell) (path : List DirCell) → IsDeadEnd p train after count more d →
    branch p train after count (grown p train after count (more - 1)) path d ≡ []
unfolding IsDeadEnd
dead_says p train after count more d path dead = dead path

-- nothing comes of dead ends alone
all_dead : (p : InstanceParts) (train : ℕ) (after : List (List DirCell)) (count more : ℕ) (next path : List DirCell) → 0 < more → All (IsDeadEnd p train after count more) next →
    grown p train after count more next path ≡ []
all_dead p train after count more next path some dead =
    grown_some p train after count more next path some ∙
    flat_map_none (branch p train after count (grown p train after count (more - 1)) path) next (λ k d h. dead_says p train after count more (get_or next k d) path (dead k d h))

and_false : (b : Bool) → (b && false) ≡ false
and_false true = refl
and_false false = refl

-- where the train may not advance so far, nothing goes on
pub slow_is_dead : (p : InstanceParts) (train : ℕ) (after : List (List DirCell)) (count more : ℕ) (d : DirCell) → nat_le count (train + cell_limit p d) ≡ false → IsDeadEnd p train after count more d
unfolding IsDeadEnd may_go_on
slow_is_dead p train after count more d slow = λ path. branch_no p train after count (grown p train after count (more - 1)) path d (ap (λ b. not (path_has_cell path d) && b) slow ∙ and_false (not (path_has_cell path d)))

-- where all that follows is a dead end for one cell fewer
pub before_dead : (p : InstanceParts) (train : ℕ) (after : List (List DirCell)) (count more : ℕ) (d : DirCell) → 1 < more → All (IsDeadEnd p train after count (more - 1)) (after_of after d) → IsDeadEnd p train after count more d
unfolding IsDeadEnd
before_dead p train after count more d some dead = λ path. elim (cases_Bool (may_go_on p train count path d)) [
  | inl may ↦ branch_yes p train after count (grown p train after count (more - 1)) path d may ∙ all_dead p train after count (more - 1) (after_of after d) (path ++ d ∷ []) (omega arith) dead
  | inr never ↦ branch_no p train after count (grown p train after count (more - 1)) path d never
]

-- what follows has numbers in range
pub row_within : (p : InstanceParts) (after : List (List DirCell)) (d : DirCell) (row : List DirCell) (n : ℕ) → AreAfter p after → IsCell p d.cell → n ≡ 2 * length p.cells →
    ((e : List DirCell) → get_or after (directed_number d) e ≡ row) → All (λ e. directed_number e < n) row
row_within p after d row n all here size is =
    let each = all.each d (number_within p d here) in
    All-same (λ e. directed_number e < n) row (after_of after d) (sym (is []))
    (λ k e h. let low = ((each.follow (get_or (after_of after d) k e)).0 (Contains-get_or (after_of after d) k e h)).0 in omega (arith, size))

-- with one cell more than what follows can have, no path goes on
pub longer_is_dead : (p : InstanceParts) (train : ℕ) (after : List (List DirCell)) (count rounds place more furthest : ℕ) (reach : List ℕ) (d : DirCell) (row : List DirCell) →
    IsReachBelow p train after count rounds place reach → AreAfter p after → IsCell p d.cell → ((e : List DirCell) → get_or after (directed_number d) e ≡ row) →
    All (λ e. reach_of reach e ≤ furthest) row → more ≤ rounds + 1 → furthest + 1 < more → IsDeadEnd p train after count more d
longer_is_dead p train after count rounds place more furthest reach d row so_far all here row_is highest within low =
    let dead : All (IsDeadEnd p train after count (more - 1)) row =
    λ k e h. let f : DirCell = get_or row k e in
    let in_range = row_within p after d row (length reach) all here so_far.for_each row_is k e h in
    let high = highest k e h in
    so_far.each f (more - 1) in_range (omega arith) (omega arith) in
    before_dead p train after count more d (omega arith) (subst (All (IsDeadEnd p train after count (more - 1))) (sym (row_is [])) dead)

pub reach_one_more : (p : InstanceParts) (train : ℕ) (after : List (List DirCell)) (count rounds value : ℕ) (d : DirCell) (old new : List ℕ) → IsReachBelow p train after count rounds (directed_number d) old → IsCell p d.cell →
    ((more : ℕ) → more ≤ rounds + 1 → value < more → IsDeadEnd p train after count more d) → new ≡ slice_set old (directed_number d) value →
    IsReachBelow p train after count rounds (directed_number d + 1) new
reach_one_more p train after count rounds value d old new so_far here dead is =
    let n : ℕ = directed_number d in
    let within : n < length old = omega (arith, number_within p d here, so_far.for_each) in
    let set : List ℕ = slice_set old n value in
    let at : get_or set n 0 ≡ value = get_or-set_same old n value 0 within in
    subst (IsReachBelow p train after count rounds (n + 1)) (sym is) (record {
      for_each = length-set old n value ∙ so_far.for_each;
      earlier = λ e more low few over. elim (cases_eq (directed_number e) n) [
        | inl same ↦
            let at_e : get_or set (directed_number e) 0 ≡ value = ap (λ m. get_or set m 0) same ∙ at in
            subst (IsDeadEnd p train after count more) (sym (same_directed e d same)) (dead more few (omega (arith, at_e, over)))
        | inr other ↦ so_far.earlier e more (omega arith) few (omega (arith, get_or-set_other old n (directed_number e) value 0 other, over))
      ];
      each = λ e more low few over. elim (cases_eq (directed_number e) n) [
        | inl same ↦
            let at_e : get_or set (directed_number e) 0 ≡ value = ap (λ m. get_or set m 0) same ∙ at in
            subst (IsDeadEnd p train after count more) (sym (same_directed e d same)) (dead more (omega arith) (omega (arith, at_e, over)))
        | inr other ↦ so_far.each e more (omega (arith, length-set old n value)) few (omega (arith, get_or-set_other old n (directed_number e) value 0 other, over))
      ];
    })

-- a round begins where none was raised, and ends where each was
pub round_begins : (p : InstanceParts) (train : ℕ) (after : List (List DirCell)) (count rounds place : ℕ) (reach : List ℕ) → place ≡ 0 → IsReach p train after count rounds reach → IsReachBelow p train after count rounds place reach
round_begins p train after count rounds place reach none so_far = record {
  for_each = so_far.for_each;
  earlier = λ d more low few over. absurd (omega arith);
  each = so_far.each;
}

pub round_ends : (p : InstanceParts) (train : ℕ) (after : List (List DirCell)) (count rounds place : ℕ) (reach : List ℕ) → 2 * length p.cells ≤ place → IsReachBelow p train after count rounds place reach → IsReach p train after count (rounds + 1) reach
round_ends p train after count rounds place reach all so_far = record {
  for_each = so_far.for_each;
  earlier = λ d more low few over. absurd (omega arith);
  each = λ d more low few over. so_far.earlier d more (omega (arith, so_far.for_each)) few over;
}

-- no round yet
pub no_round : (p : InstanceParts) (train : ℕ) (after : List (List DirCell)) (count : ℕ) (reach : List ℕ) → length reach ≡ 2 * length p.cells → IsReach p train after count 0 reach
no_round p train after count reach size = record {
  for_each = size;
  earlier = λ d more low few over. absurd (omega arith);
  each = λ d more low few over. absurd (omega arith);
}

-- where the reach is too short, nothing comes of going on
pub beyond_reach : (p : InstanceParts) (train : ℕ) (after : List (List DirCell)) (count more : ℕ) (reach : List ℕ) (d : DirCell) (path : List DirCell) → IsReach p train after count count reach → IsCell p d.cell → more ≤ count → reach_of reach d < more →
    branch p train after count (grown p train after count (more - 1)) path d ≡ []
beyond_reach p train after count more reach d path so_far here few over = dead_says p train after count more d path (so_far.each d more (omega (arith, number_within p d here, so_far.for_each)) few over)
