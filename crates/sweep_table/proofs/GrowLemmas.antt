-- Steps of growing paths.
use Rattle.std.proofs.Common.{◌≡◌, ◌<◌, ◌≤◌, ◌+◌, ◌-◌, inl, inr, ℕ, zero, suc, true, false, List, [], ◌∷◌, ◌++◌, length, take, get_or, ap, sym, ◌∙◌, refl, arith, append_assoc, length-append, drop, subst, take-append-drop}
use Rattle.std.specs.List.{flat_map, range_with_len}
use Rattle.std.proofs.lemmas.List.{take_more, append-nil}
use Rattle.std.proofs.lemmas.List.Concat.{flat_map-append}
use Rattle.std.proofs.lemmas.List.FromFn.{map-range_with_len_more}
use Rattle.std.proofs.lemmas.Bool.{cases_eq}
use Rattle.std.proofs.lemmas.List.{map-id}
use Rattle.std.specs.Prelude.{All, ◌*◌}
use Rattle.std.proofs.lemmas.List.{length_push, take_at}
use Rattle.std.proofs.lemmas.List.Elements.{All-weaker, All-same, Contains-get_or}
use Rattle.cell_net.specs.Space.{IsCell, Follows}
use Rattle.cell_net.specs.declared.cells.End.{End}
use Rattle.cell_net.specs.declared.cells.End.TheVariants.{Low, High}
use Rattle.cell_net.specs.declared.cells.DirCell.{DirCell}
use Rattle.cell_net.specs.declared.parts.InstanceParts.{InstanceParts}
use Rattle.sweep_table.specs.declared.refusal.TableRefusal.{TableRefusal}
use Rattle.sweep_table.specs.declared.refusal.TableRefusal.TheVariants.{TooManySweeps, Memory}
use Rattle.sweep_table.specs.Order.{directed_number, end_digit}
use Rattle.sweep_table.specs.Growing.{AreAfter, IsGrowthFault, all_grown, grown_by_advance, sweeps_below, branch, grown, may_go_on, after_of, both_ways, directed, lowward, highward}

-- numbers from 0 on, one more
pub range_more : (n : ℕ) → range_with_len 0 (n + 1) ≡ range_with_len 0 n ++ n ∷ []
range_more n = sym (map-id (range_with_len 0 (n + 1))) ∙ (map-range_with_len_more (λ x. x) 0 n n (omega arith) ∙ ap (λ xs. xs ++ n ∷ []) (map-id (range_with_len 0 n)))

pub flat_map_range_more : {X : Type 0} (f : ℕ → List X) (n : ℕ) → flat_map f (range_with_len 0 (n + 1)) ≡ flat_map f (range_with_len 0 n) ++ f n
flat_map_range_more f n = ap (flat_map f) (range_more n) ∙ (flat_map-append f (range_with_len 0 n) (n ∷ []) ∙ ap (λ xs. flat_map f (range_with_len 0 n) ++ xs) (append-nil (f n)))

-- what comes of one item more
pub flat_map_take_more : {X Y : Type 0} (f : X → List Y) (xs : List X) (i : ℕ) (x : X) → i < length xs → get_or xs i x ≡ x → flat_map f (take (i + 1) xs) ≡ flat_map f (take i xs) ++ f x
flat_map_take_more f xs i x within is =
    ap (flat_map f) (take_more xs i x within ∙ ap (λ y. take i xs ++ y ∷ []) is) ∙ (flat_map-append f (take i xs) (x ∷ []) ∙ ap (λ ys. flat_map f (take i xs) ++ ys) (append-nil (f x)))

-- each cell gives its two directed cells
pub directed_more : (n : ℕ) → directed (n + 1) ≡ (directed n ++ lowward n ∷ []) ++ highward n ∷ []
unfolding both_ways
directed_more n = flat_map_range_more both_ways n ∙ sym (append_assoc (directed n) (lowward n ∷ []) (highward n ∷ []))

-- the branch of a directed cell that the path may go on with, and of one that it may not
pub branch_yes : (p : InstanceParts) (train : ℕ) (after : List (List DirCell)) (count : ℕ) (rest : List DirCell → List DirCell → List (List DirCell)) (path : List DirCell) (d : DirCell) →
    may_go_on p train count path d ≡ true → branch p train after count rest path d ≡ rest (after_of after d) (path ++ d ∷ [])
unfolding branch
branch_yes p train after count rest path d may = rw may refl

pub branch_no : (p : InstanceParts) (train : ℕ) (after : List (List DirCell)) (count : ℕ) (rest : List DirCell → List DirCell → List (List DirCell)) (path : List DirCell) (d : DirCell) →
    may_go_on p train count path d ≡ false → branch p train after count rest path d ≡ []
unfolding branch
branch_no p train after count rest path d no_way = rw no_way refl

pub grown_none : (p : InstanceParts) (train : ℕ) (after : List (List DirCell)) (count more : ℕ) (next path : List DirCell) → more ≡ 0 →
    grown p train after count more next path ≡ path ∷ []
unfolding grown
grown_none p train after count zero next path h = refl
grown_none p train after count (suc more) next path h = absurd (omega arith)

pub grown_some : (p : InstanceParts) (train : ℕ) (after : List (List DirCell)) (count more : ℕ) (next path : List DirCell) → 0 < more →
    grown p train after count more next path ≡ flat_map (branch p train after count (grown p train after count (more - 1)) path) next
unfolding grown
grown_some p train after count zero next path h = absurd (omega arith)
grown_some p train after count (suc more) next path h = let e : suc more - 1 ≡ more = omega arith in rw e refl

-- what comes of one item more, behind what was there
pub gathered_more : {X Y : Type 0} (f : X → List Y) (xs : List X) (i : ℕ) (x : X) (old so_far new : List Y) → i < length xs → get_or xs i x ≡ x →
    so_far ≡ old ++ flat_map f (take i xs) → new ≡ so_far ++ f x → new ≡ old ++ flat_map f (take (i + 1) xs)
gathered_more f xs i x old so_far new within is before now =
    now ∙ (ap (λ ys. ys ++ f x) before ∙ (append_assoc old (flat_map f (take i xs)) (f x) ∙ ap (λ ys. old ++ ys) (sym (flat_map_take_more f xs i x within is))))

-- the items so far and those of one item are no more than all
pub gathered_within : {X Y : Type 0} (f : X → List Y) (xs : List X) (i : ℕ) (x : X) → i < length xs → get_or xs i x ≡ x →
    length (flat_map f (take i xs)) + length (f x) ≤ length (flat_map f xs)
gathered_within f xs i x within is =
    let all : flat_map f xs ≡ flat_map f (take (i + 1) xs) ++ flat_map f (drop (i + 1) xs) = ap (flat_map f) (sym (take-append-drop (i + 1) xs)) ∙ flat_map-append f (take (i + 1) xs) (drop (i + 1) xs) in
    let front : flat_map f (take (i + 1) xs) ≡ flat_map f (take i xs) ++ f x = flat_map_take_more f xs i x within is in
    omega (arith, ap length all, ap length front, length-append (flat_map f (take (i + 1) xs)) (flat_map f (drop (i + 1) xs)), length-append (flat_map f (take i xs)) (f x))

-- a fault at one item is a fault of all
pub fault_within : {X : Type 0} (f : X → List (List DirCell)) (xs : List X) (i : ℕ) (x : X) (old so_far : List (List DirCell)) (refusal : TableRefusal) → i < length xs → get_or xs i x ≡ x →
    so_far ≡ old ++ flat_map f (take i xs) → IsGrowthFault so_far (f x) refusal → IsGrowthFault old (flat_map f xs) refusal
fault_within f xs i x old so_far TooManySweeps within is before many =
    omega (arith, gathered_within f xs i x within is, ap length before, length-append old (flat_map f (take i xs)))
fault_within f xs i x old so_far Memory within is before many = tt

pub fault_same : (old more other : List (List DirCell)) (refusal : TableRefusal) → more ≡ other → IsGrowthFault old other refusal → IsGrowthFault old more refusal
fault_same old more other refusal same fault = subst (λ ws. IsGrowthFault old ws refusal) (sym same) fault

-- numbers of the instance's directed cells
pub number_low : (e : End) (c n : ℕ) → c < n → 2 * c + end_digit e < 2 * n
number_low Low c n h = omega arith
number_low High c n h = omega arith

cell_low : (e : End) (c n : ℕ) → 2 * c + end_digit e < 2 * n → c < n
cell_low Low c n h = omega arith
cell_low High c n h = omega arith

pub number_within : (p : InstanceParts) (d : DirCell) → IsCell p d.cell → directed_number d < 2 * length p.cells
number_within p d h = number_low d.end d.cell.0 (length p.cells) h

pub cell_within : (p : InstanceParts) (d : DirCell) → directed_number d < 2 * length p.cells → IsCell p d.cell
cell_within p d h = cell_low d.end d.cell.0 (length p.cells) h

-- the path without the directed cell that it went on with
pub path_back : (path longer shorter : List DirCell) (d : DirCell) (n : ℕ) → longer ≡ path ++ d ∷ [] → shorter ≡ take (n - 1) longer → n ≡ length longer → shorter ≡ path
path_back path longer shorter d n is back len =
    let size : n - 1 ≡ length path = omega (arith, ap length is, length_push path d) in
    back ∙ (ap (take (n - 1)) is ∙ take_at path (d ∷ []) (n - 1) (sym size))

-- what follows lies among the instance's cells
pub row_of_cells : (p : InstanceParts) (after : List (List DirCell)) (d : DirCell) (row : List DirCell) → AreAfter p after → IsCell p d.cell →
    ((e : List DirCell) → get_or after (directed_number d) e ≡ row) → All (λ e. IsCell p e.cell) row
row_of_cells p after d row all here is =
    let each = all.each d (number_within p d here) in
    let all_cells : All (λ e. IsCell p e.cell) (after_of after d) = All-weaker (λ e. (directed_number e < 2 * length p.cells) × Follows p d e) (λ e. IsCell p e.cell) (λ e both. cell_within p e both.0) (after_of after d)
    (λ k e h. (each.follow (get_or (after_of after d) k e)).0 (Contains-get_or (after_of after d) k e h)) in
    All-same (λ e. IsCell p e.cell) row (after_of after d) (sym (is [])) all_cells

-- the branch of a directed cell is what grew over it, from what follows it and from the path with it
pub branch_is : (p : InstanceParts) (train : ℕ) (after : List (List DirCell)) (count more : ℕ) (path before longer row : List DirCell) (d : DirCell) →
    may_go_on p train count before d ≡ true → before ≡ path → longer ≡ before ++ d ∷ [] → ((e : List DirCell) → get_or after (directed_number d) e ≡ row) →
    branch p train after count (grown p train after count more) path d ≡ grown p train after count more row longer
branch_is p train after count more path before longer row d may same is row_is =
    let may_here : may_go_on p train count path d ≡ true = subst (λ ds. may_go_on p train count ds d ≡ true) same may in
    let here : branch p train after count (grown p train after count more) path d ≡ grown p train after count more (after_of after d) (path ++ d ∷ []) = branch_yes p train after count (grown p train after count more) path d may_here in
    let longer_is : path ++ d ∷ [] ≡ longer = sym (is ∙ ap (λ ds. ds ++ d ∷ []) same) in
    here ∙ (ap (λ ds. grown p train after count more ds (path ++ d ∷ [])) (row_is []) ∙ ap (grown p train after count more row) longer_is)

-- more items give no fewer
below_longer : {X : Type 0} (f : ℕ → List X) (m n : ℕ) → m ≤ n → length (flat_map f (range_with_len 0 m)) ≤ length (flat_map f (range_with_len 0 n))
below_longer f m zero h = let e : m ≡ 0 = omega arith in omega (arith, ap (λ k. length (flat_map f (range_with_len 0 k))) e)
below_longer f m (suc n) h = elim (cases_eq m (suc n)) [
  | inl same ↦ omega (arith, ap (λ k. length (flat_map f (range_with_len 0 k))) same)
  | inr other ↦
      let one : length (flat_map f (range_with_len 0 (suc n))) ≡ length (flat_map f (range_with_len 0 n)) + length (f n) =
      ap (λ k. length (flat_map f (range_with_len 0 k))) (let e : suc n ≡ n + 1 = omega arith in e) ∙ (ap length (flat_map_range_more f n) ∙ length-append (flat_map f (range_with_len 0 n)) (f n)) in
      omega (arith, below_longer f m n (omega arith))
]

-- the paths of one advance more
pub advance_is : (p : InstanceParts) (train : ℕ) (after : List (List DirCell)) (advance : ℕ) → grown_by_advance p train after advance ≡ all_grown p train after (train + advance)
unfolding grown_by_advance
advance_is p train after advance = refl

pub advances_more : (p : InstanceParts) (train : ℕ) (after : List (List DirCell)) (advance : ℕ) (old new : List (List DirCell)) → old ≡ sweeps_below p train after advance →
    new ≡ old ++ all_grown p train after (train + advance) → new ≡ sweeps_below p train after (advance + 1)
advances_more p train after advance old new before now =
    now ∙ (ap (λ ws. ws ++ all_grown p train after (train + advance)) before ∙ (ap (λ ws. sweeps_below p train after advance ++ ws) (sym (advance_is p train after advance)) ∙ sym (flat_map_range_more (grown_by_advance p train after) advance)))

pub advances_fault : (p : InstanceParts) (train : ℕ) (after : List (List DirCell)) (advance advances : ℕ) (old : List (List DirCell)) (refusal : TableRefusal) → advance < advances → old ≡ sweeps_below p train after advance →
    IsGrowthFault old (all_grown p train after (train + advance)) refusal → IsGrowthFault [] (sweeps_below p train after advances) refusal
advances_fault p train after advance advances old TooManySweeps low before many =
    let more : length (sweeps_below p train after (advance + 1)) ≡ length old + length (all_grown p train after (train + advance)) = ap length (sym (advances_more p train after advance old (old ++ all_grown p train after (train + advance)) before refl)) ∙ length-append old (all_grown p train after (train + advance)) in
    omega (arith, below_longer (grown_by_advance p train after) (advance + 1) advances (omega arith))
advances_fault p train after advance advances old Memory low before many = tt
