-- Cells and cuts that are numbered track by track.
use Rattle.std.proofs.Common.{◌≡◌, ◌+◌, ◌-◌, ◌<◌, ◌≤◌, ◌⊎◌, inl, inr, ℕ, zero, suc, List, [], ◌∷◌, ◌++◌, length, map, Some, slice_get, refl, sym, ap, subst, ◌∙◌, arith}
use Rattle.std.specs.Prelude.{⊤}
use Rattle.std.specs.List.{flat_map, range_with_len}
use Rattle.std.proofs.lemmas.Bool.{cases_lt}
use Rattle.std.proofs.lemmas.Bool.Decides.{nat_tests}
use Rattle.std.proofs.lemmas.List.{length-append}
use Rattle.std.proofs.lemmas.List.Sums.{sum_by-cons}
use Rattle.std.proofs.lemmas.List.FromFn.{length-map-range_with_len, get_or-map-range_with_len}
use Rattle.std.proofs.lemmas.Option.{same_Some, slice_get_within, slice_get-get_or}
use Rattle.rail_net.specs.declared.parts.TrackPart.{TrackPart}
use Rattle.rail_net.specs.declared.parts.NetParts.{NetParts}
use Rattle.timetable.specs.declared.parts.Timetable.{Timetable}
use Rattle.discretise.specs.Tracks.{AreGridTracks, AreLaid, cell_total, cut_total}
use Rattle.discretise.specs.Cells.{node_before}
use Rattle.discretise.specs.declared.tracks.GridTrack.{GridTrack}

-- the tracks follow each other, the first of them with that cell and that cut
abbrev pub Chained : ℕ → ℕ → List GridTrack → Type 0
Chained first cut [] = ⊤
Chained first cut (g ∷ gs) = (g.first ≡ first) × (g.cut ≡ cut) × Chained (first + g.count) (cut + (g.count - 1)) gs

laid_chained : (p : NetParts) (t : Timetable) (number first cut : ℕ) (parts : List TrackPart) (gs : List GridTrack) → AreLaid p t number first cut parts gs → Chained first cut gs
laid_chained p t number first cut [] [] laid = tt
laid_chained p t number first cut [] (g ∷ gs) laid = absurd laid
laid_chained p t number first cut (x ∷ parts) [] laid = absurd laid
laid_chained p t number first cut (x ∷ parts) (g ∷ gs) laid = (laid.0.first, laid.0.cut, laid_chained p t (number + 1) (first + g.count) (cut + (g.count - 1)) parts gs laid.1)

pub chained : (p : NetParts) (t : Timetable) (gs : List GridTrack) → AreGridTracks p t gs → Chained 0 (length p.nodes) gs
unfolding AreGridTracks
chained p t gs all = laid_chained p t 0 0 (length p.nodes) p.tracks gs all

-- where a track's cells and cuts lie
pub record LiesWithin (first cut : ℕ) (gs : List GridTrack) (g : GridTrack) : Type 0 where
  pub cells_from : first ≤ g.first
  pub cells_to : g.first + g.count ≤ first + cell_total gs
  pub cuts_from : cut ≤ g.cut
  pub cuts_to : g.cut + (g.count - 1) ≤ cut + cut_total gs

pub lies_within : (first cut : ℕ) (gs : List GridTrack) → Chained first cut gs → (k : ℕ) (g : GridTrack) → slice_get gs k ≡ Some g → LiesWithin first cut gs g
lies_within first cut [] chain k g is = absurd (grind arith)
lies_within first cut (h ∷ gs) chain zero g is =
    let cells : cell_total (h ∷ gs) ≡ h.count + cell_total gs = sum_by-cons (λ (y : GridTrack). y.count) h gs in
    let cuts : cut_total (h ∷ gs) ≡ h.count - 1 + cut_total gs = sum_by-cons (λ (y : GridTrack). y.count - 1) h gs in
    let own : LiesWithin first cut (h ∷ gs) h = record { cells_from = omega (arith, chain.0); cells_to = omega (arith, chain.0); cuts_from = omega (arith, chain.1); cuts_to = omega (arith, chain.1) } in
    subst (LiesWithin first cut (h ∷ gs)) (same_Some h g is) own
lies_within first cut (h ∷ gs) chain (suc k) g is =
    let cells : cell_total (h ∷ gs) ≡ h.count + cell_total gs = sum_by-cons (λ (y : GridTrack). y.count) h gs in
    let cuts : cut_total (h ∷ gs) ≡ h.count - 1 + cut_total gs = sum_by-cons (λ (y : GridTrack). y.count - 1) h gs in
    let rest = lies_within (first + h.count) (cut + (h.count - 1)) gs chain.2 k g is in
    record { cells_from = omega (arith, rest.cells_from); cells_to = omega (arith, rest.cells_to); cuts_from = omega (arith, rest.cuts_from); cuts_to = omega (arith, rest.cuts_to) }

-- an earlier track's cells and cuts lie before those of a later one
pub record LiesBefore (g h : GridTrack) : Type 0 where
  pub cells : g.first + g.count ≤ h.first
  pub cuts : g.cut + (g.count - 1) ≤ h.cut

pub lies_before : (first cut : ℕ) (gs : List GridTrack) → Chained first cut gs → (i j : ℕ) (g h : GridTrack) → i < j → slice_get gs i ≡ Some g → slice_get gs j ≡ Some h → LiesBefore g h
lies_before first cut [] chain i j g h low is also = absurd (grind arith)
lies_before first cut (x ∷ gs) chain i zero g h low is also = absurd (omega arith)
lies_before first cut (x ∷ gs) chain zero (suc j) g h low is also =
    let rest = lies_within (first + x.count) (cut + (x.count - 1)) gs chain.2 j h also in
    let own : LiesBefore x h = record { cells = omega (arith, chain.0, rest.cells_from); cuts = omega (arith, chain.1, rest.cuts_from) } in
    subst (λ y. LiesBefore y h) (same_Some x g is) own
lies_before first cut (x ∷ gs) chain (suc i) (suc j) g h low is also = lies_before (first + x.count) (cut + (x.count - 1)) gs chain.2 i j g h (omega arith) is also

-- a cell, and a cut, is of one track
pub one_by_cell : (first cut : ℕ) (gs : List GridTrack) → Chained first cut gs → (i j : ℕ) (g h : GridTrack) (a b : ℕ) → slice_get gs i ≡ Some g → slice_get gs j ≡ Some h → a < g.count → b < h.count → g.first + a ≡ h.first + b → i ≡ j
one_by_cell first cut gs chain i j g h a b is also in_g in_h same = elim (cases_lt i j) [
  | inl low ↦ let before = lies_before first cut gs chain i j g h low is also in absurd (omega (arith, before.cells))
  | inr past ↦ elim (cases_lt j i) [
    | inl high ↦ let before = lies_before first cut gs chain j i h g high also is in absurd (omega (arith, before.cells))
    | inr equal ↦ omega arith
  ]
]

pub one_by_cut : (first cut : ℕ) (gs : List GridTrack) → Chained first cut gs → (i j : ℕ) (g h : GridTrack) (a b : ℕ) → slice_get gs i ≡ Some g → slice_get gs j ≡ Some h → a + 1 < g.count → b + 1 < h.count → g.cut + a ≡ h.cut + b → i ≡ j
one_by_cut first cut gs chain i j g h a b is also in_g in_h same = elim (cases_lt i j) [
  | inl low ↦ let before = lies_before first cut gs chain i j g h low is also in absurd (omega (arith, before.cuts))
  | inr past ↦ elim (cases_lt j i) [
    | inl high ↦ let before = lies_before first cut gs chain j i h g high also is in absurd (omega (arith, before.cuts))
    | inr equal ↦ omega arith
  ]
]

-- items in two lists in a row
pub in_left : {X : Type 0} (xs ys : List X) (k : ℕ) (x : X) → slice_get xs k ≡ Some x → slice_get (xs ++ ys) k ≡ Some x
in_left [] ys k x is = absurd (grind arith)
in_left (y ∷ xs) ys zero x is = is
in_left (y ∷ xs) ys (suc k) x is = in_left xs ys k x is

pub in_right : {X : Type 0} (xs ys : List X) (k : ℕ) (x : X) → slice_get ys k ≡ Some x → slice_get (xs ++ ys) (length xs + k) ≡ Some x
in_right [] ys k x is = subst (λ n. slice_get ys n ≡ Some x) (let same : k ≡ 0 + k = omega arith in same) is
in_right (y ∷ xs) ys k x is = subst (λ n. slice_get (y ∷ (xs ++ ys)) n ≡ Some x) (let same : suc (length xs + k) ≡ length (y ∷ xs) + k = omega arith in same) (in_right xs ys k x is)

pub in_both : {X : Type 0} (xs ys : List X) (k : ℕ) (x : X) → slice_get (xs ++ ys) k ≡ Some x → (slice_get xs k ≡ Some x) ⊎ ((j : ℕ) × (k ≡ length xs + j) × (slice_get ys j ≡ Some x))
in_both [] ys k x is = inr (k, let same : k ≡ 0 + k = omega arith in same, is)
in_both (y ∷ xs) ys zero x is = inl is
in_both (y ∷ xs) ys (suc k) x is = elim (in_both xs ys k x is) [ inl left ↦ inl left | inr right ↦ inr (right.0, omega (arith, right.1), right.2) ]

-- a row of items of numbers
pub row_has : {X : Type 0} (f : ℕ → X) (n k : ℕ) → k < n → slice_get (map f (range_with_len 0 n)) k ≡ Some (f k)
row_has f n k below =
    let long : length (map f (range_with_len 0 n)) ≡ n = length-map-range_with_len f 0 n in
    slice_get-get_or (map f (range_with_len 0 n)) k (f k) (omega arith) ∙ ap Some (get_or-map-range_with_len f 0 n k k (f k) below (omega arith))

pub row_is : {X : Type 0} (f : ℕ → X) (n k : ℕ) (x : X) → slice_get (map f (range_with_len 0 n)) k ≡ Some x → (k < n) × (f k ≡ x)
row_is f n k x is =
    let long : length (map f (range_with_len 0 n)) ≡ n = length-map-range_with_len f 0 n in
    let within : k < length (map f (range_with_len 0 n)) = slice_get_within (map f (range_with_len 0 n)) k x is in
    let below : k < n = omega arith in
    (below, same_Some (f k) x (sym (row_has f n k below) ∙ is))

-- what each cell of each track is given, in a row
module _ {X : Type 0} (f : GridTrack → ℕ → X) where
  abbrev pub rows_of : List GridTrack → List X
  rows_of gs = flat_map (λ g. map (f g) (range_with_len 0 g.count)) gs

  at_offset : (first cut : ℕ) (gs : List GridTrack) → Chained first cut gs → (k : ℕ) (g : GridTrack) (i : ℕ) → slice_get gs k ≡ Some g → i < g.count → (offset : ℕ) × (g.first ≡ first + offset) × (slice_get (rows_of gs) (offset + i) ≡ Some (f g i))
  at_offset first cut [] chain k g i is within = absurd (grind arith)
  at_offset first cut (h ∷ gs) chain zero g i is within =
      let own : h ≡ g = same_Some h g is in
      let below : i < h.count = subst (λ y. i < y.count) (sym own) within in (
        0,
        subst (λ y. y.first ≡ first + 0) own (let same : h.first ≡ first + 0 = omega (arith, chain.0) in same),
        subst (λ n. slice_get (rows_of (h ∷ gs)) n ≡ Some (f g i)) (let same : i ≡ 0 + i = omega arith in same)
            (in_left (map (f h) (range_with_len 0 h.count)) (rows_of gs) i (f g i) (row_has (f h) h.count i below ∙ ap (λ y. Some (f y i)) own)),
      )
  at_offset first cut (h ∷ gs) chain (suc k) g i is within =
      let rest = at_offset (first + h.count) (cut + (h.count - 1)) gs chain.2 k g i is within in
      let long : length (map (f h) (range_with_len 0 h.count)) ≡ h.count = length-map-range_with_len (f h) 0 h.count in (
        h.count + rest.0,
        omega (arith, rest.1),
        subst (λ n. slice_get (rows_of (h ∷ gs)) n ≡ Some (f g i)) (let same : length (map (f h) (range_with_len 0 h.count)) + (rest.0 + i) ≡ h.count + rest.0 + i = omega arith in same)
            (in_right (map (f h) (range_with_len 0 h.count)) (rows_of gs) (rest.0 + i) (f g i) rest.2),
      )

  -- the item of a cell has the cell's number
  pub rows_have : (cut : ℕ) (gs : List GridTrack) → Chained 0 cut gs → (k : ℕ) (g : GridTrack) (i : ℕ) → slice_get gs k ≡ Some g → i < g.count → slice_get (rows_of gs) (g.first + i) ≡ Some (f g i)
  rows_have cut gs chain k g i is within =
      let at = at_offset 0 cut gs chain k g i is within in
      subst (λ n. slice_get (rows_of gs) n ≡ Some (f g i)) (let same : at.0 + i ≡ g.first + i = omega (arith, at.1) in same) at.2

  -- the cell of a number, and its track
  pub record IsPlaced (gs : List GridTrack) (number : ℕ) (x : X) : Type 0 where
    pub k : ℕ
    pub g : GridTrack
    pub place : ℕ
    pub there : slice_get gs k ≡ Some g
    pub within : place < g.count
    pub is_number : number ≡ g.first + place
    pub is : f g place ≡ x

  placed_from : (first cut : ℕ) (gs : List GridTrack) → Chained first cut gs → (c : ℕ) (x : X) → slice_get (rows_of gs) c ≡ Some x → IsPlaced gs (first + c) x
  placed_from first cut [] chain c x is = absurd (grind arith)
  placed_from first cut (h ∷ gs) chain c x is = elim (in_both (map (f h) (range_with_len 0 h.count)) (rows_of gs) c x is) [
    | inl here ↦ let row = row_is (f h) h.count c x here in record { k = 0; g = h; place = c; there = refl; within = row.0; is_number = omega (arith, chain.0); is = row.1 }
    | inr later ↦
        let long : length (map (f h) (range_with_len 0 h.count)) ≡ h.count = length-map-range_with_len (f h) 0 h.count in
        let rest = placed_from (first + h.count) (cut + (h.count - 1)) gs chain.2 later.0 x later.2 in
        record { k = suc rest.k; g = rest.g; place = rest.place; there = rest.there; within = rest.within; is_number = omega (arith, later.1, rest.is_number); is = rest.is }
  ]

  pub placed : (cut : ℕ) (gs : List GridTrack) → Chained 0 cut gs → (c : ℕ) (x : X) → slice_get (rows_of gs) c ≡ Some x → IsPlaced gs c x
  placed cut gs chain c x is = subst (λ n. IsPlaced gs n x) (let same : 0 + c ≡ c = omega arith in same) (placed_from 0 cut gs chain c x is)

  pub rows_length : (gs : List GridTrack) → length (rows_of gs) ≡ cell_total gs
  rows_length [] = refl
  rows_length (g ∷ gs) =
      let long : length (map (f g) (range_with_len 0 g.count)) ≡ g.count = length-map-range_with_len (f g) 0 g.count in
      let cells : cell_total (g ∷ gs) ≡ g.count + cell_total gs = sum_by-cons (λ (y : GridTrack). y.count) g gs in
      let both : length (rows_of (g ∷ gs)) ≡ length (map (f g) (range_with_len 0 g.count)) + length (rows_of gs) = length-append (map (f g) (range_with_len 0 g.count)) (rows_of gs) in
      let rest = rows_length gs in
      omega arith

-- the three kinds of places of nodes on a track
pub node_cases : (g : GridTrack) (i : ℕ) → 0 < g.count → i ≤ g.count
    → ((i ≡ 0) × (node_before g i ≡ g.from)) ⊎ (((i ≡ g.count) × (node_before g i ≡ g.to)) ⊎ ((0 < i) × (i < g.count) × (node_before g i ≡ g.cut + (i - 1))))
node_cases g i some within = elim (cases_lt 0 i) [
  | inr first ↦ let at : i ≡ 0 = omega arith in inl (at, ap (node_before g) at)
  | inl inner ↦ elim (cases_lt i g.count) [
    | inl below ↦ inr (inr (inner, below, (let is : node_before g i ≡ g.cut + (i - 1) = grind (arith, nat_tests) in is)))
    | inr last ↦ let at : i ≡ g.count = omega arith in inr (inl (at, (let is : node_before g i ≡ g.to = grind (arith, nat_tests) in is)))
  ]
]
