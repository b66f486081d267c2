-- Where a value stands in rows.
use Rattle.std.proofs.Common.{◌≡◌, ℕ, zero, suc, ◌+◌, ◌<◌, List, [], ◌∷◌, length, take, get_or, map, refl, ◌∙◌, arith, length-append}
use Rattle.std.specs.List.{sum_by}
use Rattle.std.proofs.lemmas.List.{get_or_append_left, get_or-append-add, get_or-map, length-map, length-append}
use Rattle.std.proofs.lemmas.List.Sums.{sum_by-cons}
use Rattle.clause_list.specs.Rows.{rows}

-- behind the rows before it, at its place in its row
pub row_value : {X V : Type 0} (of : ℕ → X → V) (first : ℕ) (lists : List (List X)) (k j : ℕ) (e : X) (d : V) → k < length lists → j < length (get_or lists k []) → get_or (rows of first lists) (sum_by length (take k lists) + j) d ≡ of (first + k) (get_or (get_or lists k []) j e)
row_value of first [] k j e d within inside = absurd (omega arith)
row_value of first (items ∷ others) zero j e d within inside =
    let at : 0 + j ≡ j = omega arith in
    let start : first + 0 ≡ first = omega arith in
    rw (at, start) (get_or_append_left (map (of first) items) (rows of (first + 1) others) d j (omega (arith, length-map items (of first))) ∙ get_or-map (of first) items j e d inside)
row_value of first (items ∷ others) (suc k) j e d within inside =
    let sum : sum_by length (items ∷ take k others) ≡ length items + sum_by length (take k others) = sum_by-cons length items (take k others) in
    let size : length (map (of first) items) ≡ length items = length-map items (of first) in
    let at : sum_by length (items ∷ take k others) + j ≡ length (map (of first) items) + (sum_by length (take k others) + j) = omega arith in
    let row : first + suc k ≡ first + 1 + k = omega arith in
    rw (at, row) (get_or-append-add (map (of first) items) (rows of (first + 1) others) (sum_by length (take k others) + j) d ∙ row_value of (first + 1) others k j e d (omega arith) inside)

-- how many values there are
pub length-rows : {X V : Type 0} (of : ℕ → X → V) (first : ℕ) (lists : List (List X)) → length (rows of first lists) ≡ sum_by length lists
length-rows of first [] = refl
length-rows of first (items ∷ others) =
    let others_too : length (rows of (first + 1) others) ≡ sum_by length others = length-rows of (first + 1) others in
    let sum : sum_by length (items ∷ others) ≡ length items + sum_by length others = sum_by-cons length items others in
    omega (arith, length-append (map (of first) items) (rows of (first + 1) others), length-map items (of first))
