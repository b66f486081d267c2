-- Laws of pieces of a row: one more at the end, and one by its place.
use Rattle.std.proofs.Common.{◌≡◌, ℕ, zero, suc, ◌+◌, ◌-◌, ◌<◌, ◌≤◌, List, [], ◌∷◌, ◌++◌, length, drop, get_or, refl, ap, arith, length-append, length-drop}
use Rattle.std.specs.Prelude.{slice_range, slice_get, Some}
use Rattle.std.proofs.lemmas.List.{take-append-le, drop-append-le, drop_at, take_all}
use Rattle.vss_rows.specs.Pieces.{pieces, begin_of, RisesTo}

pub length-pieces : {X : Type 0} (row : List X) (from : ℕ) (ends : List ℕ) → length (pieces row from ends) ≡ length ends
length-pieces row from [] = refl
length-pieces row from (end ∷ ends) = ap suc (length-pieces row end ends)

pub RisesTo-le : (from : ℕ) (ends : List ℕ) (to : ℕ) → RisesTo from ends to → from ≤ to
RisesTo-le from [] to same = omega arith
RisesTo-le from (end ∷ ends) to (first, rest) = let h : end ≤ to = RisesTo-le end ends to rest in omega arith

pub RisesTo-push : (from : ℕ) (ends : List ℕ) (to more : ℕ) → RisesTo from ends to → RisesTo from (ends ++ (to + more) ∷ []) (to + more)
RisesTo-push from [] to more same = (omega arith, refl)
RisesTo-push from (end ∷ ends) to more (first, rest) = (first, RisesTo-push end ends to more rest)

slice_range-append : {X : Type 0} (row more : List X) (from end : ℕ) → from ≤ end → end ≤ length row → slice_range (row ++ more) from end ≡ slice_range row from end
slice_range-append row more from end h k =
    let within : from ≤ length row = omega arith in
    let inside : end - from ≤ length (drop from row) = rw length-drop (omega arith) in
    rw drop-append-le (rw take-append-le refl)

slice_range-last : {X : Type 0} (row more : List X) → slice_range (row ++ more) (length row) (length row + length more) ≡ more
slice_range-last row more =
    rw drop_at (take_all (length row + length more - length row) more (omega arith))

pub pieces-append : {X : Type 0} (row more : List X) (from : ℕ) (ends : List ℕ) (to : ℕ) → RisesTo from ends to → to ≤ length row → pieces (row ++ more) from ends ≡ pieces row from ends
pieces-append row more from [] to rises within = refl
pieces-append row more from (end ∷ ends) to (first, rest) within =
    let inside : end ≤ to = RisesTo-le end ends to rest in
    let same : slice_range (row ++ more) from end ≡ slice_range row from end = slice_range-append row more from end first (omega arith) in
    let others : pieces (row ++ more) end ends ≡ pieces row end ends = pieces-append row more end ends to rest within in
    cc

pub pieces-push : {X : Type 0} (row more : List X) (from : ℕ) (ends : List ℕ) → RisesTo from ends (length row) → pieces (row ++ more) from (ends ++ (length row + length more) ∷ []) ≡ pieces row from ends ++ more ∷ []
pieces-push row more from [] same =
    rw same (ap (λ piece. piece ∷ []) (slice_range-last row more))
pieces-push row more from (end ∷ ends) (first, rest) =
    let inside : end ≤ length row = RisesTo-le end ends (length row) rest in
    let same : slice_range (row ++ more) from end ≡ slice_range row from end = slice_range-append row more from end first inside in
    let others : pieces (row ++ more) end (ends ++ (length row + length more) ∷ []) ≡ pieces row end ends ++ more ∷ [] = pieces-push row more end ends rest in
    cc

pub slice_get-pieces : {X : Type 0} (row : List X) (from : ℕ) (ends : List ℕ) (place : ℕ) → place < length ends → slice_get (pieces row from ends) place ≡ Some (slice_range row (begin_of from ends place) (get_or ends place 0))
slice_get-pieces row from [] place within = absurd (omega arith)
slice_get-pieces row from (end ∷ ends) zero within = refl
slice_get-pieces row from (end ∷ ends) (suc zero) within = slice_get-pieces row end ends zero (omega arith)
slice_get-pieces row from (end ∷ ends) (suc (suc place)) within = slice_get-pieces row end ends (suc place) (omega arith)

pub get_or-pieces : {X : Type 0} (row : List X) (from : ℕ) (ends : List ℕ) (place : ℕ) → place < length ends → (d : List X) → get_or (pieces row from ends) place d ≡ slice_range row (begin_of from ends place) (get_or ends place 0)
get_or-pieces row from [] place within d = absurd (omega arith)
get_or-pieces row from (end ∷ ends) zero within d = refl
get_or-pieces row from (end ∷ ends) (suc zero) within d = get_or-pieces row end ends zero (omega arith) d
get_or-pieces row from (end ∷ ends) (suc (suc place)) within d = get_or-pieces row end ends (suc place) (omega arith) d

-- each piece lies in the row
pub RisesTo-at : (from : ℕ) (ends : List ℕ) (to place : ℕ) → RisesTo from ends to → place < length ends → (begin_of from ends place ≤ get_or ends place 0) × (get_or ends place 0 ≤ to)
RisesTo-at from [] to place rises within = absurd (omega arith)
RisesTo-at from (end ∷ ends) to zero (first, rest) within = (first, RisesTo-le end ends to rest)
RisesTo-at from (end ∷ ends) to (suc zero) (first, rest) within = RisesTo-at end ends to zero rest (omega arith)
RisesTo-at from (end ∷ ends) to (suc (suc place)) (first, rest) within = RisesTo-at end ends to (suc place) rest (omega arith)

pub begin_of-le : (from : ℕ) (ends : List ℕ) (to place : ℕ) → RisesTo from ends to → place < length ends → begin_of from ends place ≤ get_or ends place 0
begin_of-le from ends to place rises within = (RisesTo-at from ends to place rises within).0

pub end_le : (from : ℕ) (ends : List ℕ) (to place : ℕ) → RisesTo from ends to → place < length ends → get_or ends place 0 ≤ to
end_le from ends to place rises within = (RisesTo-at from ends to place rises within).1

-- one list more: the row has its items behind the others, and the ends have the new length of the row
pub rises_more : {X : Type 0} (row more longer : List X) (ends new : List ℕ) → RisesTo 0 ends (length row) → longer ≡ row ++ more → new ≡ ends ++ length longer ∷ [] → RisesTo 0 new (length longer)
rises_more row more longer ends new rising row_is ends_are =
    let total : length longer ≡ length row + length more = rw row_is (length-append row more) in
    rw (ends_are, total) (RisesTo-push 0 ends (length row) (length more) rising)

pub pieces_more : {X : Type 0} (row more longer : List X) (ends new : List ℕ) → RisesTo 0 ends (length row) → longer ≡ row ++ more → new ≡ ends ++ length longer ∷ [] → pieces longer 0 new ≡ pieces row 0 ends ++ more ∷ []
pieces_more row more longer ends new rising row_is ends_are =
    let total : length longer ≡ length row + length more = rw row_is (length-append row more) in
    rw (ends_are, total, row_is) (pieces-push row more 0 ends rising)

pub ruleset piece_laws = (begin_of-le, end_le, slice_get-pieces, get_or-pieces)

pub ruleset rows_laws = (length-pieces, pieces-push)
