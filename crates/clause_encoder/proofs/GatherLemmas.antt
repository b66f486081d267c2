-- Steps of the loops that gather cones.
use Rattle.std.proofs.Common.{◌≡◌, ℕ, suc, ◌+◌, ◌-◌, ◌<◌, ◌≤◌, Bool, List, [], ◌∷◌, ◌++◌, length, get_or, take, map, filter, refl, sym, ap, ◌∙◌, arith}
use Rattle.std.specs.Prelude.{nat_lt}
use Rattle.std.specs.List.{sum_by, range_with_len}
use Rattle.std.proofs.lemmas.List.{map-id, map-append, length-map, get_or-map}
use Rattle.std.proofs.lemmas.List.Sums.{sum_by_push, sum_by_more_le}
use Rattle.std.proofs.lemmas.List.FromFn.{map-range_with_len_more, length-range_with_len, get_or-range_with_len, take-map-range_with_len}
use Rattle.std.proofs.lemmas.List.Elements.{filter-append}
use Rattle.clause_list.specs.Ranges.{from_below}
use Rattle.sweep_table.specs.Tables.{Table}
use Rattle.clause_list.specs.Cones.{ahead, ahead_after, home, marked_by_both, cone_at, cones_of}
use Rattle.clause_encoder.specs.Gathering.{IsGathered}

range_more : (n : ℕ) → from_below 0 (n + 1) ≡ from_below 0 n ++ n ∷ []
unfolding from_below
range_more n =
    let e : n + 1 - 0 ≡ n + 1 = omega arith in let z : n - 0 ≡ n = omega arith in
    rw (e, z) (sym (map-id (range_with_len 0 (n + 1))) ∙ map-range_with_len_more (λ x. x) 0 n n (omega arith) ∙ ap (λ xs. xs ++ n ∷ []) (map-id (range_with_len 0 n)))

range_none : from_below 0 0 ≡ []
unfolding from_below
range_none = refl

length-range : (n : ℕ) → length (from_below 0 n) ≡ n
unfolding from_below
length-range n = length-range_with_len 0 (n - 0) ∙ omega arith

at_range : (n k : ℕ) → k < n → get_or (from_below 0 n) k 0 ≡ k
unfolding from_below
at_range n k h = get_or-range_with_len 0 (n - 0) k 0 (omega arith) ∙ omega arith

range_take : {X : Type 0} (f : ℕ → X) (n k : ℕ) → k ≤ n → take k (map f (from_below 0 n)) ≡ map f (from_below 0 k)
unfolding from_below
range_take f n k h = let e : n - 0 ≡ n = omega arith in let z : k - 0 ≡ k = omega arith in rw (e, z) (take-map-range_with_len f 0 n k h)

pub kept_none : (test : ℕ → Bool) → [] ≡ filter test (from_below 0 0)
kept_none test = ap (filter test) (sym range_none)

pub kept_more : (now new : List ℕ) (test : ℕ → Bool) (n : ℕ) → now ≡ filter test (from_below 0 n) → new ≡ now ++ filter test (n ∷ []) → new ≡ filter test (from_below 0 (n + 1))
kept_more now new test n before this =
    this ∙ (ap (λ xs. xs ++ filter test (n ∷ [])) before ∙ (sym (filter-append test (from_below 0 n) (n ∷ [])) ∙ ap (filter test) (sym (range_more n))))

pub gathered_none : (table : Table) (window last : ℕ) (marks : List Bool) → marks ≡ table.entries → IsGathered table window last 0 marks [] 0
gathered_none table window last marks same = record { marks_are = same; cones_are = ap (map (cone_at table window last)) (sym range_none); counted = refl; few = omega arith }

pub gathered_more : (table : Table) (window last step : ℕ) (marks new_marks : List Bool) (cones new_cones : List (List ℕ)) (cone : List ℕ) (count new_count : ℕ) → IsGathered table window last step marks cones count → cone ≡ cone_at table window last step → new_cones ≡ cones ++ cone ∷ [] → new_count ≡ count + length cone → new_count ≤ 2000000 → new_marks ≡ ahead_after table (nat_lt step window) marks → IsGathered table window last (step + 1) new_marks new_cones new_count
gathered_more table window last step marks new_marks cones new_cones cone count new_count old is grown size few marked =
    let one : step + 1 ≡ suc step = omega arith in
    record {
      marks_are = rw one (marked ∙ ap (ahead_after table (nat_lt step window)) old.marks_are);
      cones_are = grown ∙ (ap (λ cs. cs ++ cone ∷ []) old.cones_are ∙ (ap (λ c. map (cone_at table window last) (from_below 0 step) ++ c ∷ []) is ∙ (sym (map-append (cone_at table window last) (from_below 0 step) (step ∷ [])) ∙ ap (map (cone_at table window last)) (sym (range_more step)))));
      counted = size ∙ (ap (λ n. n + length cone) old.counted ∙ (sym (sum_by_push length cones cone) ∙ ap (sum_by length) (sym grown)));
      few = few;
    }

pub too_many : (table : Table) (window last step : ℕ) (marks : List Bool) (cones : List (List ℕ)) (cone : List ℕ) (count : ℕ) → IsGathered table window last step marks cones count → step ≤ last → cone ≡ cone_at table window last step → 2000000 < count + length cone → 2000000 < sum_by length (cones_of table window last)
too_many table window last step marks cones cone count old within is many =
    let all : List (List ℕ) = map (cone_at table window last) (from_below 0 (last + 1)) in
    let size : length all ≡ last + 1 = length-map (from_below 0 (last + 1)) (cone_at table window last) ∙ length-range (last + 1) in
    let front : take step all ≡ cones = range_take (cone_at table window last) (last + 1) step (omega arith) ∙ sym old.cones_are in
    let front_sum : sum_by length (take step all) ≡ sum_by length cones = ap (sum_by length) front in
    let this : get_or all step [] ≡ cone_at table window last step = get_or-map (cone_at table window last) (from_below 0 (last + 1)) step 0 [] (omega (arith, length-range (last + 1))) ∙ ap (cone_at table window last) (at_range (last + 1) step (omega arith)) in
    let this_size : length (get_or all step []) ≡ length cone = ap length (this ∙ sym is) in
    let total : sum_by length (take step all) + length (get_or all step []) ≤ sum_by length all = sum_by_more_le length all step [] (omega arith) in
    omega (arith, front_sum, this_size, total, old.counted, many)

-- the row of marks that lead home from a step
pub home_row : (table : Table) (last step : ℕ) (homes : List (List Bool)) (d : List Bool) → homes ≡ map (home table) (from_below 0 (last + 1)) → step ≤ last → (last - step < length homes) × (get_or homes (last - step) d ≡ home table (last - step))
home_row table last step homes d same within =
    let count : length homes ≡ last + 1 = ap length same ∙ length-map (from_below 0 (last + 1)) (home table) ∙ length-range (last + 1) in
    (omega arith, ap (λ xs. get_or xs (last - step) d) same ∙ get_or-map (home table) (from_below 0 (last + 1)) (last - step) 0 d (omega (arith, length-range (last + 1))) ∙ ap (home table) (at_range (last + 1) (last - step) (omega arith)))

-- what both mark is the cone of the step
pub is_cone : (table : Table) (window last step count : ℕ) (marks row : List Bool) (items : List ℕ) → items ≡ marked_by_both count marks row → count ≡ length table.cells → marks ≡ ahead table window step → row ≡ home table (last - step) → items ≡ cone_at table window last step
unfolding cone_at
is_cone table window last step count marks row items marked c m r =
    marked ∙ (ap (λ n. marked_by_both n marks row) c ∙ (ap (λ xs. marked_by_both (length table.cells) xs row) m ∙ ap (λ xs. marked_by_both (length table.cells) (ahead table window step) xs) r))
