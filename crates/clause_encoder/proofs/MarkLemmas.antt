-- Steps of the loops that mark items.
use Rattle.std.proofs.Common.{◌≡◌, ℕ, zero, suc, ◌+◌, ◌-◌, ◌^◌, ◌<◌, ◌≤◌, Bool, false, List, [], ◌∷◌, ◌++◌, length, map, take, get_or, refl, sym, ap, ◌∙◌, arith}
use Rattle.std.proofs.lemmas.List.{take_more, take_all}
use Rattle.std.proofs.lemmas.List.FromFn.{map-range_with_len_more, length-map-range_with_len}
use Rattle.sweep_table.specs.Tables.{Table}
use Rattle.clause_list.specs.Ranges.{from_below}
use Rattle.clause_list.specs.Cones.{home, home_before}

-- the rows of one number more
rows_more : {X : Type 0} (test : ℕ → X) (n : ℕ) → map test (from_below 0 (n + 1)) ≡ map test (from_below 0 n) ++ test n ∷ []
unfolding from_below
rows_more test n = let e : n + 1 - 0 ≡ n + 1 = omega arith in let z : n - 0 ≡ n = omega arith in rw (e, z) (map-range_with_len_more test 0 n n (omega arith))

pub map_below_more : (test : ℕ → Bool) (n : ℕ) → map test (from_below 0 (n + 1)) ≡ map test (from_below 0 n) ++ test n ∷ []
unfolding from_below
map_below_more test n = let e : n + 1 - 0 ≡ n + 1 = omega arith in let z : n - 0 ≡ n = omega arith in rw (e, z) (map-range_with_len_more test 0 n n (omega arith))

pub map_below_none : (test : ℕ → Bool) → map test (from_below 0 0) ≡ []
unfolding from_below
map_below_none test = refl

-- a vector of the tests of the numbers so far, and one more
pub pushed_more : {X : Type 0} (test : ℕ → X) (n : ℕ) (old new : List X) (b : X) → old ≡ map test (from_below 0 n) → new ≡ old ++ b ∷ [] → b ≡ test n → new ≡ map test (from_below 0 (n + 1))
pushed_more test n old new b before this same = this ∙ ap (λ xs. xs ++ b ∷ []) before ∙ ap (λ c. map test (from_below 0 n) ++ c ∷ []) same ∙ sym (rows_more test n)

-- so many marks are few
pub marks_few : (test : ℕ → Bool) (n : ℕ) (marks : List Bool) → marks ≡ map test (from_below 0 n) → n ≤ 50000 → length marks < 2 ^ 32 - 1
unfolding from_below
marks_few test n marks same few = let size : length marks ≡ n - 0 = ap length same ∙ length-map-range_with_len test 0 (n - 0) in omega (arith, size)

map_take : (bs : List Bool) (n : ℕ) → n ≤ length bs → map (λ w. get_or bs w false) (from_below 0 n) ≡ take n bs
map_take bs zero within = map_below_none (λ w. get_or bs w false)
map_take bs (suc n) within =
    let number : suc n ≡ n + 1 = omega arith in
    let front = map_take bs n (omega arith) in
    ap (λ m. map (λ w. get_or bs w false) (from_below 0 m)) number ∙ (map_below_more (λ w. get_or bs w false) n ∙ (ap (λ xs. xs ++ get_or bs n false ∷ []) front ∙ (sym (take_more bs n false (omega arith)) ∙ ap (λ m. take m bs) (sym number))))

-- the marks of all items, one by one
pub map_all : (bs : List Bool) (n : ℕ) → n ≡ length bs → map (λ w. get_or bs w false) (from_below 0 n) ≡ bs
map_all bs n same = map_take bs n (omega arith) ∙ take_all n bs (omega arith)

-- one row of marks more, where the number of steps is named twice
pub homes_more : (table : Table) (k : ℕ) (old new : List (List Bool)) (marks : List Bool) → old ≡ map (home table) (from_below 0 k) → marks ≡ home table k → new ≡ old ++ marks ∷ [] → new ≡ map (home table) (from_below 0 (k + 1))
homes_more table k old new marks before this grown =
    grown ∙ (ap (λ xs. xs ++ marks ∷ []) before ∙ (ap (λ m. map (home table) (from_below 0 k) ++ m ∷ []) this ∙ sym (rows_more (home table) k)))

pub next_home : (table : Table) (k : ℕ) (marks new : List Bool) → marks ≡ home table k → new ≡ home_before table marks → new ≡ home table (k + 1)
next_home table k marks new this step = let number : suc k ≡ k + 1 = omega arith in step ∙ (ap (home_before table) this ∙ ap (home table) number)

pub rows_none : {X : Type 0} (test : ℕ → X) → map test (from_below 0 0) ≡ []
unfolding from_below
rows_none test = refl
