-- Lists of numbers: members of ranges and of what a filter keeps, and where an item stands first.
use Rattle.std.proofs.Common.{◌≡◌, ◌≢◌, ℕ, zero, suc, ◌+◌, ◌-◌, ◌<◌, ◌≤◌, Bool, true, false, List, [], ◌∷◌, length, get_or, take, cond, filter, refl, sym, ap, ◌∙◌, subst, ⊎_elim, arith}
use Rattle.std.specs.Prelude.{AllPairs, Contains, nat_eq, ◌||◌, ◌&&◌}
use Rattle.std.specs.List.{position_or_len, range_with_len, list_any}
use Rattle.std.proofs.lemmas.Bool.{eq-eqb, cases_Bool, cases_lt, false≢true}
use Rattle.std.proofs.lemmas.Bool.Decides.{eqb_tells}
use Rattle.std.proofs.lemmas.List.{map-id}
use Rattle.std.proofs.lemmas.List.FromFn.{length-range_with_len, get_or-range_with_len, take-map-range_with_len}
use Rattle.clause_list.specs.Ranges.{from_below, below}

-- an item of a list has a first place there
pub first_place : (xs : List ℕ) (w : ℕ) → Contains xs w → (position_or_len (nat_eq w) xs < length xs) × (get_or xs (position_or_len (nat_eq w) xs) 0 ≡ w)
first_place [] w (k, within, same) = absurd (omega arith)
first_place (x ∷ xs) w (zero, within, same) = let h : nat_eq w x ≡ true = eq-eqb w x (sym same) in rw h (omega arith, same)
first_place (x ∷ xs) w (suc k, within, same) = ⊎_elim
    (λ e. let h : nat_eq w x ≡ true = e.0 in rw h (omega arith, sym e.1))
    (λ n. let h : nat_eq w x ≡ false = n.0 in
    let others = first_place xs w (k, omega arith, same) in
    let inside : position_or_len (nat_eq w) xs < length xs = others.0 in
    let one : 1 + position_or_len (nat_eq w) xs ≡ suc (position_or_len (nat_eq w) xs) = omega arith in
    rw (h, one) (omega arith, others.1))
    (eqb_tells w x)

-- in a rising list the lower of two items stands before the other
pub places_rise : (xs : List ℕ) (v w : ℕ) → AllPairs (λ x y. x < y) xs → Contains xs v → Contains xs w → v < w → position_or_len (nat_eq v) xs < position_or_len (nat_eq w) xs
places_rise xs v w rising one other less =
    let (v_in, v_is) = first_place xs v one in
    let (w_in, w_is) = first_place xs w other in
    let i : ℕ = position_or_len (nat_eq v) xs in
    let j : ℕ = position_or_len (nat_eq w) xs in
    ⊎_elim
    (λ h. h)
    (λ h. ⊎_elim
    (λ e. let same : get_or xs i 0 ≡ get_or xs j 0 = ap (λ k. get_or xs k 0) e.1 in absurd (omega arith))
    (λ n. let differ : i ≢ j = n.1 in let more : get_or xs j 0 < get_or xs i 0 = rising j i 0 (omega arith) v_in in absurd (omega arith))
    (eqb_tells i j))
    (cases_lt i j)

pub in_range_is : (from end t : ℕ) → Contains (from_below from end) t → (from ≤ t) × (t < end)
unfolding from_below
in_range_is from end t (k, within, same) =
    let few : k < end - from = subst (λ n. k < n) (length-range_with_len from (end - from)) within in
    let at : from + k ≡ t = sym (get_or-range_with_len from (end - from) k t few) ∙ same in
    (omega arith, omega arith)

pub in_range : (from end t : ℕ) → from ≤ t → t < end → Contains (from_below from end) t
unfolding from_below
in_range from end t h k = (t - from, rw length-range_with_len (omega arith), get_or-range_with_len from (end - from) (t - from) t (omega arith) ∙ omega arith)

-- ranges rise
pub range_rises : (from end : ℕ) → AllPairs (λ x y. x < y) (from_below from end)
unfolding from_below
range_rises from end i j d h k =
    let few : j < end - from = subst (λ n. j < n) (length-range_with_len from (end - from)) k in
    let one : get_or (from_below from end) i d ≡ from + i = get_or-range_with_len from (end - from) i d (omega arith) in
    let other : get_or (from_below from end) j d ≡ from + j = get_or-range_with_len from (end - from) j d few in
    omega arith

pub length-from_below : (from end : ℕ) → length (from_below from end) ≡ end - from
unfolding from_below
length-from_below from end = length-range_with_len from (end - from)

pub length-below : (n : ℕ) → length (below n) ≡ n
length-below n = length-from_below 0 n ∙ omega arith

pub at_below : (n k d : ℕ) → k < n → get_or (below n) k d ≡ k
unfolding from_below
at_below n k d h = get_or-range_with_len 0 (n - 0) k d (omega arith) ∙ omega arith

-- the numbers below a number that isn't above n are the first of those below n
pub below_take : (e n : ℕ) → e ≤ n → take e (below n) ≡ below e
unfolding from_below
below_take e n h = ap (take e) (sym (map-id (range_with_len 0 (n - 0)))) ∙ take-map-range_with_len (λ x. x) 0 (n - 0) e (omega arith) ∙ map-id (range_with_len 0 e) ∙ ap (range_with_len 0) (omega arith)

in_rest : {X : Type 0} (test : X → Bool) (ys : List X) (y x : X) → (test x ≡ true) × Contains ys x → (test x ≡ true) × Contains (y ∷ ys) x
in_rest test ys y x (passes, (k, within, same)) = (passes, (suc k, omega arith, same))

-- what a filter keeps passes, and was there
pub filter_is : {X : Type 0} (test : X → Bool) (xs : List X) (x : X) → Contains (filter test xs) x → (test x ≡ true) × Contains xs x
filter_is test [] x (k, within, same) = absurd (omega arith)
filter_is test (y ∷ ys) x inside = ⊎_elim
    (λ passes. kept passes (filter_is test ys x) (subst (λ zs. Contains zs x) (ap (λ b. cond b (y ∷ filter test ys) (filter test ys)) passes) inside))
    (λ fails. in_rest test ys y x (filter_is test ys x (subst (λ zs. Contains zs x) (ap (λ b. cond b (y ∷ filter test ys) (filter test ys)) fails) inside)))
    (cases_Bool (test y))
  where
    kept : test y ≡ true → (Contains (filter test ys) x → (test x ≡ true) × Contains ys x) → Contains (y ∷ filter test ys) x → (test x ≡ true) × Contains (y ∷ ys) x
    kept at_first others (zero, within, same) = (subst (λ z. test z ≡ true) same at_first, (0, omega arith, same))
    kept at_first others (suc k, within, same) = in_rest test ys y x (others (k, omega arith, same))

-- and what passes and was there is kept
pub filter_keeps : {X : Type 0} (test : X → Bool) (xs : List X) (x : X) → test x ≡ true → Contains xs x → Contains (filter test xs) x
filter_keeps test [] x passes (k, within, same) = absurd (omega arith)
filter_keeps test (y ∷ ys) x passes (zero, within, same) = let h : test y ≡ true = subst (λ z. test z ≡ true) (sym same) passes in rw h (0, omega arith, same)
filter_keeps test (y ∷ ys) x passes (suc k, within, same) = ⊎_elim
    (λ at_first. let (i, inside, at) = filter_keeps test ys x passes (k, omega arith, same) in rw at_first (suc i, omega arith, at))
    (λ fails. rw fails (filter_keeps test ys x passes (k, omega arith, same)))
    (cases_Bool (test y))

-- a test finds what is there, and only that
pub is_in : (xs : List ℕ) (w : ℕ) → Contains xs w → list_any (nat_eq w) xs ≡ true
is_in [] w (k, within, same) = absurd (omega arith)
is_in (x ∷ xs) w (zero, within, same) = let h : nat_eq w x ≡ true = eq-eqb w x (sym same) in rw h refl
is_in (x ∷ xs) w (suc k, within, same) = let others : list_any (nat_eq w) xs ≡ true = is_in xs w (k, omega arith, same) in ⊎_elim
    (λ e. rw e.0 refl)
    (λ n. rw n.0 others)
    (eqb_tells w x)

pub is_there : (xs : List ℕ) (w : ℕ) → list_any (nat_eq w) xs ≡ true → Contains xs w
is_there [] w found = absurd (false≢true found)
is_there (x ∷ xs) w found = ⊎_elim
    (λ e. (0, omega arith, sym e.1))
    (λ n. let (k, within, same) = is_there xs w (subst (λ b. (b || list_any (nat_eq w) xs) ≡ true) n.0 found) in (suc k, omega arith, same))
    (eqb_tells w x)

-- what equality and conjunction of tests say
pub same_number : (v w : ℕ) → nat_eq v w ≡ true → v ≡ w
same_number v w test = ⊎_elim (λ e. e.1) (λ n. absurd (false≢true (sym n.0 ∙ test))) (eqb_tells v w)

pub both_true : (one other : Bool) → (one && other) ≡ true → (one ≡ true) × (other ≡ true)
both_true true other test = (refl, test)
both_true false other test = absurd (false≢true test)
