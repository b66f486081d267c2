-- The cells of a section: their places among one another, and the numbers of their gaps by these places.
use Rattle.std.proofs.Common.{◌≡◌, ◌≢◌, ℕ, zero, suc, ◌+◌, ◌-◌, ◌*◌, ◌<◌, ◌≤◌, Bool, true, false, cond, List, [], ◌∷◌, length, get_or, take, drop, filter, refl, sym, ap, ◌∙◌, subst, ⊎_elim, arith, length-drop}
use Rattle.std.specs.Prelude.{All, AllPairs, Contains, nat_eq, nat_lt, ◌&&◌, slice_index}
use Rattle.std.specs.List.{sum_by, position_or_len, range_with_len}
use Rattle.std.proofs.lemmas.Bool.{eq-eqb, cases_Bool, lt-ltb, le-ltb}
use Rattle.std.proofs.lemmas.Bool.Decides.{eqb_tells}
use Rattle.std.proofs.lemmas.List.Kept.{AllPairs-filter}
use Rattle.std.proofs.lemmas.List.Sums.{sum_by_more, sum_by-le}
use Rattle.clause_list.specs.Ranges.{below, from_below}
use Rattle.clause_list.specs.Numbers.{Network, is_same_section, section_of, above, gap, gaps_below}
use Rattle.clause_list.specs.Orders.{place_in_section, first_gap}
use Rattle.clause_list.proofs.ListLaws.{first_place, places_rise, range_rises, in_range, filter_keeps, length-below, below_take, at_below}

-- what passes of a range and is above a number below it is what passes
all_above : (test : ℕ → Bool) (e from count : ℕ) → e < from → filter (λ f. nat_lt e f && test f) (range_with_len from count) ≡ filter test (range_with_len from count)
all_above test e from zero less = refl
all_above test e from (suc count) less =
    let rest : List ℕ = range_with_len (from + 1) count in
    let others : filter (λ f. nat_lt e f && test f) rest ≡ filter test rest = all_above test e (from + 1) count (omega arith) in
    ap (λ b. cond (b && test from) (from ∷ filter (λ f. nat_lt e f && test f) rest) (filter (λ f. nat_lt e f && test f) rest)) (lt-ltb e from less)
    ∙ ap (λ xs. cond (test from) (from ∷ xs) xs) others

behind_first : (e x : ℕ) (xs : List ℕ) → nat_eq e x ≡ true → drop (position_or_len (nat_eq e) (x ∷ xs) + 1) (x ∷ xs) ≡ xs
behind_first e x xs here = rw here refl

behind_later : (e x : ℕ) (xs : List ℕ) → nat_eq e x ≡ false → drop (position_or_len (nat_eq e) (x ∷ xs) + 1) (x ∷ xs) ≡ drop (position_or_len (nat_eq e) xs + 1) xs
behind_later e x xs other =
    let place : position_or_len (nat_eq e) (x ∷ xs) ≡ 1 + position_or_len (nat_eq e) xs = rw other refl in
    let next : position_or_len (nat_eq e) (x ∷ xs) + 1 ≡ suc (position_or_len (nat_eq e) xs + 1) = omega arith in
    ap (λ n. drop n (x ∷ xs)) next

-- of what passes in a range, what is above a number that passes is what comes behind it
above_in : (test : ℕ → Bool) (e from count : ℕ) → from ≤ e → e < from + count → test e ≡ true → filter (λ f. nat_lt e f && test f) (range_with_len from count) ≡ drop (position_or_len (nat_eq e) (filter test (range_with_len from count)) + 1) (filter test (range_with_len from count))
above_in test e from zero h k passes = absurd (omega arith)
above_in test e from (suc count) h k passes =
    let rest : List ℕ = range_with_len (from + 1) count in
    let higher : List ℕ = filter (λ f. nat_lt e f && test f) rest in
    let kept : List ℕ = filter test rest in
    let skips : filter (λ f. nat_lt e f && test f) (range_with_len from (suc count)) ≡ higher = ap (λ b. cond (b && test from) (from ∷ higher) higher) (le-ltb e from h) in
    ⊎_elim
    (λ here.
    let this : test from ≡ true = subst (λ n. test n ≡ true) here.1 passes in
    let all : filter test (range_with_len from (suc count)) ≡ from ∷ kept = ap (λ b. cond b (from ∷ kept) kept) this in
    skips ∙ (all_above test e (from + 1) count (omega arith) ∙ (sym (behind_first e from kept here.0) ∙ ap (λ xs. drop (position_or_len (nat_eq e) xs + 1) xs) (sym all))))
    (λ other.
    let differ : e ≢ from = other.1 in
    let others : higher ≡ drop (position_or_len (nat_eq e) kept + 1) kept = above_in test e (from + 1) count (omega arith) (omega arith) passes in
    skips ∙ (others ∙ ⊎_elim
    (λ keeps.
    let all : filter test (range_with_len from (suc count)) ≡ from ∷ kept = ap (λ b. cond b (from ∷ kept) kept) keeps in
    sym (behind_later e from kept other.0) ∙ ap (λ xs. drop (position_or_len (nat_eq e) xs + 1) xs) (sym all))
    (λ fails.
    let all : filter test (range_with_len from (suc count)) ≡ kept = ap (λ b. cond b (from ∷ kept) kept) fails in
    ap (λ xs. drop (position_or_len (nat_eq e) xs + 1) xs) (sym all))
    (cases_Bool (test from))))
    (eqb_tells e from)

-- behind so many items a place is by so many lower
place_behind : (test : ℕ → Bool) (xs : List ℕ) (m : ℕ) → m ≤ position_or_len test xs → position_or_len test (drop m xs) ≡ position_or_len test xs - m
place_behind test xs zero within = omega arith
place_behind test [] (suc m) within = absurd (omega arith)
place_behind test (x ∷ xs) (suc m) within = ⊎_elim
    (λ passes. absurd (let none : position_or_len test (x ∷ xs) ≡ 0 = rw passes refl in omega arith))
    (λ fails.
    let more : position_or_len test (x ∷ xs) ≡ 1 + position_or_len test xs = rw fails refl in
    let others : position_or_len test (drop m xs) ≡ position_or_len test xs - m = place_behind test xs m (omega arith) in
    others ∙ omega arith)
    (cases_Bool (test x))

-- a cell is one of its section
pub in_own_section : (net : Network) (e : ℕ) → e < length net.sections → Contains (section_of net e) e
in_own_section net e within = filter_keeps (is_same_section net e) (below (length net.sections)) e (eq-eqb (slice_index net.sections e) (slice_index net.sections e) refl) (in_range 0 (length net.sections) e (omega arith) within)

pub section_rises : (net : Network) (e : ℕ) → AllPairs (λ x y. x < y) (section_of net e)
section_rises net e = AllPairs-filter (λ x y. x < y) (is_same_section net e) (below (length net.sections)) (range_rises 0 (length net.sections))

-- those above a cell stand behind it in its section
pub above_is : (net : Network) (e : ℕ) → e < length net.sections → above net e ≡ drop (place_in_section net e + 1) (section_of net e)
unfolding from_below
above_is net e within = above_in (is_same_section net e) e 0 (length net.sections - 0) (omega arith) (omega arith) (eq-eqb (slice_index net.sections e) (slice_index net.sections e) refl)

pub place_within : (net : Network) (e : ℕ) → e < length net.sections → place_in_section net e < length (section_of net e)
place_within net e within = (first_place (section_of net e) e (in_own_section net e within)).0

pub length-above : (net : Network) (e : ℕ) → e < length net.sections → length (above net e) ≡ length (section_of net e) - (place_in_section net e + 1)
length-above net e within = ap length (above_is net e within) ∙ omega (arith, length-drop (place_in_section net e + 1) (section_of net e))

one_section : (net : Network) (e f : ℕ) → slice_index net.sections e ≡ slice_index net.sections f → section_of net e ≡ section_of net f
one_section net e f same = ap (λ s. filter (λ g. nat_eq s (slice_index net.sections g)) (below (length net.sections))) same

pub places_of_section : (net : Network) (e f : ℕ) → e < f → f < length net.sections → slice_index net.sections e ≡ slice_index net.sections f → (place_in_section net e < place_in_section net f) × (gap net e f ≡ first_gap net e + (place_in_section net f - place_in_section net e - 1))
places_of_section net e f less within same =
    let alike : section_of net e ≡ section_of net f = one_section net e f same in
    let inside : Contains (section_of net e) f = subst (λ xs. Contains xs f) (sym alike) (in_own_section net f within) in
    let rise : place_in_section net e < position_or_len (nat_eq f) (section_of net e) = places_rise (section_of net e) e f (section_rises net e) (in_own_section net e (omega arith)) inside less in
    let place : position_or_len (nat_eq f) (section_of net e) ≡ place_in_section net f = ap (position_or_len (nat_eq f)) alike in
    let behind : position_or_len (nat_eq f) (above net e) ≡ position_or_len (nat_eq f) (section_of net e) - (place_in_section net e + 1) = ap (position_or_len (nat_eq f)) (above_is net e (omega arith)) ∙ place_behind (nat_eq f) (section_of net e) (place_in_section net e + 1) (omega arith) in
    (omega arith, omega arith)

-- the numbers of the next cell's gaps stand behind those of the cell
pub next_gap : (net : Network) (e : ℕ) → e < length net.sections → first_gap net (e + 1) ≡ first_gap net e + length (above net e)
next_gap net e within =
    let cells : ℕ = length net.sections in
    let count : ℕ → ℕ = λ d. length (above net d) in
    let front : gaps_below net e ≡ sum_by count (take e (below cells)) = ap (sum_by count) (sym (below_take e cells (omega arith))) in
    let next : gaps_below net (e + 1) ≡ sum_by count (take (e + 1) (below cells)) = ap (sum_by count) (sym (below_take (e + 1) cells (omega arith))) in
    let more : sum_by count (take (e + 1) (below cells)) ≡ sum_by count (take e (below cells)) + count (get_or (below cells) e 0) = sum_by_more count (below cells) e 0 (omega (arith, length-below cells)) in
    let this : count (get_or (below cells) e 0) ≡ count e = ap count (at_below cells e 0 within) in
    omega arith

length-filter-le : {X : Type 0} (test : X → Bool) (xs : List X) → length (filter test xs) ≤ length xs
length-filter-le test [] = omega arith
length-filter-le test (x ∷ xs) = let others : length (filter test xs) ≤ length xs = length-filter-le test xs in ⊎_elim (λ passes. rw passes (omega arith)) (λ fails. rw fails (omega arith)) (cases_Bool (test x))

-- there are no more gaps than pairs of cells
pub few_gaps : (net : Network) (e : ℕ) → gaps_below net e ≤ e * length net.sections
few_gaps net e =
    let cells : ℕ = length net.sections in
    let each : All (λ d. length (above net d) ≤ cells) (below e) = λ k d within. omega (arith, length-below cells, length-filter-le (λ f. nat_lt (get_or (below e) k d) f && is_same_section net (get_or (below e) k d) f) (below cells)) in
    let total : sum_by (λ d. length (above net d)) (below e) ≤ length (below e) * cells = sum_by-le (λ d. length (above net d)) cells (below e) each in
    let count : length (below e) ≡ e = length-below e in
    subst (λ n. gaps_below net e ≤ n * cells) count total

-- a section has no more cells than there are
pub few_in_section : (net : Network) (e : ℕ) → length (section_of net e) ≤ length net.sections
few_in_section net e = omega (arith, length-below (length net.sections), length-filter-le (is_same_section net e) (below (length net.sections)))

-- the first gap of all comes behind the borders
pub first_of_gaps : (net : Network) → first_gap net 0 ≡ net.candidates + 1
unfolding from_below
first_of_gaps net = omega arith
