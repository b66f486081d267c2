-- The values of a layout satisfy the clauses of borders, of gaps, and of two trains that are apart.
use Rattle.std.proofs.Common.{◌≡◌, ◌≢◌, ℕ, zero, suc, ◌+◌, ◌<◌, ◌≤◌, Bool, true, false, cond, List, [], ◌∷◌, length, take, get_or, map, refl, sym, ap, ◌∙◌, subst, ⊎_elim, arith}
use Rattle.std.specs.Prelude.{All, Contains, not, nat_eq, max, min, ◌||◌}
use Rattle.std.specs.List.{list_any, list_all, sum_by, position_or_len}
use Rattle.std.proofs.lemmas.Bool.{eq-eqb, cases_Bool, cases_lt, false≢true, false_from_ne_true}
use Rattle.std.proofs.lemmas.List.{get_or-map, length-map}
use Rattle.std.proofs.lemmas.List.Sums.{sum_by-cons}
use Rattle.std.proofs.lemmas.List.Elements.{All-contains}
use Rattle.std.proofs.Math.Nat.{le-max_left, le-max_right, min-le_left, min-le_right}
use Rattle.sat_core.specs.declared.literal.Lit.{Lit}
use Rattle.sat_core.specs.Clauses.{Satisfies, SatisfiesAll}
use Rattle.cell_net.specs.declared.ids.CandidateId.{CandidateId}
use Rattle.clause_list.specs.Ranges.{below}
use Rattle.clause_list.specs.Numbers.{CodedTrain, Network, is, is_not, is_same_section, section_of, above, border, gap, gaps_below, touch}
use Rattle.clause_list.specs.RunClauses.{where_}
use Rattle.clause_list.specs.BorderClauses.{kept, kept_alone, kept_clauses, given, given_clauses, border_on_walk, borders_between, borders_from, gap_clauses}
use Rattle.clause_list.specs.PairClauses.{common_steps, apart, apart_from, apart_at, apart_clauses}
use Rattle.clause_list.specs.Orders.{AreOver, AreWalksOver}
use Rattle.clause_list.proofs.ListLaws.{first_place, in_range_is, length-below, at_below, below_take, both_true, same_number}
use Rattle.clause_list.proofs.BorderLaws.{above_lower, section_member, same_section_back}
use Rattle.plan_values.specs.Values.{stands, border_values, is_cut, gap_values}
use Rattle.plan_values.specs.Meanings.{Is, BordersMean}
use Rattle.plan_values.proofs.Making.{this_one, other_one, make_true, make_false, here, later, make_any, make_each, make_one, make_where}
use Rattle.plan_values.proofs.PartLaws.{IsPart, row_part, map_part, is_as}

sums_of : {X Y : Type 0} (f : X → List Y) (xs : List X) (i : ℕ) → sum_by length (take i (map f xs)) ≡ sum_by (λ x. length (f x)) (take i xs)
sums_of f xs zero = refl
sums_of f [] (suc i) = refl
sums_of f (x ∷ xs) (suc i) =
    let others : sum_by length (take i (map f xs)) ≡ sum_by (λ y. length (f y)) (take i xs) = sums_of f xs i in
    let one : sum_by length (f x ∷ take i (map f xs)) ≡ length (f x) + sum_by length (take i (map f xs)) = sum_by-cons length (f x) (take i (map f xs)) in
    let other : sum_by (λ y. length (f y)) (x ∷ take i xs) ≡ length (f x) + sum_by (λ y. length (f y)) (take i xs) = sum_by-cons (λ y. length (f y)) x (take i xs) in
    omega arith

pub sums_all_of : {X Y : Type 0} (f : X → List Y) (xs : List X) → sum_by length (map f xs) ≡ sum_by (λ x. length (f x)) xs
sums_all_of f [] = refl
sums_all_of f (x ∷ xs) =
    let others : sum_by length (map f xs) ≡ sum_by (λ y. length (f y)) xs = sums_all_of f xs in
    let one : sum_by length (f x ∷ map f xs) ≡ length (f x) + sum_by length (map f xs) = sum_by-cons length (f x) (map f xs) in
    let other : sum_by (λ y. length (f y)) (x ∷ xs) ≡ length (f x) + sum_by (λ y. length (f y)) xs = sum_by-cons (λ y. length (f y)) x xs in
    omega arith

border_is : (values : List Bool) (net : Network) (borders : List CandidateId) (c : ℕ) → IsPart values 1 (border_values net borders) → c < net.candidates → Is values (border c) (stands borders c)
border_is values net borders c part within =
    is_as values (1 + c) (border c) (stands borders (get_or (below net.candidates) c 0)) (stands borders c) (omega arith) (ap (stands borders) (at_below net.candidates c 0 within))
    (map_part values 1 (stands borders) (below net.candidates) c 0 part (omega (arith, length-below net.candidates)))

gap_is : (values : List Bool) (walks : ℕ → ℕ → List (List CandidateId)) (net : Network) (borders : List CandidateId) (e f : ℕ) → IsPart values (net.candidates + 1) (gap_values walks net borders) → e < length net.sections → Contains (above net e) f → Is values (gap net e f) (is_cut walks borders e f)
gap_is values walks net borders e f part within inside =
    let cells : ℕ = length net.sections in
    let lists : List (List ℕ) = map (above net) (below cells) in
    let (place_in, at) = first_place (above net e) f inside in
    let place : ℕ = position_or_len (nat_eq f) (above net e) in
    let this : get_or lists e [] ≡ above net e = get_or-map (above net) (below cells) e 0 [] (omega (arith, length-below cells)) ∙ ap (above net) (at_below cells e 0 within) in
    let front : sum_by length (take e lists) ≡ gaps_below net e = sums_of (above net) (below cells) e ∙ ap (sum_by (λ d. length (above net d))) (below_take e cells (omega arith)) in
    let long : length (get_or lists e []) ≡ length (above net e) = ap length this in
    is_as values (net.candidates + 1 + sum_by length (take e lists) + place) (gap net e f) (is_cut walks borders (0 + e) (get_or (get_or lists e []) place 0)) (is_cut walks borders e f) (omega arith)
    (ap (λ d. is_cut walks borders d (get_or (get_or lists e []) place 0)) (omega arith) ∙ ap (is_cut walks borders e) (ap (λ c. get_or c place 0) this ∙ at))
    (row_part values (net.candidates + 1) (is_cut walks borders) 0 lists e place 0 part (omega (arith, length-map (below cells) (above net), length-below cells)) (omega arith))

pub borders_mean : (values : List Bool) (walks : ℕ → ℕ → List (List CandidateId)) (net : Network) (borders : List CandidateId) → IsPart values 1 (border_values net borders) → IsPart values (net.candidates + 1) (gap_values walks net borders) → BordersMean values walks net borders
borders_mean values walks net borders part part_too = record {
  border = λ c within. border_is values net borders c part within;
  gap = λ e f within inside. gap_is values walks net borders e f part_too within inside;
}

-- a border of the layout stands
pub border_stands : (borders : List CandidateId) (b : CandidateId) → Contains borders b → stands borders b.0 ≡ true
border_stands [] b (k, within, same) = absurd (omega arith)
border_stands (x ∷ xs) b (zero, within, same) = this_one (nat_eq b.0 x.0) (stands xs b.0) (eq-eqb b.0 x.0 (ap (λ (c : CandidateId). c.0) (sym same)))
border_stands (x ∷ xs) b (suc k, within, same) = other_one (nat_eq b.0 x.0) (stands xs b.0) (border_stands xs b (k, omega arith, same))

pub kept_holds : (values : List Bool) (walks : ℕ → ℕ → List (List CandidateId)) (net : Network) (borders : List CandidateId) → BordersMean values walks net borders → AreOver net net.kept → All (Contains borders) net.kept → SatisfiesAll values (kept_clauses net)
unfolding kept_clauses kept
kept_holds values walks net borders mean over all =
    make_each values kept_alone net.kept (λ c inside. make_one values (kept c) (
    let within : c.0 < net.candidates = All-contains (λ c. c.0 < net.candidates) net.kept c over inside in
    here values (is (border c.0)) [] (make_true values (border c.0) (stands borders c.0) (mean.border c.0 within) (border_stands borders c (All-contains (Contains borders) net.kept c all inside)))))

given_one : (values : List Bool) (c : ℕ) (truth : Bool) → Is values (border c) truth → Satisfies values (cond truth (is (border c)) (is_not (border c)) ∷ [])
given_one values c true mean = here values (is (border c)) [] (make_true values (border c) true mean refl)
given_one values c false mean = here values (is_not (border c)) [] (make_false values (border c) false mean refl)

pub given_holds : (values : List Bool) (walks : ℕ → ℕ → List (List CandidateId)) (net : Network) (borders : List CandidateId) → BordersMean values walks net borders → SatisfiesAll values (given_clauses net borders)
unfolding given_clauses given
given_holds values walks net borders mean =
    make_each values (λ c. given borders c ∷ []) (below net.candidates) (λ c inside. make_one values (given borders c) (
    let (h, within) = in_range_is 0 net.candidates c inside in
    given_one values c (stands borders c) (mean.border c within)))

-- what a test of each, or of one, says of a list
pub each_passes : {X : Type 0} (test : X → Bool) (xs : List X) (x : X) → list_all test xs ≡ true → Contains xs x → test x ≡ true
each_passes test [] x all (k, within, same) = absurd (omega arith)
each_passes test (y ∷ ys) x all (zero, within, same) = subst (λ z. test z ≡ true) same (both_true (test y) (list_all test ys) all).0
each_passes test (y ∷ ys) x all (suc k, within, same) = each_passes test ys x (both_true (test y) (list_all test ys) all).1 (k, omega arith, same)

pub one_passes : {X : Type 0} (test : X → Bool) (xs : List X) → list_any test xs ≡ true → (x : X) × Contains xs x × (test x ≡ true)
one_passes test [] found = absurd (false≢true found)
one_passes test (x ∷ xs) found = ⊎_elim
    (λ passes. (x, (0, omega arith, refl), passes))
    (λ fails. let (y, (k, within, same), passes) = one_passes test xs (subst (λ b. (b || list_any test xs) ≡ true) fails found) in (y, (suc k, omega arith, same), passes))
    (cases_Bool (test x))

pub gap_holds : (values : List Bool) (walks : ℕ → ℕ → List (List CandidateId)) (net : Network) (borders : List CandidateId) → BordersMean values walks net borders → AreWalksOver net walks → SatisfiesAll values (gap_clauses walks net)
unfolding gap_clauses borders_from borders_between border_on_walk
gap_holds values walks net borders mean over =
    make_each values (borders_from walks net) (below (length net.sections)) (λ e cell. let (h, within) = in_range_is 0 (length net.sections) e cell in
    make_each values (borders_between walks net e) (above net e) (λ f inside.
    make_each values (λ walk. border_on_walk net e f walk ∷ []) (walks e f) (λ walk on. make_one values (border_on_walk net e f walk) (
    let rest : List Lit = map (λ c. is (border c.0)) walk in
    ⊎_elim
    (λ cut.
    let (c, there, standing) = one_passes (λ (c : CandidateId). stands borders c.0) walk (each_passes (λ (w : List CandidateId). list_any (λ (c : CandidateId). stands borders c.0) w) (walks e f) walk cut on) in
    let few : c.0 < net.candidates = All-contains (λ c. c.0 < net.candidates) walk c (All-contains (AreOver net) (walks e f) walk (over.over e f within inside) on) there in
    later values (is_not (gap net e f)) rest (make_any values (λ (c : CandidateId). border c.0) walk c there (make_true values (border c.0) (stands borders c.0) (mean.border c.0 few) standing)))
    (λ uncut. here values (is_not (gap net e f)) rest (make_false values (gap net e f) (is_cut walks borders e f) (mean.gap e f within inside) uncut))
    (cases_Bool (is_cut walks borders e f))))))

-- no two cells that both trains touch at a step are one, or without a border on each walk between them
pub record KeepApart (walks : ℕ → ℕ → List (List CandidateId)) (net : Network) (borders : List CandidateId) (one other : ℕ → ℕ → Bool) : Type 0 where
  pub differ : (t e : ℕ) → one t e ≡ true → other t e ≡ true → ⊥
  pub cut : (t e f : ℕ) → e < length net.sections → f < length net.sections → is_same_section net e f ≡ true → e ≢ f → one t e ≡ true → other t f ≡ true → is_cut walks borders (min e f) (max e f) ≡ true

gap_of : (values : List Bool) (walks : ℕ → ℕ → List (List CandidateId)) (net : Network) (borders : List CandidateId) (e f : ℕ) → BordersMean values walks net borders → e < length net.sections → f < length net.sections → is_same_section net e f ≡ true → e ≢ f → Is values (gap net (min e f) (max e f)) (is_cut walks borders (min e f) (max e f))
gap_of values walks net borders e f mean within within_too same differ = ⊎_elim
    (λ less.
    let low : min e f ≡ e = omega arith in
    let high : max e f ≡ f = omega arith in
    rw (low, high) (mean.gap e f within (above_lower net e f less within_too same)))
    (λ more.
    let low : min e f ≡ f = omega arith in
    let high : max e f ≡ e = omega arith in
    rw (low, high) (mean.gap f e within_too (above_lower net f e (omega arith) within (same_section_back net e f same))))
    (cases_lt e f)

pub apart_holds : (values : List Bool) (walks : ℕ → ℕ → List (List CandidateId)) (net : Network) (borders : List CandidateId) (a b : CodedTrain) (one other : ℕ → ℕ → Bool) → BordersMean values walks net borders → ((t e : ℕ) → a.start ≤ t → t ≤ a.by → e < length net.sections → Is values (touch a t e) (one t e)) → ((t e : ℕ) → b.start ≤ t → t ≤ b.by → e < length net.sections → Is values (touch b t e) (other t e)) → KeepApart walks net borders one other → SatisfiesAll values (apart_clauses net a b)
unfolding apart_clauses apart_at apart_from apart
apart_holds values walks net borders a b one other mean touch_one touch_other keep =
    make_each values (apart_at net a b) (common_steps a b) (λ t step. let (h, k) = in_range_is (max a.start b.start) (min a.by b.by + 1) t step in
    make_each values (apart_from net a b t) (below (length net.sections)) (λ e cell. let (from, within) = in_range_is 0 (length net.sections) e cell in
    make_each values (λ f. apart net a b t e f ∷ []) (section_of net e) (λ f inside. make_one values (apart net a b t e f) (
    let (same, within_too) = section_member net e f inside in
    let last : List Lit = where_ (not (nat_eq e f)) (is (gap net (min e f) (max e f))) in
    let first_is : Is values (touch a t e) (one t e) = touch_one t e (omega (arith, le-max_left a.start b.start)) (omega (arith, min-le_left a.by b.by)) within in
    let second_is : Is values (touch b t f) (other t f) = touch_other t f (omega (arith, le-max_right a.start b.start)) (omega (arith, min-le_right a.by b.by)) within_too in
    ⊎_elim
    (λ touched. ⊎_elim
    (λ touched_too.
    let differ : e ≢ f = λ equal. keep.differ t e touched (subst (λ g. other t g ≡ true) (sym equal) touched_too) in
    let test : not (nat_eq e f) ≡ true = ap not (false_from_ne_true (nat_eq e f) (λ equal. differ (same_number e f equal))) in
    later values (is_not (touch a t e)) (is_not (touch b t f) ∷ last) (later values (is_not (touch b t f)) last
    (make_where values (not (nat_eq e f)) (is (gap net (min e f) (max e f))) test (make_true values (gap net (min e f) (max e f)) (is_cut walks borders (min e f) (max e f)) (gap_of values walks net borders e f mean within within_too same differ) (keep.cut t e f within within_too same differ touched touched_too)))))
    (λ free. later values (is_not (touch a t e)) (is_not (touch b t f) ∷ last) (here values (is_not (touch b t f)) last (make_false values (touch b t f) (other t f) second_is free)))
    (cases_Bool (other t f)))
    (λ free. here values (is_not (touch a t e)) (is_not (touch b t f) ∷ last) (make_false values (touch a t e) (one t e) first_is free))
    (cases_Bool (one t e))))))
