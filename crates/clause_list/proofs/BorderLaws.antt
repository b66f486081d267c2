-- The clauses of borders and of two trains are clauses.
use Rattle.std.proofs.Common.{◌≡◌, ◌≢◌, ℕ, suc, zero, ◌+◌, ◌-◌, ◌<◌, ◌≤◌, Bool, true, false, cond, List, [], ◌∷◌, length, get_or, map, refl, sym, ap, ◌∙◌, ⊎_elim, arith}
use Rattle.std.specs.Prelude.{All, AllPairs, Contains, not, nat_eq, nat_lt, ◌&&◌, max, min, slice_index}
use Rattle.std.specs.List.{list_any}
use Rattle.std.proofs.lemmas.Bool.{cases_lt, false≢true, eq-eqb, lt-ltb, le-ltb, ltb-true}
use Rattle.std.proofs.lemmas.Bool.Decides.{eqb_tells}
use Rattle.std.proofs.lemmas.List.{length-map}
use Rattle.std.proofs.lemmas.List.Elements.{All-nil, All-cons, All-contains}
use Rattle.std.proofs.Math.Nat.{le-max_left, le-max_right, min-le_left, min-le_right}
use Rattle.sat_core.specs.declared.literal.Lit.{Lit}
use Rattle.sat_core.specs.Clauses.{IsClause, IsOver}
use Rattle.cell_net.specs.declared.ids.CandidateId.{CandidateId}
use Rattle.border_counter.specs.Counter.{sum_to, at_least_var}
use Rattle.clause_list.specs.Ranges.{below}
use Rattle.clause_list.specs.Numbers.{CodedTrain, Network, is, is_not, is_same_section, section_of, above, border, gap, touch, behind_train, first_of_trains}
use Rattle.clause_list.specs.RunClauses.{where_}
use Rattle.clause_list.specs.BorderClauses.{kept, kept_clauses, given, given_clauses, border_on_walk, borders_between, borders_from, gap_clauses, border_lits, most_clauses}
use Rattle.clause_list.specs.PairClauses.{common_steps, apart, apart_from, apart_at, apart_clauses}
use Rattle.clause_list.specs.Orders.{AreOver, AreWalksOver}
use Rattle.clause_list.proofs.ListLaws.{in_range_is, in_range, filter_is, filter_keeps, both_true, length-below}
use Rattle.clause_list.proofs.ClauseLaws.{one_literal, one_more, items_clause, items_all, items_all_over, where_clause, where_all, all_each, all_one}
use Rattle.clause_list.proofs.NumberLaws.{gap_bounds, touch_bounds}

pub kept_are_clauses : (vars : ℕ) (net : Network) → net.candidates ≤ vars → AreOver net net.kept → All (IsClause vars) (kept_clauses net)
unfolding kept_clauses kept
kept_are_clauses vars net few over =
    all_each (IsClause vars) (λ c. kept c ∷ []) net.kept (λ c inside. all_one (IsClause vars) (kept c) (
    let within : c.0 < net.candidates = All-contains (λ c. c.0 < net.candidates) net.kept c over inside in
    one_literal vars (is (border c.0)) (omega arith, omega arith)))

given_clause : (vars c : ℕ) (test : Bool) → c < vars → IsClause vars (cond test (is (border c)) (is_not (border c)) ∷ [])
given_clause vars c true few = one_literal vars (is (border c)) (omega arith, omega arith)
given_clause vars c false few = one_literal vars (is_not (border c)) (omega arith, omega arith)

pub given_are_clauses : (vars : ℕ) (net : Network) (layout : List CandidateId) → net.candidates ≤ vars → All (IsClause vars) (given_clauses net layout)
unfolding given_clauses given
given_are_clauses vars net layout few =
    all_each (IsClause vars) (λ c. given layout c ∷ []) (below net.candidates) (λ c inside. all_one (IsClause vars) (given layout c) (
    let (h, k) = in_range_is 0 net.candidates c inside in
    given_clause vars c (list_any (λ b. nat_eq c b.0) layout) (omega arith)))

-- a gap comes behind the borders, whose numbers rise with the candidates
walk_clause : (vars : ℕ) (net : Network) (e f : ℕ) (walk : List CandidateId) → first_of_trains net ≤ vars + 1 → e < length net.sections → Contains (above net e) f → AreOver net walk → AllPairs (λ b c. b.0 < c.0) walk → IsClause vars (border_on_walk net e f walk)
unfolding border_on_walk
walk_clause vars net e f walk last within inside over rise =
    let (low, high) = gap_bounds net e f within inside in
    let few = λ (c : CandidateId) (on : Contains walk c). All-contains (λ c. c.0 < net.candidates) walk c over on in
    one_more vars (is_not (gap net e f)) (map (λ c. is (border c.0)) walk) (omega arith, omega arith)
    (items_all (λ n. gap net e f ≢ n) (λ c. border c.0) walk (λ c on. let lower : c.0 < net.candidates = few c on in omega arith))
    (items_clause vars (λ c. border c.0) walk (λ c on. let lower : c.0 < net.candidates = few c on in (omega arith, omega arith)) (λ i j d less inside. let more : (get_or walk i d).0 < (get_or walk j d).0 = rise i j d less inside in omega arith))

pub gap_are_clauses : (vars : ℕ) (walks : ℕ → ℕ → List (List CandidateId)) (net : Network) → first_of_trains net ≤ vars + 1 → AreWalksOver net walks → All (IsClause vars) (gap_clauses walks net)
unfolding gap_clauses borders_from borders_between
gap_are_clauses vars walks net last over =
    all_each (IsClause vars) (borders_from walks net) (below (length net.sections)) (λ e cell. let (h, within) = in_range_is 0 (length net.sections) e cell in
    all_each (IsClause vars) (borders_between walks net e) (above net e) (λ f inside.
    all_each (IsClause vars) (λ walk. border_on_walk net e f walk ∷ []) (walks e f) (λ walk one. all_one (IsClause vars) (border_on_walk net e f walk)
    (walk_clause vars net e f walk last within inside (All-contains (AreOver net) (walks e f) walk (over.over e f within inside) one) (All-contains (AllPairs (λ b c. b.0 < c.0)) (walks e f) walk (over.rise e f within inside) one)))))

-- of two different cells of a section the greater is above the lesser
pub same_section_back : (net : Network) (e f : ℕ) → is_same_section net e f ≡ true → is_same_section net f e ≡ true
same_section_back net e f same = ⊎_elim
    (λ h. eq-eqb (slice_index net.sections f) (slice_index net.sections e) (sym h.1))
    (λ h. absurd (false≢true (sym h.0 ∙ same)))
    (eqb_tells (slice_index net.sections e) (slice_index net.sections f))

pub above_lower : (net : Network) (e f : ℕ) → e < f → f < length net.sections → is_same_section net e f ≡ true → Contains (above net e) f
above_lower net e f less within same =
    let below_it : nat_lt e f ≡ true = lt-ltb e f less in
    let passes : (nat_lt e f && is_same_section net e f) ≡ true = rw (below_it, same) refl in
    filter_keeps (λ f. nat_lt e f && is_same_section net e f) (below (length net.sections)) f passes (in_range 0 (length net.sections) f (omega arith) within)

-- a member of a cell's section
pub section_member : (net : Network) (e f : ℕ) → Contains (section_of net e) f → (is_same_section net e f ≡ true) × (f < length net.sections)
section_member net e f inside =
    let (same, there) = filter_is (is_same_section net e) (below (length net.sections)) f inside in
    (same, (in_range_is 0 (length net.sections) f there).1)

-- a cell above another of its section
pub above_member : (net : Network) (e f : ℕ) → Contains (above net e) f → (e < f) × (f < length net.sections) × (is_same_section net e f ≡ true)
above_member net e f inside =
    let (test, there) = filter_is (λ f. nat_lt e f && is_same_section net e f) (below (length net.sections)) f inside in
    let (higher, same) = both_true (nat_lt e f) (is_same_section net e f) test in
    (ltb-true e f higher, (in_range_is 0 (length net.sections) f there).1, same)

pub gap_of_two : (net : Network) (e f : ℕ) → e < length net.sections → f < length net.sections → is_same_section net e f ≡ true → e ≢ f → (net.candidates < gap net (min e f) (max e f)) × (gap net (min e f) (max e f) < first_of_trains net)
gap_of_two net e f within within_too same differ = ⊎_elim
    (λ less.
    let low : min e f ≡ e = omega arith in
    let high : max e f ≡ f = omega arith in
    rw (low, high) (gap_bounds net e f within (above_lower net e f less within_too same)))
    (λ more.
    let low : min e f ≡ f = omega arith in
    let high : max e f ≡ e = omega arith in
    rw (low, high) (gap_bounds net f e within_too (above_lower net f e (omega arith) within (same_section_back net e f same))))
    (cases_lt e f)

-- what two trains need so that their clauses are clauses: the variables of the one stand behind those of the network, those of
-- the other behind those of the one
apart_clause : (vars : ℕ) (net : Network) (a b : CodedTrain) (t e f : ℕ) → first_of_trains net ≤ a.first → behind_train a ≤ b.first → behind_train b ≤ vars + 1 → a.start ≤ t → t ≤ a.by → b.start ≤ t → t ≤ b.by → e < a.cells → f < b.cells → e < length net.sections → f < length net.sections → is_same_section net e f ≡ true → IsClause vars (apart net a b t e f)
unfolding apart
apart_clause vars net a b t e f borders others last h k h_too k_too few few_too within within_too same =
    let (low, high) = touch_bounds a t e h k few in
    let (low_too, high_too) = touch_bounds b t f h_too k_too few_too in
    let between = λ (test : not (nat_eq e f) ≡ true). gap_of_two net e f within within_too same (λ equal. false≢true (sym (ap not (eq-eqb e f equal)) ∙ test)) in
    let lit : Lit = is (gap net (min e f) (max e f)) in
    one_more vars (is_not (touch a t e)) (is_not (touch b t f) ∷ where_ (not (nat_eq e f)) lit) (omega arith, omega arith)
    (All-cons (λ l. touch a t e ≢ l.var.0) (is_not (touch b t f)) (where_ (not (nat_eq e f)) lit) (omega arith) (where_all (λ l. touch a t e ≢ l.var.0) (not (nat_eq e f)) lit (λ test. let (over, under) = between test in omega arith)))
    (one_more vars (is_not (touch b t f)) (where_ (not (nat_eq e f)) lit) (omega arith, omega arith)
    (where_all (λ l. touch b t f ≢ l.var.0) (not (nat_eq e f)) lit (λ test. let (over, under) = between test in omega arith))
    (where_clause vars (not (nat_eq e f)) lit (λ test. let (over, under) = between test in (omega arith, omega arith))))

pub apart_are_clauses : (vars : ℕ) (net : Network) (a b : CodedTrain) → first_of_trains net ≤ a.first → behind_train a ≤ b.first → behind_train b ≤ vars + 1 → a.cells ≡ length net.sections → b.cells ≡ length net.sections → All (IsClause vars) (apart_clauses net a b)
unfolding apart_clauses apart_at apart_from
apart_are_clauses vars net a b borders others last cells cells_too =
    all_each (IsClause vars) (apart_at net a b) (common_steps a b) (λ t step. let (h, k) = in_range_is (max a.start b.start) (min a.by b.by + 1) t step in
    all_each (IsClause vars) (apart_from net a b t) (below (length net.sections)) (λ e cell. let (from, within) = in_range_is 0 (length net.sections) e cell in
    all_each (IsClause vars) (λ f. apart net a b t e f ∷ []) (section_of net e) (λ f inside. all_one (IsClause vars) (apart net a b t e f) (
    let (same, within_too) = section_member net e f inside in
    let one : a.start ≤ max a.start b.start = le-max_left a.start b.start in
    let other : b.start ≤ max a.start b.start = le-max_right a.start b.start in
    let end : min a.by b.by ≤ a.by = min-le_left a.by b.by in
    let end_too : min a.by b.by ≤ b.by = min-le_right a.by b.by in
    apart_clause vars net a b t e f borders others last (omega arith) (omega arith) (omega arith) (omega arith) (omega arith) (omega arith) within within_too same))))

pub sum_more : (n : ℕ) → sum_to (suc n) ≡ sum_to n + suc n
unfolding sum_to
sum_more n = omega arith

-- "at least k + 1 of n" is one of the counter's variables
pub most_are_clauses : (vars first n k : ℕ) → 1 ≤ first → first + sum_to n ≤ vars + 1 → All (IsClause vars) (most_clauses first n k)
most_are_clauses vars first zero k one last = rw (le-ltb k 0 (omega arith)) (All-nil (IsClause vars))
most_are_clauses vars first (suc m) k one last = ⊎_elim
    (λ few.
    let test : nat_lt k (suc m) ≡ true = lt-ltb k (suc m) few in
    let before : suc m - 1 ≡ m = omega arith in
    let place : at_least_var first (suc m) (k + 1) ≡ first + sum_to m + k = ap (λ i. first + sum_to i + (k + 1 - 1)) before ∙ omega arith in
    rw test (all_one (IsClause vars) (is_not (at_least_var first (suc m) (k + 1)) ∷ []) (one_literal vars (is_not (at_least_var first (suc m) (k + 1))) (omega (arith, sum_more m), omega (arith, sum_more m)))))
    (λ many. rw (le-ltb k (suc m) many) (All-nil (IsClause vars)))
    (cases_lt k (suc m))

-- the inputs of the counter: so many, over the borders
pub length-border_lits : (n : ℕ) → length (border_lits n) ≡ n
length-border_lits n = length-map (below n) (λ c. is (border c)) ∙ length-below n

pub borders_over : (vars n : ℕ) → n ≤ vars → All (IsOver vars) (border_lits n)
borders_over vars n few = items_all_over vars (λ c. border c) (below n) (λ c inside. let (h, k) = in_range_is 0 n c inside in (omega arith, omega arith))
