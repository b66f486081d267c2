-- The borders that stand: kept ones among them, a given layout, and at most how many.
use Rattle.std.proofs.Common.{◌≡◌, ℕ, zero, suc, ◌+◌, ◌-◌, ◌<◌, ◌≤◌, Bool, true, false, List, [], ◌∷◌, length, get_or, map, filter, refl, sym, ap, ◌∙◌, subst, inl, inr, ⊎_elim, ◌⊎◌, arith, Some}
use Rattle.std.specs.Prelude.{AllPairs, Contains, ◌↔◌, count_by, nat_eq, nat_lt}
use Rattle.std.specs.List.{list_any}
use Rattle.std.proofs.Math.Bool.{beq}
use Rattle.std.proofs.lemmas.Bool.{false≢true, cases_Bool, cases_lt, eq-eqb, eqb-true, lt-ltb}
use Rattle.std.proofs.lemmas.List.{length-map}
use Rattle.std.proofs.lemmas.List.Sums.{length-filter, count_by-le-length}
use Rattle.std.proofs.lemmas.List.Folds.{Any-from_list_any, list_any-from_Any}
use Rattle.std.proofs.lemmas.List.Elements.{Contains-get_or}
use Rattle.std.proofs.lemmas.Option.{slice_get-get_or}
use Rattle.vss_lists.specs.Breaks.{HoldsOfEach}
use Rattle.vss_rows.proofs.JoinedLaws.{AllPairs-head, AllPairs-tail}
use Rattle.sat_core.specs.Clauses.{Satisfies, SatisfiesAll}
use Rattle.gate_tables.specs.Wiring.{is_true_in}
use Rattle.border_counter.specs.Counter.{at_least_var, at_least_lit, counter_clauses}
use Rattle.border_counter.specs.Fitting.{FitsCounter}
use Rattle.border_counter.proofs.CountingLaws.{counter_tells}
use Rattle.cell_net.specs.Borders.{IsBorderSet, IsLayout, RisesAt}
use Rattle.cell_net.specs.Rules.{IsGoodKept, IsInstance}
use Rattle.cell_net.specs.declared.ids.CandidateId.{CandidateId}
use Rattle.cell_net.specs.declared.parts.InstanceParts.{InstanceParts}
use Rattle.clause_list.specs.Ranges.{below}
use Rattle.clause_list.specs.Coding.{network_of}
use Rattle.clause_list.specs.Numbers.{Network, is, is_not, border}
use Rattle.clause_list.specs.BorderClauses.{kept, kept_clauses, given, given_clauses, border_lits, most_clauses}
use Rattle.clause_list.specs.Values.{value}
use Rattle.clause_list.proofs.ListLaws.{length-below}
use Rattle.clause_list.proofs.ReadingLaws.{sat_head, sat_each, sat_range, sat_cases, sat_none, true_value, false_value}
use Rattle.plan_laws.specs.Telling.{is_standing, told_layout}
use Rattle.plan_laws.proofs.LayoutLaws.{layout_rises, layout_has, layout_is_set}

-- the kept borders stand
kept_says : (values : List Bool) (net : Network) (c : CandidateId) → SatisfiesAll values (kept_clauses net) → Contains net.kept c → value values (border c.0) ≡ true
unfolding kept_clauses kept
kept_says values net c all inside =
    ⊎_elim (λ holds. true_value values (border c.0) holds) (λ none. absurd (sat_none values none))
    (sat_cases values (is (border c.0)) [] (sat_head values (kept c) [] (sat_each values (λ d. kept d ∷ []) net.kept c all inside)))

pub kept_is_layout : (values : List Bool) (p : InstanceParts) → IsInstance p → SatisfiesAll values (kept_clauses (network_of p)) → IsLayout p (told_layout values (length p.candidates))
kept_is_layout values p rules all = record {
  set = layout_is_set values p;
  holds_kept = λ k d within.
      let c : CandidateId = get_or p.kept k d in
      let good : IsGoodKept p k c = rules.kept.at_each k c (slice_get-get_or p.kept k d within) in
      (layout_has values (length p.candidates) c).1 (good.in_range, kept_says values (network_of p) c all (Contains-get_or p.kept k d within));
}

-- a border stands exactly at the candidates of a given layout
given_says : (values : List Bool) (net : Network) (layout : List CandidateId) (c : ℕ) → SatisfiesAll values (given_clauses net layout) → c < net.candidates → value values (border c) ≡ list_any (λ (b : CandidateId). nat_eq c b.0) layout
unfolding given_clauses given
given_says values net layout c all within =
    let clause : Satisfies values (given layout c) = sat_head values (given layout c) [] (sat_range values (λ d. given layout d ∷ []) 0 net.candidates c all (omega arith) within) in
    ⊎_elim
    (λ yes. let y : list_any (λ (b : CandidateId). nat_eq c b.0) layout ≡ true = yes in
    let unit : Satisfies values (is (border c) ∷ []) = rw y at clause in
    ⊎_elim (λ holds. true_value values (border c) holds ∙ sym y) (λ none. absurd (sat_none values none)) (sat_cases values (is (border c)) [] unit))
    (λ no. let n : list_any (λ (b : CandidateId). nat_eq c b.0) layout ≡ false = no in
    let unit : Satisfies values (is_not (border c) ∷ []) = rw n at clause in
    ⊎_elim (λ holds. false_value values (border c) holds ∙ sym n) (λ none. absurd (sat_none values none)) (sat_cases values (is_not (border c)) [] unit))
    (cases_Bool (list_any (λ (b : CandidateId). nat_eq c b.0) layout))

in_layout : (layout : List CandidateId) (c : CandidateId) → (list_any (λ (b : CandidateId). nat_eq c.0 b.0) layout ≡ true) ↔ Contains layout c
in_layout layout c = (
  λ has. let found = Any-from_list_any (λ (b : CandidateId). nat_eq c.0 b.0) layout has in
      let same : found.1 ≡ c = λ i. record { 0 = sym (eqb-true _ _ found.4) i } in
      subst (Contains layout) same (found.0, found.2, found.3),
  λ there. let (k, within, same) = there in list_any-from_Any (λ (b : CandidateId). nat_eq c.0 b.0) layout (k, c, within, same, eq-eqb c.0 c.0 refl),
)

-- in a list that rises at each place, each number is below all later ones
rises_below : (borders : List CandidateId) (i more : ℕ) (d : CandidateId) → HoldsOfEach (RisesAt borders) borders → i + more + 1 < length borders → (get_or borders i d).0 < (get_or borders (i + more + 1) d).0
rises_below borders i zero d rising within =
    let next : i + 0 + 1 ≡ i + 1 = omega arith in
    subst (λ j. (get_or borders i d).0 < (get_or borders j d).0) (sym next)
    (rising.at_each (i + 1) (get_or borders (i + 1) d) (slice_get-get_or borders (i + 1) d (omega arith)) i (get_or borders i d) refl (slice_get-get_or borders i d (omega arith)))
rises_below borders i (suc more) d rising within =
    let last : i + suc more + 1 ≡ i + more + 1 + 1 = omega arith in
    let before : (get_or borders i d).0 < (get_or borders (i + more + 1) d).0 = rises_below borders i more d rising (omega arith) in
    let step : (get_or borders (i + more + 1) d).0 < (get_or borders (i + more + 1 + 1) d).0 = rising.at_each (i + more + 1 + 1) (get_or borders (i + more + 1 + 1) d) (slice_get-get_or borders (i + more + 1 + 1) d (omega arith)) (i + more + 1) (get_or borders (i + more + 1) d) refl (slice_get-get_or borders (i + more + 1) d (omega arith)) in
    subst (λ j. (get_or borders i d).0 < (get_or borders j d).0) (sym last) (omega arith)

all_rise : (borders : List CandidateId) → HoldsOfEach (RisesAt borders) borders → AllPairs (λ (b c : CandidateId). b.0 < c.0) borders
all_rise borders rising i j d h k =
    let place : i + (j - i - 1) + 1 ≡ j = omega arith in
    subst (λ m. (get_or borders i d).0 < (get_or borders m d).0) place (rises_below borders i (j - i - 1) d rising (omega arith))

-- lists that rise and have the same members are one
abbrev Below : CandidateId → CandidateId → Type 0
Below b c = b.0 < c.0

in_cons : (b c : CandidateId) (bs : List CandidateId) → Contains (b ∷ bs) c → (b ≡ c) ⊎ Contains bs c
in_cons b c bs (zero, within, same) = inl same
in_cons b c bs (suc k, within, same) = inr (k, omega arith, same)

later : (b c : CandidateId) (bs : List CandidateId) → Contains bs c → Contains (b ∷ bs) c
later b c bs (k, within, same) = (suc k, omega arith, same)

same_members : (xs ys : List CandidateId) → AllPairs Below xs → AllPairs Below ys → ((c : CandidateId) → Contains xs c ↔ Contains ys c) → xs ≡ ys
same_members [] [] rise_x rise_y same = refl
same_members [] (y ∷ ys) rise_x rise_y same = let (k, within, is) = (same y).1 (0, omega arith, refl) in absurd (omega arith)
same_members (x ∷ xs) [] rise_x rise_y same = let (k, within, is) = (same x).0 (0, omega arith, refl) in absurd (omega arith)
same_members (x ∷ xs) (y ∷ ys) rise_x rise_y same =
    let first : x ≡ y = ⊎_elim (λ e. sym e)
    (λ in_ys. ⊎_elim (λ e. e)
    (λ in_xs. let less : y.0 < x.0 = AllPairs-head Below y x ys rise_y in_ys in let more : x.0 < y.0 = AllPairs-head Below x y xs rise_x in_xs in absurd (omega arith))
    (in_cons x y xs ((same y).1 (0, omega arith, refl))))
    (in_cons y x ys ((same x).0 (0, omega arith, refl))) in
    let number : x.0 ≡ y.0 = ap (λ (c : CandidateId). c.0) first in
    let rest : xs ≡ ys = same_members xs ys (AllPairs-tail Below x xs rise_x) (AllPairs-tail Below y ys rise_y) (λ c. (
      λ there. ⊎_elim (λ e. let less : x.0 < c.0 = AllPairs-head Below x c xs rise_x there in absurd (omega (arith, ap (λ (b : CandidateId). b.0) e))) (λ found. found) (in_cons y c ys ((same c).0 (later x c xs there))),
      λ there. ⊎_elim (λ e. let less : y.0 < c.0 = AllPairs-head Below y c ys rise_y there in absurd (omega (arith, ap (λ (b : CandidateId). b.0) e))) (λ found. found) (in_cons x c xs ((same c).1 (later y c ys there))),
    )) in
    ap (λ (c : CandidateId). c ∷ xs) first ∙ ap (λ bs. y ∷ bs) rest

pub given_is_told : (values : List Bool) (p : InstanceParts) (layout : List CandidateId) → IsBorderSet p layout → SatisfiesAll values (given_clauses (network_of p) layout) → told_layout values (length p.candidates) ≡ layout
given_is_told values p layout set all =
    same_members (told_layout values (length p.candidates)) layout (layout_rises values (length p.candidates)) (all_rise layout set.rising) (λ c. (
      λ there. let (within, stands) = (layout_has values (length p.candidates) c).0 there in
          (in_layout layout c).0 (sym (given_says values (network_of p) layout c.0 all within) ∙ stands),
      λ there. let (k, inside, same) = there in
          let within : c.0 < length p.candidates = set.in_range.at_each k c (slice_get-get_or layout k c inside ∙ ap Some same) in
          (layout_has values (length p.candidates) c).1 (within, given_says values (network_of p) layout c.0 all within ∙ (in_layout layout c).1 there),
    ))

-- the inputs of the counter are true where borders stand
true_where : (b : Bool) → beq b true ≡ b
true_where true = refl
true_where false = refl

kept_map : (values : List Bool) (cs : List ℕ) → length (filter (is_true_in values) (map (λ c. is (border c)) cs)) ≡ length (filter (is_standing values) cs)
unfolding is_standing
kept_map values [] = refl
kept_map values (c ∷ cs) =
    let rest : length (filter (is_true_in values) (map (λ c. is (border c)) cs)) ≡ length (filter (is_standing values) cs) = kept_map values cs in
    ⊎_elim (λ yes. let y : value values (border c) ≡ true = yes in rw y (ap suc rest)) (λ no. let n : value values (border c) ≡ false = no in rw n rest) (cases_Bool (value values (border c)))

counted_map : (values : List Bool) (cs : List ℕ) → count_by (is_true_in values) (map (λ c. is (border c)) cs) ≡ count_by (is_standing values) cs
counted_map values cs = sym (length-filter (is_true_in values) (map (λ c. is (border c)) cs)) ∙ (kept_map values cs ∙ length-filter (is_standing values) cs)

pub layout_count : (values : List Bool) (n : ℕ) → length (told_layout values n) ≡ count_by (is_standing values) (below n)
layout_count values n = length-map (filter (is_standing values) (below n)) (λ c. record { 0 = c }) ∙ length-filter (is_standing values) (below n)

pub at_most : (values : List Bool) (n first most : ℕ) → FitsCounter (length values) (border_lits n) first → SatisfiesAll values (counter_clauses (border_lits n) first n) → SatisfiesAll values (most_clauses first n most) → length (told_layout values n) ≤ most
at_most values n first most fits counter bound =
    let count : ℕ = count_by (is_standing values) (below n) in
    let size : length (told_layout values n) ≡ count = layout_count values n in
    let inputs : length (border_lits n) ≡ n = length-map (below n) (λ c. is (border c)) ∙ length-below n in
    let among : count_by (is_true_in values) (border_lits n) ≡ count = counted_map values (below n) in
    let few : count ≤ length (below n) = count_by-le-length (is_standing values) (below n) in
    let all : length (below n) ≡ n = length-below n in
    ⊎_elim
    (λ less. let test : nat_lt most n ≡ true = lt-ltb most n less in
    let unit : SatisfiesAll values ((is_not (at_least_var first n (most + 1)) ∷ []) ∷ []) = rw test at bound in
    let off : value values (at_least_var first n (most + 1)) ≡ false = ⊎_elim (λ holds. false_value values (at_least_var first n (most + 1)) holds) (λ none. absurd (sat_none values none)) (sat_cases values (is_not (at_least_var first n (most + 1))) [] (sat_head values (is_not (at_least_var first n (most + 1)) ∷ []) [] unit)) in
    let tells : (is_true_in values (at_least_lit first (length (border_lits n)) (most + 1)) ≡ true) ↔ (most + 1 ≤ count_by (is_true_in values) (border_lits n)) = counter_tells values (border_lits n) first fits (subst (λ m. SatisfiesAll values (counter_clauses (border_lits n) first m)) (sym inputs) counter) (most + 1) (omega arith) (omega arith) in
    ⊎_elim (λ within. omega arith)
    (λ many. let on : is_true_in values (at_least_lit first n (most + 1)) ≡ true = subst (λ m. is_true_in values (at_least_lit first m (most + 1)) ≡ true) inputs (tells.1 (omega arith)) in
    absurd (false≢true (sym off ∙ (sym (true_where (value values (at_least_var first n (most + 1)))) ∙ on))))
    (cases_lt count (most + 1)))
    (λ more. omega arith)
    (cases_lt most n)
