-- The gaps that the fans of all cells tell, and the sections that have none.
use Rattle.std.proofs.Common.{◌≡◌, ◌≢◌, ◌<◌, ◌≤◌, ◌+◌, inl, inr, ℕ, zero, suc, true, List, [], ◌∷◌, ◌++◌, length, map, get_or, refl, sym, ap, ◌∙◌, subst, arith}
use Rattle.std.specs.Prelude.{AllPairs, Any, Contains, Option, Some, None, slice_get, slice_index_or, nat_eq}
use Rattle.std.specs.List.{AllZip, range_with_len}
use Rattle.std.proofs.lemmas.Bool.{cases_eq, cases_lt, eqb-true, eq-eqb}
use Rattle.std.proofs.lemmas.List.{get_or_append_left, get_or_push, get_or-map, length_push, length-map, get_or_default}
use Rattle.std.proofs.lemmas.List.Elements.{Contains-get_or}
use Rattle.std.proofs.lemmas.List.Folds.{Any-from_list_any, list_any-from_Any}
use Rattle.std.proofs.lemmas.List.FromFn.{get_or-map-range_with_len, length-map-range_with_len}
use Rattle.std.proofs.lemmas.List.Kept.{AllPairs-filter}
use Rattle.std.proofs.lemmas.Option.{get_or_from_slice_get, none-some, same_Some, slice_get-get_or, slice_get_within}
use Rattle.cell_net.specs.Space.{IsCell}
use Rattle.cell_net.specs.Borders.{IsInSection}
use Rattle.cell_net.specs.declared.ids.CandidateId.{CandidateId}
use Rattle.cell_net.specs.declared.ids.CellId.{CellId}
use Rattle.cell_net.specs.declared.ids.NodeId.{NodeId}
use Rattle.cell_net.specs.declared.ids.SectionId.{SectionId}
use Rattle.cell_net.specs.declared.cells.CellSpec.{CellSpec}
use Rattle.cell_net.specs.declared.parts.InstanceParts.{InstanceParts}
use Rattle.gap_clauses.specs.Crowds.{IsCrowded, IsCrowdedFrom, NoneIsCrowdedBelow}
use Rattle.gap_clauses.specs.Fans.{FanParts, IsFanOf, ends_in, has_node, walks_to}
use Rattle.gap_clauses.specs.Gaps.{AreCandidatesOf, AreGaps, AreGapsBetween, walks_of}
use Rattle.gap_clauses.specs.Searched.{AreSearchedBelow, IsNoHigher}
use Rattle.gap_clauses.specs.Views.{candidate_of, candidates_from, candidates_on, candidates_to, cell_of, is_on}
use Rattle.gap_clauses.specs.Walks.{Step, AreWalks, IsWalkBefore, IsWalk, Leads, end_of}
use Rattle.gap_clauses.proofs.FanLemmas.{ends_yes}
use Rattle.gap_clauses.proofs.ListLemmas.{Contains-filter, Contains-from_filter, no_more_than}
use Rattle.gap_clauses.proofs.Shortening.{same_section}
use Rattle.gap_clauses.proofs.WalkLaws.{end_is_cell, leads_end, same_cell, same_node}

-- the candidates of these numbers
candidate_in : (n : ℕ) (c : CandidateId) → c.0 < n → Contains (map candidate_of (range_with_len 0 n)) c
candidate_in n c low = (c.0, omega (arith, length-map-range_with_len candidate_of 0 n), get_or-map-range_with_len candidate_of 0 n c.0 c.0 c low (let e : 0 + c.0 ≡ c.0 = omega arith in e))

candidate_low : (n : ℕ) (c : CandidateId) → Contains (map candidate_of (range_with_len 0 n)) c → c.0 < n
candidate_low n c there =
    let within : there.0 < n = omega (arith, there.1, length-map-range_with_len candidate_of 0 n) in
    let at : get_or (map candidate_of (range_with_len 0 n)) there.0 c ≡ candidate_of there.0 = get_or-map-range_with_len candidate_of 0 n there.0 there.0 c within (let e : 0 + there.0 ≡ there.0 = omega arith in e) in
    let number : c.0 ≡ there.0 = ap (λ (d : CandidateId). d.0) (sym there.2 ∙ at) in
    omega arith

candidates_rise : (n : ℕ) → AllPairs (λ (b c : CandidateId). b.0 < c.0) (map candidate_of (range_with_len 0 n))
candidates_rise n i j d low high =
    let size = length-map-range_with_len candidate_of 0 n in
    let at_i : get_or (map candidate_of (range_with_len 0 n)) i d ≡ candidate_of i = get_or-map-range_with_len candidate_of 0 n i i d (omega arith) (let e : 0 + i ≡ i = omega arith in e) in
    let at_j : get_or (map candidate_of (range_with_len 0 n)) j d ≡ candidate_of j = get_or-map-range_with_len candidate_of 0 n j j d (omega arith) (let e : 0 + j ≡ j = omega arith in e) in
    rw (at_i, at_j) low

-- whether a candidate is on a walk
on_from : (p : InstanceParts) (w : List Step) (c : CandidateId) → c.0 < length p.candidates → is_on p.candidates w c ≡ true → Any (λ s. slice_get p.candidates c.0 ≡ Some s.node) w
unfolding is_on has_node
on_from p w c within is =
    let n : NodeId = get_or p.candidates c.0 (record { 0 = 0 }) in
    let found = Any-from_list_any (λ (s : Step). nat_eq s.node.0 n.0) w is in
    (found.0, found.1, found.2, found.3, slice_get-get_or p.candidates c.0 (record { 0 = 0 }) within ∙ ap Some (sym (same_node found.1.node n (eqb-true _ _ found.4))))

to_on : (p : InstanceParts) (w : List Step) (c : CandidateId) → Any (λ s. slice_get p.candidates c.0 ≡ Some s.node) w → is_on p.candidates w c ≡ true
unfolding is_on has_node
to_on p w c (k, s, within, at, is) =
    let n : NodeId = get_or p.candidates c.0 (record { 0 = 0 }) in
    let same : n ≡ s.node = get_or_from_slice_get p.candidates c.0 s.node (record { 0 = 0 }) is in
    list_any-from_Any (λ (t : Step). nat_eq t.node.0 n.0) w (k, s, within, at, eq-eqb _ _ (ap (λ (m : NodeId). m.0) (sym same)))

pub candidates_are : (p : InstanceParts) (w : List Step) → AreCandidatesOf p w (candidates_on p.candidates w)
unfolding candidates_on
candidates_are p w = record {
  which = λ c. (
    λ there. let both = Contains-from_filter (is_on p.candidates w) (map candidate_of (range_with_len 0 (length p.candidates))) c there in on_from p w c (candidate_low (length p.candidates) c both.0) both.1,
    λ any. Contains-filter (is_on p.candidates w) (map candidate_of (range_with_len 0 (length p.candidates))) c (candidate_in (length p.candidates) c (slice_get_within p.candidates c.0 any.1.node any.4)) (to_on p w c any),
  );
  rising = AllPairs-filter (λ (b c : CandidateId). b.0 < c.0) (is_on p.candidates w) (map candidate_of (range_with_len 0 (length p.candidates))) (candidates_rise (length p.candidates));
}

all_theirs : (p : InstanceParts) (walks : List (List Step)) → AllZip (AreCandidatesOf p) walks (map (candidates_on p.candidates) walks)
all_theirs p [] = tt
all_theirs p (w ∷ walks) = (candidates_are p w, all_theirs p walks)

-- the walks of a fan to a cell are all of them
pub fan_walks : (p : InstanceParts) (e f : CellId) (fan : FanParts) → IsFanOf p e fan → AreWalks p e f (walks_to fan.first fan.walks f)
unfolding ends_in
fan_walks p e f fan are = subst (λ first. AreWalks p e f (walks_to first fan.walks f)) (sym are.first) (record {
  each = λ w. (
    λ there. let both = Contains-from_filter (ends_in e f) fan.walks w there in
        subst (IsWalk p e w) (same_cell (end_of e w) f (eqb-true _ _ both.1)) ((are.all.each w).0 both.0).0,
    λ walk. let ends : end_of e w ≡ f = leads_end p e w f walk.leads in
        Contains-filter (ends_in e f) fan.walks w ((are.all.each w).1 (subst (IsWalk p e w) (sym ends) walk, tt)) (ends_yes e f w (ap (λ (c : CellId). c.0) ends)),
  );
  in_order = AllPairs-filter IsWalkBefore (ends_in e f) fan.walks are.all.in_order;
})

-- the walks of two cells, as the fans tell them
pub walks_of_is : (nodes : List NodeId) (fans : List FanParts) (e f : CellId) (fan : FanParts) → e.0 < length fans → get_or fans e.0 fan ≡ fan → f.0 < fan.cells → walks_of (map (candidates_from nodes) fans) e f ≡ candidates_to nodes fan f
unfolding candidates_from
walks_of_is nodes fans e f fan within same low =
    let row : get_or (map (candidates_from nodes) fans) e.0 [] ≡ candidates_from nodes fan = get_or-map (candidates_from nodes) fans e.0 fan [] within ∙ ap (candidates_from nodes) same in
    let at : get_or (map cell_of (range_with_len 0 fan.cells)) f.0 f ≡ cell_of f.0 = get_or-map-range_with_len cell_of 0 fan.cells f.0 f.0 f low (let e : 0 + f.0 ≡ f.0 = omega arith in e) in
    ap (λ gs. get_or gs f.0 []) row ∙ (get_or-map (candidates_to nodes fan) (map cell_of (range_with_len 0 fan.cells)) f.0 f [] (omega (arith, low, length-map-range_with_len cell_of 0 fan.cells)) ∙ ap (candidates_to nodes fan) at)

-- no cells, no walks
pub past_end : {X : Type 0} (xs : List X) (k : ℕ) (d : X) → length xs ≤ k → get_or xs k d ≡ d
past_end [] k d past = refl
past_end (x ∷ xs) zero d past = absurd (omega arith)
past_end (x ∷ xs) (suc k) d past = past_end xs k d (omega arith)

pub walks_of_none : (nodes : List NodeId) (fans : List FanParts) (e f : CellId) → length fans ≤ e.0 → walks_of (map (candidates_from nodes) fans) e f ≡ []
walks_of_none nodes fans e f past = ap (λ gs. get_or gs f.0 []) (past_end (map (candidates_from nodes) fans) e.0 [] (omega (arith, past, length-map fans (candidates_from nodes))))

pub walks_to_none : (nodes : List NodeId) (fans : List FanParts) (e f : CellId) (fan : FanParts) → e.0 < length fans → get_or fans e.0 fan ≡ fan → fan.cells ≤ f.0 → walks_of (map (candidates_from nodes) fans) e f ≡ []
unfolding candidates_from
walks_to_none nodes fans e f fan within same past =
    let row : get_or (map (candidates_from nodes) fans) e.0 [] ≡ candidates_from nodes fan = get_or-map (candidates_from nodes) fans e.0 fan [] within ∙ ap (candidates_from nodes) same in
    ap (λ gs. get_or gs f.0 []) row ∙ past_end (candidates_from nodes fan) f.0 [] (omega (arith, past, length-map (map cell_of (range_with_len 0 fan.cells)) (candidates_to nodes fan), length-map-range_with_len cell_of 0 fan.cells))

-- how many walks lead from the one cell to the other
pub count_tells : (nodes : List NodeId) (fans : List FanParts) (gaps : List (List (List (List CandidateId)))) (e f : CellId) (fan : FanParts) (count : ℕ) → e.0 < length fans → get_or fans e.0 fan ≡ fan → map (candidates_from nodes) fans ≡ gaps →
    (f.0 < fan.cells → count ≡ length (walks_to fan.first fan.walks f)) → (fan.cells ≤ f.0 → count ≡ 0) → count ≡ length (walks_of gaps e f)
unfolding candidates_to
count_tells nodes fans gaps e f fan count within same is there elsewhere = elim (cases_lt f.0 fan.cells) [
  | inl low ↦ there low ∙ (sym (length-map (walks_to fan.first fan.walks f) (candidates_on nodes)) ∙ (ap length (sym (walks_of_is nodes fans e f fan within same low)) ∙ ap (λ gs. length (walks_of gs e f)) is))
  | inr past ↦ elsewhere past ∙ (ap length (sym (walks_to_none nodes fans e f fan within same past)) ∙ ap (λ gs. length (walks_of gs e f)) is)
]

-- a walk of two cells is one of a fan
pub record IsWalkOf (nodes : List NodeId) (fans : List FanParts) (gaps : List (List (List (List CandidateId)))) (e f : CellId) (walk : ℕ) (fan : FanParts) : Type 0 where
  pub low : f.0 < fan.cells
  pub inside : walk < length (walks_to fan.first fan.walks f)
  pub is : slice_index_or (walks_of gaps e f) walk [] ≡ candidates_on nodes (slice_index_or (walks_to fan.first fan.walks f) walk [])

pub walk_of_first : (nodes : List NodeId) (fans : List FanParts) (gaps : List (List (List (List CandidateId)))) (e f : CellId) (walk : ℕ) → map (candidates_from nodes) fans ≡ gaps → walk < length (walks_of gaps e f) → e.0 < length fans
walk_of_first nodes fans gaps e f walk is inside = elim (cases_lt e.0 (length fans)) [
  | inl within ↦ within
  | inr past ↦ absurd (omega (arith, inside, ap length (walks_of_none nodes fans e f past), ap (λ gs. length (walks_of gs e f)) is))
]

pub walk_of : (nodes : List NodeId) (fans : List FanParts) (gaps : List (List (List (List CandidateId)))) (e f : CellId) (walk : ℕ) (fan : FanParts) → map (candidates_from nodes) fans ≡ gaps → walk < length (walks_of gaps e f) → get_or fans e.0 fan ≡ fan →
    IsWalkOf nodes fans gaps e f walk fan
unfolding candidates_to
walk_of nodes fans gaps e f walk fan is inside same =
    let within = walk_of_first nodes fans gaps e f walk is inside in
    let low : f.0 < fan.cells = elim (cases_lt f.0 fan.cells) [
      | inl low ↦ low
      | inr past ↦ absurd (omega (arith, inside, ap length (walks_to_none nodes fans e f fan within same past), ap (λ gs. length (walks_of gs e f)) is))
    ] in
    let at : walks_of gaps e f ≡ candidates_to nodes fan f = ap (λ gs. walks_of gs e f) (sym is) ∙ walks_of_is nodes fans e f fan within same low in
    let size : length (walks_of gaps e f) ≡ length (walks_to fan.first fan.walks f) = ap length at ∙ length-map (walks_to fan.first fan.walks f) (candidates_on nodes) in
    record {
      low = low;
      inside = omega (arith, inside, size);
      is = ap (λ gs. slice_index_or gs walk []) at ∙ get_or-map (candidates_on nodes) (walks_to fan.first fan.walks f) walk [] [] (omega (arith, inside, size));
    }

in_section_cell : (p : InstanceParts) (section : ℕ) (c : CellId) → IsInSection p section c → IsCell p c
in_section_cell p section c here = slice_get_within p.cells c.0 here.cell here.is

pub gaps_are : (p : InstanceParts) (nodes : List NodeId) (fans : List FanParts) (gaps : List (List (List (List CandidateId)))) → nodes ≡ p.candidates → AreSearchedBelow p (length p.cells) None fans → map (candidates_from nodes) fans ≡ gaps → AreGaps p gaps
unfolding candidates_to
gaps_are p nodes fans gaps same found is = subst (AreGaps p) is (record {
  between = λ e f both.
      let cell_e : e.0 < length p.cells = in_section_cell p both.section e both.one in
      let cell_f : f.0 < length p.cells = in_section_cell p both.section f both.other in
      let none : FanParts = record { first = e; cells = 0; walks = [] } in
      let fan : FanParts = get_or fans e.0 none in
      let size = found.for_each refl in
      let are : IsFanOf p e fan = found.each refl e.0 none cell_e in
      let count = are.cells in
      let at = walks_of_is nodes fans e f fan (omega arith) (get_or_default fans e.0 fan none (omega arith)) (omega arith) in
      subst (AreGapsBetween p e f) (sym (at ∙ ap (λ ns. candidates_to ns fan f) same)) (record {
        walks = walks_to fan.first fan.walks f;
        are_walks = fan_walks p e f fan are;
        are_theirs = all_theirs p (walks_to fan.first fan.walks f);
      });
})

-- a cell with a fan isn't crowded
pub fan_not_crowded : (p : InstanceParts) (e : CellId) (fan : FanParts) → IsCell p e → IsFanOf p e fan → ¬ IsCrowdedFrom p e
fan_not_crowded p e fan here are (f, many) =
    let walk : (w : List Step) → Contains many.walks w → IsWalk p e w f = λ w there. subst (λ v. IsWalk p e v f) there.2 (many.are_walks there.0 w there.1) in
    let some = many.many in
    let first : List Step = get_or many.walks 0 [] in
    let one = walk first (Contains-get_or many.walks 0 [] (omega arith)) in
    let cell : IsCell p f = subst (IsCell p) (leads_end p e first f one.leads) (end_is_cell p e first f here one.leads) in
    let count = are.cells in
    let few = are.few f (omega arith) in
    let fits = no_more_than many.walks (walks_to fan.first fan.walks f) many.no_walk_twice (λ w there. ((fan_walks p e f fan are).each w).1 (walk w there)) in
    omega arith

-- a walk stays in its section
section_led : (p : InstanceParts) (e : CellId) (w : List Step) (f : CellId) (k : ℕ) → Leads p e w f → IsInSection p k e → IsInSection p k f
section_led p e [] f k led here = subst (IsInSection p k) led here
section_led p e (s ∷ w) f k led here = section_led p s.cell w f k led.1 (same_section p e s.node s.cell k led.0 here)

one_section : (p : InstanceParts) (j k : ℕ) (c : CellId) → IsInSection p j c → IsInSection p k c → j ≡ k
one_section p j k c one other =
    let same : one.cell ≡ other.cell = same_Some _ _ (sym one.is ∙ other.is) in
    sym one.of_section ∙ (ap (λ (s : CellSpec). s.section.0) same ∙ other.of_section)

-- the search from no cell, and from one cell more
pub none_searched : (p : InstanceParts) → AreSearchedBelow p 0 None []
none_searched p = record {
  for_each = λ none. refl;
  each = λ none k d low. absurd (omega arith);
  no_lower = λ e section low here crowd. absurd (omega arith);
  has_many = λ s some. absurd (none-some s some);
}

pub searched_fan : (p : InstanceParts) (cell : CellId) (lowest : Option SectionId) (fans new : List FanParts) (fan : FanParts) → AreSearchedBelow p cell.0 lowest fans → IsCell p cell → IsFanOf p cell fan → new ≡ fans ++ fan ∷ [] → AreSearchedBelow p (cell.0 + 1) lowest new
searched_fan p cell lowest fans new fan old here are is = subst (AreSearchedBelow p (cell.0 + 1) lowest) (sym is) (record {
  for_each = λ none. length_push fans fan ∙ ap (λ n. n + 1) (old.for_each none);
  each = λ none k d low. elim (cases_eq k cell.0) [
    | inl same ↦
        let at : get_or (fans ++ fan ∷ []) k d ≡ fan = get_or_push fans fan d k (old.for_each none ∙ sym same) in
        subst (λ n. IsFanOf p (cell_of n) (get_or (fans ++ fan ∷ []) k d)) (sym same) (subst (IsFanOf p cell) (sym at) are)
    | inr other ↦
        let size = old.for_each none in
        subst (IsFanOf p (cell_of k)) (sym (get_or_append_left fans (fan ∷ []) d k (omega arith))) (old.each none k d (omega arith))
  ];
  no_lower = λ e section low in_section crowd. elim (cases_eq e.0 cell.0) [
    | inl same ↦ absurd (fan_not_crowded p cell fan here are (subst (IsCrowdedFrom p) (same_cell e cell same) crowd))
    | inr other ↦ old.no_lower e section (omega arith) in_section crowd
  ];
  has_many = old.has_many;
})

not_none : (lowest : Option SectionId) (k : ℕ) → IsNoHigher lowest k → lowest ≢ None
not_none None k high same = high
not_none (Some s) k high same = none-some s (sym same)

pub searched_skip : (p : InstanceParts) (cell : CellId) (s : ℕ) (lowest : Option SectionId) (fans : List FanParts) → AreSearchedBelow p cell.0 lowest fans → IsInSection p s cell → IsNoHigher lowest s → AreSearchedBelow p (cell.0 + 1) lowest fans
searched_skip p cell s lowest fans old here high = record {
  for_each = λ none. absurd (not_none lowest s high none);
  each = λ none k d low. absurd (not_none lowest s high none);
  no_lower = λ e section low in_section crowd. elim (cases_eq e.0 cell.0) [
    | inl same ↦ subst (IsNoHigher lowest) (one_section p s section cell here (subst (IsInSection p section) (same_cell e cell same) in_section)) high
    | inr other ↦ old.no_lower e section (omega arith) in_section crowd
  ];
  has_many = old.has_many;
}

lower_still : (lowest : Option SectionId) (s section : ℕ) → ¬ IsNoHigher lowest s → IsNoHigher lowest section → s ≤ section
lower_still None s section not_yet high = absurd high
lower_still (Some r) s section not_yet high = elim (cases_lt s r.0) [ inl low ↦ omega (arith, low, high) | inr past ↦ absurd (not_yet past) ]

crowded_section : (p : InstanceParts) (s : ℕ) (e : CellId) → IsInSection p s e → IsCrowdedFrom p e → IsCrowded p s
crowded_section p s e here (f, many) =
    let some = many.many in
    let first : List Step = get_or many.walks 0 [] in
    let walk : IsWalk p e first f = many.are_walks 0 [] (omega arith) in
    record { one = e; other = f; one_in = here; other_in = section_led p e first f s walk.leads here; many = many }

pub searched_crowd : (p : InstanceParts) (cell : CellId) (s : SectionId) (lowest : Option SectionId) (fans : List FanParts) → AreSearchedBelow p cell.0 lowest fans → IsInSection p s.0 cell → ¬ IsNoHigher lowest s.0 → IsCrowdedFrom p cell → AreSearchedBelow p (cell.0 + 1) (Some s) fans
searched_crowd p cell s lowest fans old here not_yet crowd = record {
  for_each = λ none. absurd (none-some s (sym none));
  each = λ none k d low. absurd (none-some s (sym none));
  no_lower = λ e section low in_section crowded. elim (cases_eq e.0 cell.0) [
    | inl same ↦ let one : s.0 ≡ section = one_section p s.0 section cell here (subst (IsInSection p section) (same_cell e cell same) in_section) in omega arith
    | inr other ↦ lower_still lowest s.0 section not_yet (old.no_lower e section (omega arith) in_section crowded)
  ];
  has_many = λ r same. subst (λ (t : SectionId). IsCrowded p t.0) (same_Some s r same) (crowded_section p s.0 cell here crowd);
}

-- the search from all cells
pub none_crowded : (p : InstanceParts) (fans : List FanParts) → AreSearchedBelow p (length p.cells) None fans → (section : ℕ) → ¬ IsCrowded p section
none_crowded p fans found section crowd = found.no_lower crowd.one section (in_section_cell p section crowd.one crowd.one_in) crowd.one_in (crowd.other, crowd.many)

pub first_crowded : (p : InstanceParts) (s : SectionId) (fans : List FanParts) → AreSearchedBelow p (length p.cells) (Some s) fans → IsCrowded p s.0 × NoneIsCrowdedBelow p s.0
first_crowded p s fans found = (
  found.has_many s refl,
  λ r low crowd. let high : s.0 ≤ r = found.no_lower crowd.one r (in_section_cell p r crowd.one crowd.one_in) crowd.one_in (crowd.other, crowd.many) in omega arith,
)
