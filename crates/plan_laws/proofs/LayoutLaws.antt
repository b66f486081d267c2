-- The borders that stand are a border set.
use Rattle.std.proofs.Common.{◌≡◌, ℕ, ◌<◌, Bool, true, List, length, get_or, map, filter, sym, ap, ◌∙◌, subst, arith}
use Rattle.std.specs.Prelude.{AllPairs, Contains, ◌↔◌}
use Rattle.std.proofs.lemmas.List.{get_or-map, length-map}
use Rattle.std.proofs.lemmas.List.Kept.{AllPairs-filter}
use Rattle.std.proofs.lemmas.Option.{slice_get_within, get_or_from_slice_get}
use Rattle.vss_lists.specs.Breaks.{HoldsOfEach}
use Rattle.cell_net.specs.Borders.{IsBorderSet, RisesAt}
use Rattle.cell_net.specs.declared.ids.CandidateId.{CandidateId}
use Rattle.cell_net.specs.declared.parts.InstanceParts.{InstanceParts}
use Rattle.clause_list.specs.Ranges.{below}
use Rattle.clause_list.specs.Numbers.{border}
use Rattle.clause_list.specs.Values.{value}
use Rattle.clause_list.proofs.ListLaws.{filter_is, filter_keeps, in_range, in_range_is, range_rises}
use Rattle.plan_laws.specs.Telling.{is_standing, told_layout}

abbrev candidate : ℕ → CandidateId
candidate c = record { 0 = c }

pairs_map : (xs : List ℕ) → AllPairs (λ x y. x < y) xs → AllPairs (λ (b c : CandidateId). b.0 < c.0) (map candidate xs)
pairs_map xs pairs i j d h k =
    let size : length (map candidate xs) ≡ length xs = length-map xs candidate in
    let inside : j < length xs = omega arith in
    let one : get_or (map candidate xs) i d ≡ candidate (get_or xs i 0) = get_or-map candidate xs i 0 d (omega arith) in
    let other : get_or (map candidate xs) j d ≡ candidate (get_or xs j 0) = get_or-map candidate xs j 0 d inside in
    let less : get_or xs i 0 < get_or xs j 0 = pairs i j 0 h inside in
    omega (arith, ap (λ (c : CandidateId). c.0) one, ap (λ (c : CandidateId). c.0) other)

pub layout_rises : (values : List Bool) (n : ℕ) → AllPairs (λ (b c : CandidateId). b.0 < c.0) (told_layout values n)
layout_rises values n = pairs_map (filter (is_standing values) (below n)) (AllPairs-filter (λ x y. x < y) (is_standing values) (below n) (range_rises 0 n))

-- a border stands exactly at the candidates whose variable is true
pub layout_has : (values : List Bool) (n : ℕ) (c : CandidateId) → Contains (told_layout values n) c ↔ (c.0 < n) × (value values (border c.0) ≡ true)
unfolding is_standing
layout_has values n c = (
  λ there. let (k, within, same) = there in
      let inside : k < length (filter (is_standing values) (below n)) = subst (λ m. k < m) (length-map (filter (is_standing values) (below n)) candidate) within in
      let number : get_or (filter (is_standing values) (below n)) k c.0 ≡ c.0 = ap (λ (b : CandidateId). b.0) (sym (get_or-map candidate (filter (is_standing values) (below n)) k c.0 c inside) ∙ same) in
      let kept = filter_is (is_standing values) (below n) c.0 (k, inside, number) in
      ((in_range_is 0 n c.0 kept.1).1, kept.0),
  λ stands. let (k, inside, same) = filter_keeps (is_standing values) (below n) c.0 stands.1 (in_range 0 n c.0 (omega arith) stands.0) in
      (k, subst (λ m. k < m) (sym (length-map (filter (is_standing values) (below n)) candidate)) inside, get_or-map candidate (filter (is_standing values) (below n)) k c.0 c inside ∙ ap candidate same),
)

-- a list whose numbers rise rises at each place
rises_at : (borders : List CandidateId) → AllPairs (λ (b c : CandidateId). b.0 < c.0) borders → HoldsOfEach (RisesAt borders) borders
rises_at borders pairs = record {
  at_each = λ k item is before b next is_before.
      let within : k < length borders = slice_get_within borders k item is in
      let one : get_or borders before item ≡ b = get_or_from_slice_get borders before b item is_before in
      let other : get_or borders k item ≡ item = get_or_from_slice_get borders k item item is in
      let less : (get_or borders before item).0 < (get_or borders k item).0 = pairs before k item (omega arith) within in
      omega (arith, ap (λ (c : CandidateId). c.0) one, ap (λ (c : CandidateId). c.0) other);
}

pub layout_is_set : (values : List Bool) (p : InstanceParts) → IsBorderSet p (told_layout values (length p.candidates))
layout_is_set values p = record {
  rising = rises_at (told_layout values (length p.candidates)) (layout_rises values (length p.candidates));
  in_range = record {
    at_each = λ k item is.
        let borders : List CandidateId = told_layout values (length p.candidates) in
        let within : k < length borders = slice_get_within borders k item is in
        ((layout_has values (length p.candidates) item).0 (k, within, get_or_from_slice_get borders k item item is)).0;
  };
}
