-- Steps of the loop over candidates, and why its list is a layout.
use Rattle.std.proofs.Common.{◌≡◌, ℕ, ◌+◌, ◌-◌, ◌≤◌, Bool, true, false, List, [], ◌∷◌, ◌++◌, length, map, filter, refl, sym, ap, ◌∙◌, subst, arith}
use Rattle.std.specs.List.{range_with_len}
use Rattle.std.proofs.lemmas.List.{append-nil, length-map, map-append, map-id}
use Rattle.std.proofs.lemmas.List.FromFn.{map-range_with_len_more}
use Rattle.std.proofs.lemmas.List.Sums.{length-filter, count_by-le-length}
use Rattle.std.proofs.lemmas.List.Elements.{filter-append}
use Rattle.cell_net.specs.Borders.{IsBorderSet}
use Rattle.cell_net.specs.declared.ids.CandidateId.{CandidateId}
use Rattle.cell_net.specs.declared.parts.InstanceParts.{InstanceParts}
use Rattle.clause_list.specs.Numbers.{border}
use Rattle.clause_list.specs.Ranges.{from_below, below}
use Rattle.clause_list.specs.Values.{value}
use Rattle.clause_list.proofs.ListLaws.{length-below}
use Rattle.plan_laws.specs.Telling.{is_standing, told_layout}
use Rattle.plan_laws.proofs.LayoutLaws.{layout_is_set}

abbrev candidate : ℕ → CandidateId
candidate c = record { 0 = c }

below_more : (n : ℕ) → below (n + 1) ≡ below n ++ n ∷ []
unfolding from_below
below_more n =
    let e : n + 1 - 0 ≡ n + 1 = omega arith in let z : n - 0 ≡ n = omega arith in
    rw (e, z) (sym (map-id (range_with_len 0 (n + 1))) ∙ map-range_with_len_more (λ x. x) 0 n n (omega arith) ∙ ap (λ xs. xs ++ n ∷ []) (map-id (range_with_len 0 n)))

pub no_candidate : (values : List Bool) → [] ≡ told_layout values 0
unfolding from_below
no_candidate values = refl

layout_more : (values : List Bool) (n : ℕ) → told_layout values (n + 1) ≡ told_layout values n ++ map candidate (filter (is_standing values) (n ∷ []))
layout_more values n = ap (λ xs. map candidate (filter (is_standing values) xs)) (below_more n) ∙ (ap (map candidate) (filter-append (is_standing values) (below n) (n ∷ [])) ∙ map-append candidate (filter (is_standing values) (below n)) (filter (is_standing values) (n ∷ [])))

pub standing_more : (values : List Bool) (n number : ℕ) (b : Bool) (old new : List CandidateId) → old ≡ told_layout values n → new ≡ old ++ record { 0 = n } ∷ [] → number ≡ border n → b ≡ value values number → b ≡ true → new ≡ told_layout values (n + 1)
unfolding is_standing
standing_more values n number b old new before grown same is holds =
    let stands : value values (border n) ≡ true = ap (value values) (sym same) ∙ sym is ∙ holds in
    grown ∙ ap (λ xs. xs ++ candidate n ∷ []) before ∙ sym (layout_more values n ∙ rw stands refl)

pub standing_same : (values : List Bool) (n number : ℕ) (b : Bool) (old : List CandidateId) → old ≡ told_layout values n → number ≡ border n → b ≡ value values number → b ≡ false → old ≡ told_layout values (n + 1)
unfolding is_standing
standing_same values n number b old before same is holds =
    let stands : value values (border n) ≡ false = ap (value values) (sym same) ∙ sym is ∙ holds in
    before ∙ sym (layout_more values n ∙ rw stands (append-nil (told_layout values n)))

pub layout_few : (values : List Bool) (n : ℕ) → length (told_layout values n) ≤ n
layout_few values n =
    let kept : length (told_layout values n) ≡ length (filter (is_standing values) (below n)) = length-map (filter (is_standing values) (below n)) candidate in
    let some = length-filter (is_standing values) (below n) in
    let few = count_by-le-length (is_standing values) (below n) in
    let all : length (below n) ≡ n = length-below n in
    omega (arith, some, few)

pub told_is_set : (values : List Bool) (p : InstanceParts) (borders : List CandidateId) → borders ≡ told_layout values (length p.candidates) → IsBorderSet p borders
told_is_set values p borders same = subst (IsBorderSet p) (sym same) (layout_is_set values p)
