-- Marks of the candidates that are at nodes of a walk.
use Rattle.std.proofs.Common.{◌≡◌, ◌≢◌, ◌<◌, ◌≤◌, ◌+◌, ◌-◌, inl, inr, ℕ, zero, suc, map, append_assoc, Bool, true, false, List, [], ◌∷◌, ◌++◌, length, ltb, get_or, refl, sym, ap, ◌∙◌, subst, arith}
use Rattle.std.specs.Prelude.{All, ◌||◌, cond, nat_eq, slice_set}
use Rattle.std.specs.List.{filter, list_any, range_with_len}
use Rattle.std.specs.List.Sorted.{IsNonDecreasingBy, IsPartitionPoint}
use Rattle.std.proofs.lemmas.Bool.{cases_eq, cases_lt, eq-eqb, ne_eqb}
use Rattle.std.proofs.lemmas.Bool.Decides.{nat_tests}
use Rattle.std.proofs.lemmas.List.FromFn.{filter_of_map_range_with_len_more, get_or-map-range_with_len, length-map-range_with_len}
use Rattle.std.proofs.lemmas.List.Elements.{All-head, All-tail}
use Rattle.std.proofs.lemmas.Option.{slice_get-get_or}
use Rattle.std.proofs.lemmas.List.{append-nil, get_or_default, get_or-set_same, get_or-set_other}
use Rattle.std.proofs.lemmas.List.Folds.{list_any-append}
use Rattle.std.proofs.lemmas.List.Sorted.{IsNonDecreasingBy-from_all_adjacent}
use Rattle.cell_net.specs.Rules.{IsInstance}
use Rattle.cell_net.specs.declared.ids.CandidateId.{CandidateId}
use Rattle.cell_net.specs.declared.ids.NodeId.{NodeId}
use Rattle.cell_net.specs.declared.parts.InstanceParts.{InstanceParts}
use Rattle.gap_clauses.specs.Fans.{has_node}
use Rattle.gap_clauses.specs.Searched.{AreCandidateNodes, AreMarks, is_marked_candidate}
use Rattle.gap_clauses.specs.Views.{candidate_of, candidates_on, is_on}
use Rattle.gap_clauses.specs.Walks.{Step}

pub nodes_rise : (nodes : List NodeId) → AreCandidateNodes nodes → IsNonDecreasingBy (λ n. n.0) nodes
nodes_rise nodes are = IsNonDecreasingBy-from_all_adjacent (λ (n : NodeId). n.0) nodes
    (λ k d below. let less : (get_or nodes k d).0 < (get_or nodes (k + 1) d).0 = are.rising k (k + 1) d (omega arith) below in omega arith)

pub point_from_tests : (nodes : List NodeId) (n k : ℕ) → IsPartitionPoint (λ m. ltb m.0 n ≡ true) (λ m. ltb m.0 n ≡ false) nodes k → IsPartitionPoint (λ m. m.0 < n) (λ m. n ≤ m.0) nodes k
point_from_tests nodes n k point = (
  λ i d low high. let t : ltb (get_or nodes i d).0 n ≡ true = point.0 i d low high in grind (arith, nat_tests),
  λ i d low high. let t : ltb (get_or nodes i d).0 n ≡ false = point.1 i d low high in grind (arith, nat_tests),
)

-- the node isn't among those that are all below it or all above it
pub not_at_point : (nodes : List NodeId) (node : NodeId) (k : ℕ) → AreCandidateNodes nodes → IsPartitionPoint (λ m. m.0 < node.0) (λ m. node.0 ≤ m.0) nodes k →
    (k < length nodes → (get_or nodes k node).0 ≢ node.0) → All (λ m. m.0 ≢ node.0) nodes
not_at_point nodes node k are point other = λ j d within same. elim (cases_lt j k) [
  | inl early ↦ let low : (get_or nodes j d).0 < node.0 = point.0 j d (omega arith) early in omega arith
  | inr past ↦
      let inside : k < length nodes = omega arith in
      let high : node.0 ≤ (get_or nodes k d).0 = point.1 k d (omega arith) inside in
      let here : (get_or nodes k d).0 ≡ (get_or nodes k node).0 = ap (λ (m : NodeId). m.0) (get_or_default nodes k d node inside) in
      elim (cases_eq j k) [
        | inl at ↦ other inside (sym here ∙ (ap (λ i. (get_or nodes i d).0) (sym at) ∙ same))
        | inr later ↦ let less : (get_or nodes k d).0 < (get_or nodes j d).0 = are.rising k j d (omega arith) within in omega arith
      ]
]

or_false : (b : Bool) → b ≡ (b || false)
or_false true = refl
or_false false = refl

or_true : (b : Bool) → true ≡ (b || true)
or_true true = refl
or_true false = refl

pub mark_none : (nodes : List NodeId) (node : NodeId) (marks : List Bool) → All (λ m. m.0 ≢ node.0) nodes → (k : ℕ) (d : NodeId) → k < length nodes → get_or marks k false ≡ (get_or marks k false || nat_eq node.0 (get_or nodes k d).0)
mark_none nodes node marks none k d within =
    let e : nat_eq node.0 (get_or nodes k d).0 ≡ false = ne_eqb _ _ (λ same. none k d within (sym same)) in
    rw e (or_false (get_or marks k false))

pub mark_one : (nodes : List NodeId) (node : NodeId) (marks new : List Bool) (at : ℕ) → AreCandidateNodes nodes → at < length nodes → ((d : NodeId) → (get_or nodes at d).0 ≡ node.0) → length nodes ≤ length marks → new ≡ slice_set marks at true →
    (k : ℕ) (d : NodeId) → k < length nodes → get_or new k false ≡ (get_or marks k false || nat_eq node.0 (get_or nodes k d).0)
mark_one nodes node marks new at are inside here room is k d within = elim (cases_eq k at) [
  | inl same ↦
      let set : get_or new k false ≡ true = ap (λ ms. get_or ms k false) is ∙ (ap (λ i. get_or (slice_set marks at true) i false) same ∙ get_or-set_same marks at true false (omega arith)) in
      let e : nat_eq node.0 (get_or nodes k d).0 ≡ true = eq-eqb _ _ (sym (ap (λ i. (get_or nodes i d).0) same ∙ here d)) in
      set ∙ rw e (or_true (get_or marks k false))
  | inr other ↦
      let kept : get_or new k false ≡ get_or marks k false = ap (λ ms. get_or ms k false) is ∙ get_or-set_other marks at k true false other in
      let e : nat_eq node.0 (get_or nodes k d).0 ≡ false = ne_eqb _ _ (λ same. elim (cases_lt k at) [
        | inl early ↦ let less : (get_or nodes k d).0 < (get_or nodes at d).0 = are.rising k at d early inside in omega (arith, here d)
        | inr past ↦ let less : (get_or nodes at d).0 < (get_or nodes k d).0 = are.rising at k d (omega arith) within in omega (arith, here d)
      ]) in
      kept ∙ rw e (or_false (get_or marks k false))
]

-- a candidate on a walk one step longer
shuffle : (a b c : Bool) → (a || (b || (c || false))) ≡ ((a || c) || b)
shuffle true b c = refl
shuffle false true true = refl
shuffle false true false = refl
shuffle false false true = refl
shuffle false false false = refl

pub marks_more : (nodes : List NodeId) (whole w v : List Step) (s : Step) (k : ℕ) (old new : Bool) → v ≡ w ++ s ∷ [] → is_on nodes whole (candidate_of k) ≡ (old || is_on nodes v (candidate_of k)) →
    ((d : NodeId) → new ≡ (old || nat_eq s.node.0 (get_or nodes k d).0)) → is_on nodes whole (candidate_of k) ≡ (new || is_on nodes w (candidate_of k))
unfolding is_on has_node
marks_more nodes whole w v s k old new is before marked =
    let n : NodeId = get_or nodes k (record { 0 = 0 }) in
    let longer : list_any (λ (t : Step). nat_eq t.node.0 n.0) v ≡ (list_any (λ (t : Step). nat_eq t.node.0 n.0) w || (nat_eq s.node.0 n.0 || false)) = ap (list_any (λ (t : Step). nat_eq t.node.0 n.0)) is ∙ list_any-append (λ (t : Step). nat_eq t.node.0 n.0) w (s ∷ []) in
    before ∙ (ap (λ b. old || b) longer ∙ (shuffle old (list_any (λ (t : Step). nat_eq t.node.0 n.0) w) (nat_eq s.node.0 n.0) ∙ ap (λ b. b || list_any (λ (t : Step). nat_eq t.node.0 n.0) w) (sym (marked (record { 0 = 0 })))))

pub marks_none : (nodes : List NodeId) (w : List Step) (k : ℕ) (marks : List Bool) → All (λ m. m ≡ false) marks → k < length marks → is_on nodes w (candidate_of k) ≡ (get_or marks k false || is_on nodes w (candidate_of k))
marks_none nodes w k marks none within = let e : get_or marks k false ≡ false = none k false within in rw e refl

pub marks_all : (nodes : List NodeId) (whole w : List Step) (k : ℕ) (mark : Bool) → w ≡ [] → is_on nodes whole (candidate_of k) ≡ (mark || is_on nodes w (candidate_of k)) → mark ≡ is_on nodes whole (candidate_of k)
unfolding is_on has_node
marks_all nodes whole w k mark is all =
    let none : is_on nodes w (candidate_of k) ≡ false = ap (list_any (λ (t : Step). nat_eq t.node.0 (get_or nodes k (record { 0 = 0 })).0)) is in
    or_false mark ∙ (ap (λ b. mark || b) (sym none) ∙ sym all)

filter_alike : {X : Type 0} (t u : X → Bool) (xs : List X) → All (λ x. t x ≡ u x) xs → filter t xs ≡ filter u xs
filter_alike t u [] same = refl
filter_alike t u (x ∷ xs) same =
    let rest : filter t xs ≡ filter u xs = filter_alike t u xs (All-tail (λ x. t x ≡ u x) x xs same) in
    ap (λ b. cond b (x ∷ filter t xs) (filter t xs)) (All-head (λ x. t x ≡ u x) x xs same) ∙ ap (λ ys. cond (u x) (x ∷ ys) ys) rest

-- one candidate more, marked or not
pub marked_more : (marks : List Bool) (old now new : List CandidateId) (n : ℕ) (c : CandidateId) → now ≡ old ++ filter (is_marked_candidate marks) (map candidate_of (range_with_len 0 n)) → get_or marks n false ≡ true → c.0 ≡ n → new ≡ now ++ c ∷ [] →
    new ≡ old ++ filter (is_marked_candidate marks) (map candidate_of (range_with_len 0 (n + 1)))
unfolding is_marked_candidate
marked_more marks old now new n c before marked number is =
    let more = filter_of_map_range_with_len_more (is_marked_candidate marks) candidate_of 0 n n (omega arith) in
    let same : c ≡ candidate_of n = λ i. record { 0 = number i } in
    let one : filter (is_marked_candidate marks) (map candidate_of (range_with_len 0 (n + 1))) ≡ filter (is_marked_candidate marks) (map candidate_of (range_with_len 0 n)) ++ candidate_of n ∷ [] = more ∙ ap (λ b. filter (is_marked_candidate marks) (map candidate_of (range_with_len 0 n)) ++ cond b (candidate_of n ∷ []) []) marked in
    is ∙ (ap (λ cs. cs ++ c ∷ []) before ∙ (append_assoc old (filter (is_marked_candidate marks) (map candidate_of (range_with_len 0 n))) (c ∷ []) ∙ (ap (λ d. old ++ (filter (is_marked_candidate marks) (map candidate_of (range_with_len 0 n)) ++ d ∷ [])) same ∙ ap (λ cs. old ++ cs) (sym one))))

pub marked_less : (marks : List Bool) (old now new : List CandidateId) (n : ℕ) → now ≡ old ++ filter (is_marked_candidate marks) (map candidate_of (range_with_len 0 n)) → get_or marks n false ≡ false → new ≡ now →
    new ≡ old ++ filter (is_marked_candidate marks) (map candidate_of (range_with_len 0 (n + 1)))
unfolding is_marked_candidate
marked_less marks old now new n before marked is =
    let more = filter_of_map_range_with_len_more (is_marked_candidate marks) candidate_of 0 n n (omega arith) in
    let one : filter (is_marked_candidate marks) (map candidate_of (range_with_len 0 (n + 1))) ≡ filter (is_marked_candidate marks) (map candidate_of (range_with_len 0 n)) =
    more ∙ (ap (λ b. filter (is_marked_candidate marks) (map candidate_of (range_with_len 0 n)) ++ cond b (candidate_of n ∷ []) []) marked ∙ append-nil (filter (is_marked_candidate marks) (map candidate_of (range_with_len 0 n)))) in
    is ∙ (before ∙ ap (λ cs. old ++ cs) (sym one))

-- what is marked are the candidates on the walk
pub marked_are : (nodes : List NodeId) (walk : List Step) (marks : List Bool) → AreMarks nodes walk marks → filter (is_marked_candidate marks) (map candidate_of (range_with_len 0 (length nodes))) ≡ candidates_on nodes walk
unfolding is_marked_candidate candidates_on
marked_are nodes walk marks are = filter_alike (is_marked_candidate marks) (is_on nodes walk) (map candidate_of (range_with_len 0 (length nodes))) (λ k d within.
    let size = length-map-range_with_len candidate_of 0 (length nodes) in
    let at : get_or (map candidate_of (range_with_len 0 (length nodes))) k d ≡ candidate_of k = get_or-map-range_with_len candidate_of 0 (length nodes) k k d (omega arith) (let e : 0 + k ≡ k = omega arith in e) in
    subst (λ c. is_marked_candidate marks c ≡ is_on nodes walk c) (sym at) (are k (omega arith)))

-- an instance's candidates rise
rise_one : (p : InstanceParts) → IsInstance p → (i : ℕ) (d : NodeId) → i + 1 < length p.candidates → (get_or p.candidates i d).0 < (get_or p.candidates (i + 1) d).0
rise_one p rules i d within = (rules.candidates.at_each (i + 1) (get_or p.candidates (i + 1) d) (slice_get-get_or p.candidates (i + 1) d within)).rises i (get_or p.candidates i d) refl (slice_get-get_or p.candidates i d (omega arith))

rise_far : (p : InstanceParts) → IsInstance p → (i more : ℕ) (d : NodeId) → i + more + 1 < length p.candidates → (get_or p.candidates i d).0 < (get_or p.candidates (i + more + 1) d).0
rise_far p rules i zero d within =
    let e : i + 0 + 1 ≡ i + 1 = omega arith in
    rw e (rise_one p rules i d (omega arith))
rise_far p rules i (suc more) d within =
    let e : i + suc more + 1 ≡ i + more + 1 + 1 = omega arith in
    let before = rise_far p rules i more d (omega arith) in
    let next = rise_one p rules (i + more + 1) d (omega arith) in
    rw e (omega (arith, before, next))

pub candidate_nodes : (p : InstanceParts) → IsInstance p → AreCandidateNodes p.candidates
candidate_nodes p rules = record {
  few = rules.few_candidates;
  rising = λ i j d low high.
      let e : i + (j - i - 1) + 1 ≡ j = omega arith in
      subst (λ k. (get_or p.candidates i d).0 < (get_or p.candidates k d).0) e (rise_far p rules i (j - i - 1) d (omega arith));
}
