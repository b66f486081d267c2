-- The walks of a group one step longer over one node: each once, in order.
use Rattle.std.proofs.Common.{◌≡◌, ◌≢◌, ◌<◌, ◌+◌, inl, inr, ℕ, zero, suc, true, false, List, [], ◌∷◌, ◌++◌, length, get_or, refl, sym, ap, ◌∙◌, subst, arith}
use Rattle.std.specs.Prelude.{AllPairs, Contains, Some, slice_get, slice_index_or, nat_eq, ◌*◌}
use Rattle.std.specs.List.{flat_map}
use Rattle.std.proofs.lemmas.Bool.{cases_Bool, eqb-true, eq-eqb, false≢true}
use Rattle.std.proofs.lemmas.List.{length-map}
use Rattle.std.proofs.lemmas.Option.{slice_get-get_or, same_Some}
use Rattle.vss_rows.proofs.JoinedLaws.{Contains-from_flat_map, Contains-flat_map, AllPairs-flat_map}
use Rattle.cell_net.specs.Space.{IsCell}
use Rattle.cell_net.specs.Borders.{IsAtEnd}
use Rattle.cell_net.specs.declared.ids.CellId.{CellId}
use Rattle.cell_net.specs.declared.ids.NodeId.{NodeId}
use Rattle.cell_net.specs.declared.cells.CellSpec.{CellSpec}
use Rattle.cell_net.specs.declared.parts.InstanceParts.{InstanceParts}
use Rattle.gap_clauses.specs.Walks.{Step, SharesNode, IsWalkFrom, IsLess, IsWalkBefore, end_of, node_numbers, cell_numbers, step_cells}
use Rattle.gap_clauses.specs.Fans.{has_node, visits, longer, over, all_over, behind, AreBehind, AreRows, AreListed, IsOverNodes}
use Rattle.gap_clauses.proofs.ListLemmas.{nothing_in_nil}
use Rattle.gap_clauses.proofs.OrderLaws.{not_less_itself}
use Rattle.gap_clauses.proofs.ListedLaws.{less_push, less_at, nodes_push, cells_push}
use Rattle.gap_clauses.proofs.WalkLaws.{parted, same_node, step_to, walk_push, walk_split, end_is_cell, no_visit}

-- what is behind a node, by the rows
pub behind_low : (p : InstanceParts) (rows : List (List CellId)) (cell : CellId) (n : NodeId) (spec : CellSpec) → slice_get p.cells cell.0 ≡ Some spec → nat_eq spec.low.0 n.0 ≡ true → behind p rows cell n ≡ slice_index_or rows (2 * cell.0) []
unfolding behind
behind_low p rows cell n spec is low = rw (is, low) refl

pub behind_high : (p : InstanceParts) (rows : List (List CellId)) (cell : CellId) (n : NodeId) (spec : CellSpec) → slice_get p.cells cell.0 ≡ Some spec → nat_eq spec.low.0 n.0 ≡ false → nat_eq spec.high.0 n.0 ≡ true → behind p rows cell n ≡ slice_index_or rows (2 * cell.0 + 1) []
unfolding behind
behind_high p rows cell n spec is low high = rw (is, low, high) refl

pub behind_none : (p : InstanceParts) (rows : List (List CellId)) (cell : CellId) (n : NodeId) (spec : CellSpec) → slice_get p.cells cell.0 ≡ Some spec → nat_eq spec.low.0 n.0 ≡ false → nat_eq spec.high.0 n.0 ≡ false → behind p rows cell n ≡ []
unfolding behind
behind_none p rows cell n spec is low high = rw (is, low, high) refl

differs : (m n : NodeId) → nat_eq m.0 n.0 ≡ false → m ≢ n
differs m n other same = false≢true (sym other ∙ eq-eqb _ _ (ap (λ (k : NodeId). k.0) same))

pub behind_is : (p : InstanceParts) (rows : List (List CellId)) (cell : CellId) (n : NodeId) → AreRows p rows → IsCell p cell → AreBehind p cell n (behind p rows cell n)
behind_is p rows cell n are here =
    let spec : CellSpec = get_or p.cells cell.0 (record { low = n; high = n; section = record { 0 = 0 }; limit = 0 }) in
    let is : slice_get p.cells cell.0 ≡ Some spec = slice_get-get_or p.cells cell.0 _ here in
    elim (cases_Bool (nat_eq spec.low.0 n.0)) [
      | inl low ↦ subst (AreBehind p cell n) (sym (behind_low p rows cell n spec is low)) (subst (λ m. AreBehind p cell m (slice_index_or rows (2 * cell.0) [])) (same_node spec.low n (eqb-true _ _ low)) (are.low cell spec here is))
      | inr not_low ↦ elim (cases_Bool (nat_eq spec.high.0 n.0)) [
        | inl high ↦ subst (AreBehind p cell n) (sym (behind_high p rows cell n spec is not_low high)) (subst (λ m. AreBehind p cell m (slice_index_or rows (2 * cell.0 + 1) [])) (same_node spec.high n (eqb-true _ _ high)) (are.high cell spec here is))
        | inr not_high ↦ subst (AreBehind p cell n) (sym (behind_none p rows cell n spec is not_low not_high)) (record {
          which = λ c. (
            λ there. nothing_in_nil c there,
            λ both. let same : both.0.one ≡ spec = same_Some _ _ (sym both.0.is_one ∙ is) in
                elim (subst (λ (s : CellSpec). IsAtEnd s n) same both.0.at_one) [ inl at ↦ absurd (differs spec.low n not_low at) | inr at ↦ absurd (differs spec.high n not_high at) ],
          );
          rising = λ i j d low high. absurd (omega arith);
        })
      ]
    ]

-- one walk over the node
pub longer_yes : (first : CellId) (n : NodeId) (w : List Step) (c : CellId) → visits first c w ≡ false → longer first n w c ≡ (w ++ step_to n c ∷ []) ∷ []
unfolding longer
longer_yes first n w c new = rw new refl

pub longer_no : (first : CellId) (n : NodeId) (w : List Step) (c : CellId) → visits first c w ≡ true → longer first n w c ≡ []
unfolding longer
longer_no first n w c has = rw has refl

pub over_yes : (p : InstanceParts) (rows : List (List CellId)) (first : CellId) (n : NodeId) (w : List Step) → has_node n w ≡ false → over p rows first n w ≡ flat_map (longer first n w) (behind p rows (end_of first w) n)
unfolding over
over_yes p rows first n w new = rw new refl

pub over_no : (p : InstanceParts) (rows : List (List CellId)) (first : CellId) (n : NodeId) (w : List Step) → has_node n w ≡ true → over p rows first n w ≡ []
unfolding over
over_no p rows first n w has = rw has refl

pub over_nowhere : (p : InstanceParts) (rows : List (List CellId)) (first : CellId) (n : NodeId) (w : List Step) → behind p rows (end_of first w) n ≡ [] → over p rows first n w ≡ []
over_nowhere p rows first n w nowhere = elim (cases_Bool (has_node n w)) [
  | inl has ↦ over_no p rows first n w has
  | inr new ↦ over_yes p rows first n w new ∙ ap (flat_map (longer first n w)) nowhere
]

-- a walk that is one step longer over the node
record IsLonger (p : InstanceParts) (rows : List (List CellId)) (first : CellId) (n : NodeId) (w u : List Step) : Type 0 where
  pub cell : CellId
  pub among : Contains (behind p rows (end_of first w) n) cell
  pub new_node : has_node n w ≡ false
  pub new_cell : visits first cell w ≡ false
  pub is : u ≡ w ++ step_to n cell ∷ []

only : {X : Type 0} (x y : X) → Contains (x ∷ []) y → x ≡ y
only x y (zero, within, same) = same
only x y (suc k, within, same) = absurd (omega arith)

from_longer : (first : CellId) (n : NodeId) (w u : List Step) (c : CellId) → Contains (longer first n w c) u → (visits first c w ≡ false) × (u ≡ w ++ step_to n c ∷ [])
from_longer first n w u c there = elim (cases_Bool (visits first c w)) [
  | inl has ↦ nothing_in_nil u (subst (λ us. Contains us u) (longer_no first n w c has) there)
  | inr new ↦ (new, sym (only _ u (subst (λ us. Contains us u) (longer_yes first n w c new) there)))
]

from_over : (p : InstanceParts) (rows : List (List CellId)) (first : CellId) (n : NodeId) (w u : List Step) → Contains (over p rows first n w) u → IsLonger p rows first n w u
from_over p rows first n w u there = elim (cases_Bool (has_node n w)) [
  | inl has ↦ nothing_in_nil u (subst (λ us. Contains us u) (over_no p rows first n w has) there)
  | inr new ↦
      let found = Contains-from_flat_map (longer first n w) (behind p rows (end_of first w) n) u (subst (λ us. Contains us u) (over_yes p rows first n w new) there) in
      let both = from_longer first n w u found.0 found.2 in
      record { cell = found.0; among = found.1; new_node = new; new_cell = both.0; is = both.1 }
]

to_over : (p : InstanceParts) (rows : List (List CellId)) (first : CellId) (n : NodeId) (w : List Step) (c : CellId) → has_node n w ≡ false → visits first c w ≡ false → Contains (behind p rows (end_of first w) n) c → Contains (over p rows first n w) (w ++ step_to n c ∷ [])
to_over p rows first n w c new_node new_cell among =
    let one : Contains (longer first n w c) (w ++ step_to n c ∷ []) = subst (λ us. Contains us (w ++ step_to n c ∷ [])) (sym (longer_yes first n w c new_cell)) (0, omega arith, refl) in
    subst (λ us. Contains us (w ++ step_to n c ∷ [])) (sym (over_yes p rows first n w new_node)) (Contains-flat_map (longer first n w) (behind p rows (end_of first w) n) c (w ++ step_to n c ∷ []) among one)

-- the end of a walk is among its cells
pub end_among : (e : CellId) (w : List Step) → Contains (e ∷ step_cells w) (end_of e w)
end_among e [] = (0, omega arith, refl)
end_among e (s ∷ w) = let there = end_among s.cell w in (suc there.0, omega (arith, there.1), there.2)

-- longer walks of equal nodes, in order
longer_before : (v w : List Step) (n : NodeId) (c d : CellId) → node_numbers v ≡ node_numbers w → IsWalkBefore v w → IsWalkBefore (v ++ step_to n c ∷ []) (w ++ step_to n d ∷ [])
unfolding IsWalkBefore
longer_before v w n c d same before = elim before [
  | inl low ↦ absurd (not_less_itself (node_numbers v) (subst (IsLess (node_numbers v)) (sym same) low))
  | inr both ↦ inr (
    nodes_push v n c ∙ (ap (λ ns. ns ++ n.0 ∷ []) same ∙ sym (nodes_push w n d)),
    subst (λ cs. IsLess cs (cell_numbers (w ++ step_to n d ∷ []))) (sym (cells_push v n c)) (subst (IsLess (cell_numbers v ++ c.0 ∷ [])) (sym (cells_push w n d))
        (less_push (cell_numbers v) (cell_numbers w) c.0 d.0 (length-map v (λ (s : Step). s.cell.0) ∙ (sym (length-map v (λ (s : Step). s.node.0)) ∙ (ap length same ∙ (length-map w (λ (s : Step). s.node.0) ∙ sym (length-map w (λ (s : Step). s.cell.0)))))) both.1)),
  )
]

longer_rises : (w : List Step) (n : NodeId) (c d : CellId) → c.0 < d.0 → IsWalkBefore (w ++ step_to n c ∷ []) (w ++ step_to n d ∷ [])
unfolding IsWalkBefore
longer_rises w n c d low = inr (
  nodes_push w n c ∙ sym (nodes_push w n d),
  subst (λ cs. IsLess cs (cell_numbers (w ++ step_to n d ∷ []))) (sym (cells_push w n c)) (subst (IsLess (cell_numbers w ++ c.0 ∷ [])) (sym (cells_push w n d)) (less_at (cell_numbers w) c.0 d.0 [] [] low)),
)

one_in_order : (first : CellId) (n : NodeId) (w : List Step) (c : CellId) → AllPairs IsWalkBefore (longer first n w c)
one_in_order first n w c = elim (cases_Bool (visits first c w)) [
  | inl has ↦ subst (AllPairs IsWalkBefore) (sym (longer_no first n w c has)) (λ i j d low high. absurd (omega arith))
  | inr new ↦ subst (AllPairs IsWalkBefore) (sym (longer_yes first n w c new)) (λ i j d low high. absurd (omega arith))
]

over_in_order : (p : InstanceParts) (rows : List (List CellId)) (first : CellId) (n : NodeId) (w : List Step) → AllPairs (λ (c d : CellId). c.0 < d.0) (behind p rows (end_of first w) n) → AllPairs IsWalkBefore (over p rows first n w)
over_in_order p rows first n w rising = elim (cases_Bool (has_node n w)) [
  | inl has ↦ subst (AllPairs IsWalkBefore) (sym (over_no p rows first n w has)) (λ i j d low high. absurd (omega arith))
  | inr new ↦ subst (AllPairs IsWalkBefore) (sym (over_yes p rows first n w new)) (AllPairs-flat_map (λ (c d : CellId). c.0 < d.0) IsWalkBefore (longer first n w) (behind p rows (end_of first w) n) rising
      (λ c among. one_in_order first n w c)
      (λ c d u v among_c among_d low at_u at_v.
      let is_u : u ≡ w ++ step_to n c ∷ [] = (from_longer first n w u c at_u).1 in
      let is_v : v ≡ w ++ step_to n d ∷ [] = (from_longer first n w v d at_v).1 in
      subst (λ x. IsWalkBefore x v) (sym is_u) (subst (IsWalkBefore (w ++ step_to n c ∷ [])) (sym is_v) (longer_rises w n c d low))))
]

no_rest : (w : List Step) → node_numbers w ≡ [] → w ≡ []
no_rest [] h = refl
no_rest (s ∷ w) h = absurd (let e : length (node_numbers (s ∷ w)) ≡ 0 = ap length h in omega arith)

-- the group over one node more
pub group_over : (p : InstanceParts) (rows : List (List CellId)) (e : CellId) (ms : List ℕ) (n : NodeId) (group : List (List Step)) → AreRows p rows → IsCell p e → AreListed p e (IsOverNodes ms) group →
    AreListed p e (IsOverNodes (ms ++ n.0 ∷ [])) (all_over p rows e n group)
unfolding IsOverNodes
group_over p rows e ms n group are here old = record {
  each = λ u. (
    λ there.
        let found = Contains-from_flat_map (over p rows e n) group u there in
        let w : List Step = found.0 in
        let both = (old.each w).0 found.1 in
        let one = from_over p rows e n w u found.2 in
        let shares = ((behind_is p rows (end_of e w) n are (end_is_cell p e w (end_of e w) here both.0.leads)).which one.cell).0 one.among in (
          subst (IsWalkFrom p e) (sym one.is) (walk_push p e w n one.cell both.0 shares.0 one.new_node one.new_cell),
          ap node_numbers one.is ∙ (nodes_push w n one.cell ∙ ap (λ ns. ns ++ n.0 ∷ []) both.1),
        ),
    λ both.
        let part = parted u ms n.0 [] both.1 in
        let rest_is : part.rest ≡ [] = no_rest part.rest part.rest_is in
        let split = walk_split p e part.begin part.step part.rest (subst (IsWalkFrom p e) part.is both.0) in
        let node_is : part.step.node ≡ n = same_node _ _ part.step_is in
        let whole : u ≡ part.begin ++ step_to n part.step.cell ∷ [] = part.is ∙ (ap (λ (r : List Step). part.begin ++ part.step ∷ r) rest_is ∙ ap (λ (m : NodeId). part.begin ++ step_to m part.step.cell ∷ []) node_is) in
        let shares : SharesNode p (end_of e part.begin) n part.step.cell = subst (λ (m : NodeId). SharesNode p (end_of e part.begin) m part.step.cell) node_is split.shares in
        let new_node : has_node n part.begin ≡ false = subst (λ (m : NodeId). has_node m part.begin ≡ false) node_is split.new_node in
        let among : Contains (behind p rows (end_of e part.begin) n) part.step.cell = ((behind_is p rows (end_of e part.begin) n are (end_is_cell p e part.begin (end_of e part.begin) here split.begin.leads)).which part.step.cell).1
        (shares, λ same. no_visit e part.step.cell part.begin split.new_cell (subst (Contains (e ∷ step_cells part.begin)) (sym same) (end_among e part.begin))) in
        subst (Contains (all_over p rows e n group)) (sym whole) (Contains-flat_map (over p rows e n) group part.begin (part.begin ++ step_to n part.step.cell ∷ [])
        ((old.each part.begin).1 (split.begin, part.begin_is)) (to_over p rows e n part.begin part.step.cell new_node split.new_cell among)),
  );
  in_order = AllPairs-flat_map IsWalkBefore IsWalkBefore (over p rows e n) group old.in_order
      (λ w among. let walk = ((old.each w).0 among).0 in over_in_order p rows e n w (behind_is p rows (end_of e w) n are (end_is_cell p e w (end_of e w) here walk.leads)).rising)
      (λ v w u x among_v among_w before at_u at_x.
      let one = from_over p rows e n v u at_u in
      let other = from_over p rows e n w x at_x in
      let same : node_numbers v ≡ node_numbers w = ((old.each v).0 among_v).1 ∙ sym ((old.each w).0 among_w).1 in
      subst (λ y. IsWalkBefore y x) (sym one.is) (subst (IsWalkBefore (v ++ step_to n one.cell ∷ [])) (sym other.is) (longer_before v w n one.cell other.cell same before)));
}
