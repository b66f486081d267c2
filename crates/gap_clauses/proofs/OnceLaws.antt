-- What a walk goes over or has a second time: no cell but the first one, and no node where two cells meet.
use Rattle.std.proofs.Common.{◌≡◌, ◌≢◌, ◌<◌, ◌≤◌, inl, inr, zero, suc, true, false, List, [], ◌∷◌, ◌++◌, length, get_or, refl, sym, ap, ◌∙◌, subst, arith}
use Rattle.std.specs.Prelude.{AllPairs, Contains, Some, ◌⊎◌, ◌||◌, slice_get, nat_eq}
use Rattle.std.specs.List.{list_any}
use Rattle.std.proofs.lemmas.Bool.{cases_Bool, eqb-true, false≢true}
use Rattle.std.proofs.lemmas.List.{get_or_default}
use Rattle.std.proofs.lemmas.List.Elements.{Contains-get_or}
use Rattle.std.proofs.lemmas.Option.{same_Some}
use Rattle.cell_net.specs.Borders.{IsAtEnd}
use Rattle.cell_net.specs.Space.{IsCell}
use Rattle.cell_net.specs.declared.cells.CellSpec.{CellSpec}
use Rattle.cell_net.specs.declared.ids.CellId.{CellId}
use Rattle.cell_net.specs.declared.ids.NodeId.{NodeId}
use Rattle.cell_net.specs.declared.parts.InstanceParts.{InstanceParts}
use Rattle.gap_clauses.specs.Fans.{AreRows, behind, ends_over, has_cell, has_node, visits}
use Rattle.gap_clauses.specs.Walks.{Step, IsWalkFrom, Leads, SharesNode, end_of, step_cells, step_nodes}
use Rattle.vss_rows.proofs.JoinedLaws.{AllPairs-tail, AllPairs-head}
use Rattle.gap_clauses.proofs.ListLemmas.{in_tail}
use Rattle.gap_clauses.proofs.OverLaws.{behind_is, end_among}
use Rattle.gap_clauses.proofs.WalkLaws.{end_is_cell, no_such_node, same_cell, same_node}

-- whether the last step goes over the node, of a walk one step longer
pub over_push : (n : NodeId) (w : List Step) (s : Step) → ends_over n (w ++ s ∷ []) ≡ nat_eq s.node.0 n.0
over_push n [] s = refl
over_push n (t ∷ []) s = refl
over_push n (t ∷ u ∷ w) s = over_push n (u ∷ w) s

-- three different nodes aren't at the two ends of a cell
three_ends : (cell : CellSpec) (a b c : NodeId) → IsAtEnd cell a → IsAtEnd cell b → IsAtEnd cell c → a ≢ b → a ≢ c → b ≢ c → ⊥
three_ends cell a b c (inl x) (inl y) z ab ac bc = ab (sym x ∙ y)
three_ends cell a b c (inr x) (inr y) z ab ac bc = ab (sym x ∙ y)
three_ends cell a b c (inl x) (inr y) (inl z) ab ac bc = ac (sym x ∙ z)
three_ends cell a b c (inl x) (inr y) (inr z) ab ac bc = bc (sym y ∙ z)
three_ends cell a b c (inr x) (inl y) (inl z) ab ac bc = bc (sym y ∙ z)
three_ends cell a b c (inr x) (inl y) (inr z) ab ac bc = ac (sym x ∙ z)

-- a cell that the walk left has its two nodes on the walk
left_cell : (p : InstanceParts) (e : CellId) (s t : Step) (w : List Step) (n : NodeId) (spec : CellSpec) → Leads p e (s ∷ t ∷ w) (end_of e (s ∷ t ∷ w)) → AllPairs ◌≢◌ (step_nodes (s ∷ t ∷ w)) → ((m : NodeId) → Contains (step_nodes (s ∷ t ∷ w)) m → m ≢ n) →
    slice_get p.cells s.cell.0 ≡ Some spec → IsAtEnd spec n → ⊥
left_cell p e s t w n spec led once new is at =
    let into : led.0.other ≡ spec = same_Some _ _ (sym led.0.is_other ∙ is) in
    let out : led.1.0.one ≡ spec = same_Some _ _ (sym led.1.0.is_one ∙ is) in
    three_ends spec s.node t.node n (subst (λ (c : CellSpec). IsAtEnd c s.node) into led.0.at_other) (subst (λ (c : CellSpec). IsAtEnd c t.node) out led.1.0.at_one) at
    (AllPairs-head ◌≢◌ s.node t.node (step_nodes (t ∷ w)) once (0, omega arith, refl)) (new s.node (0, omega arith, refl)) (new t.node (1, omega arith, refl))

last_here : (p : InstanceParts) (e : CellId) (s : Step) (w : List Step) (n : NodeId) (c : CellId) (spec : CellSpec) → Leads p e (s ∷ w) (end_of e (s ∷ w)) → AllPairs ◌≢◌ (step_nodes (s ∷ w)) → ((m : NodeId) → Contains (step_nodes (s ∷ w)) m → m ≢ n) →
    slice_get p.cells c.0 ≡ Some spec → IsAtEnd spec n → s.cell ≡ c → c ≡ end_of e (s ∷ w)
last_here p e s [] n c spec led once new is at same = sym same
last_here p e s (t ∷ w) n c spec led once new is at same = absurd (left_cell p e s t w n spec led once new (subst (λ (d : CellId). slice_get p.cells d.0 ≡ Some spec) (sym same) is) at)

-- a cell behind the first one, at a node that the walk doesn't go over, is the last one
last_alone : (p : InstanceParts) (e : CellId) (w : List Step) (n : NodeId) (c : CellId) (spec : CellSpec) → Leads p e w (end_of e w) → AllPairs ◌≢◌ (step_nodes w) → ((m : NodeId) → Contains (step_nodes w) m → m ≢ n) →
    slice_get p.cells c.0 ≡ Some spec → IsAtEnd spec n → has_cell c w ≡ true → c ≡ end_of e w
unfolding has_cell
last_alone p e [] n c spec led once new is at has = absurd (false≢true has)
last_alone p e (s ∷ w) n c spec led once new is at has = elim (cases_Bool (nat_eq s.cell.0 c.0)) [
  | inl here ↦ last_here p e s w n c spec led once new is at (same_cell s.cell c (eqb-true _ _ here))
  | inr other ↦ last_alone p s.cell w n c spec led.1 (AllPairs-tail ◌≢◌ s.node (step_nodes w) once) (λ m there. new m (in_tail s.node (step_nodes w) m there)) is at (subst (λ b. (b || list_any (λ (t : Step). nat_eq t.cell.0 c.0) w) ≡ true) other has)
]

-- the cells behind a node that the walk doesn't go over are new, but for the first one
pub behind_new : (p : InstanceParts) (rows : List (List CellId)) (e : CellId) (w : List Step) (n : NodeId) (c : CellId) → AreRows p rows → IsCell p e → IsWalkFrom p e w → has_node n w ≡ false → Contains (behind p rows (end_of e w) n) c → has_cell c w ≡ false
behind_new p rows e w n c are here walk new there =
    let both = ((behind_is p rows (end_of e w) n are (end_is_cell p e w (end_of e w) here walk.leads)).which c).0 there in
    elim (cases_Bool (has_cell c w)) [
      | inl has ↦ absurd (both.1 (last_alone p e w n c both.0.other walk.leads walk.no_node_twice (λ m among same. no_such_node n w new (subst (Contains (step_nodes w)) same among)) both.0.is_other both.0.at_other has))
      | inr none ↦ none
    ]

-- a walk's cells are of one section
one_section : (p : InstanceParts) (e : CellId) (w : List Step) (one other : CellSpec) → Leads p e w (end_of e w) → slice_get p.cells e.0 ≡ Some one → slice_get p.cells (end_of e w).0 ≡ Some other → one.section ≡ other.section
one_section p e [] one other led is_one is_other = ap (λ (c : CellSpec). c.section) (same_Some _ _ (sym is_one ∙ is_other))
one_section p e (s ∷ w) one other led is_one is_other =
    let first : one ≡ led.0.one = same_Some _ _ (sym is_one ∙ led.0.is_one) in
    ap (λ (c : CellSpec). c.section) first ∙ (led.0.one_section ∙ one_section p s.cell w led.0.other other led.1 led.0.is_other is_other)

-- two cells other than the last one of a walk meet it at the node
record TwoMeet (p : InstanceParts) (c : CellId) (n : NodeId) : Type 0 where
  pub one : CellId
  pub other : CellId
  pub are_two : one ≢ other
  pub one_is : one ≢ c
  pub other_is : other ≢ c
  pub shares_one : SharesNode p c n one
  pub shares_other : SharesNode p c n other

-- where a walk left two cells at a node of its last cell, both meet this one there
two_met : (p : InstanceParts) (e : CellId) (s t : Step) (w : List Step) (n : NodeId) (spec : CellSpec) → Leads p e (s ∷ t ∷ w) (end_of e (s ∷ t ∷ w)) → AllPairs ◌≢◌ (e ∷ step_cells (s ∷ t ∷ w)) →
    slice_get p.cells (end_of e (s ∷ t ∷ w)).0 ≡ Some spec → IsAtEnd spec n → s.node ≡ n → TwoMeet p (end_of e (s ∷ t ∷ w)) n
two_met p e s t w n spec led once is at over =
    let last : Contains (step_cells (t ∷ w)) (end_of t.cell w) = end_among t.cell w in
    let same : led.0.other.section ≡ spec.section = one_section p s.cell (t ∷ w) led.0.other spec led.1 led.0.is_other is in
    record {
      one = e;
      other = s.cell;
      are_two = AllPairs-head ◌≢◌ e s.cell (step_cells (s ∷ t ∷ w)) once (0, omega arith, refl);
      one_is = AllPairs-head ◌≢◌ e (end_of t.cell w) (step_cells (s ∷ t ∷ w)) once (in_tail s.cell (step_cells (t ∷ w)) (end_of t.cell w) last);
      other_is = AllPairs-head ◌≢◌ s.cell (end_of t.cell w) (step_cells (t ∷ w)) (AllPairs-tail ◌≢◌ e (step_cells (s ∷ t ∷ w)) once) last;
      shares_one = record { one = spec; other = led.0.one; is_one = is; is_other = led.0.is_one; one_section = sym same ∙ sym led.0.one_section; at_one = at; at_other = subst (IsAtEnd led.0.one) over led.0.at_one };
      shares_other = record { one = spec; other = led.0.other; is_one = is; is_other = led.0.is_other; one_section = sym same; at_one = at; at_other = subst (IsAtEnd led.0.other) over led.0.at_other };
    }

over_last : (p : InstanceParts) (e : CellId) (w : List Step) (n : NodeId) (spec : CellSpec) → Leads p e w (end_of e w) → AllPairs ◌≢◌ (e ∷ step_cells w) → slice_get p.cells (end_of e w).0 ≡ Some spec → IsAtEnd spec n → has_node n w ≡ true →
    (ends_over n w ≡ true) ⊎ TwoMeet p (end_of e w) n
unfolding has_node
over_last p e [] n spec led once is at has = absurd (false≢true has)
over_last p e (s ∷ []) n spec led once is at has = elim (cases_Bool (nat_eq s.node.0 n.0)) [
  | inl here ↦ inl here
  | inr other ↦ absurd (false≢true (subst (λ b. (b || false) ≡ true) other has))
]
over_last p e (s ∷ t ∷ w) n spec led once is at has = elim (cases_Bool (nat_eq s.node.0 n.0)) [
  | inl here ↦ inr (two_met p e s t w n spec led once is at (same_node s.node n (eqb-true _ _ here)))
  | inr other ↦ over_last p s.cell (t ∷ w) n spec led.1 (AllPairs-tail ◌≢◌ e (step_cells (s ∷ t ∷ w)) once) is at (subst (λ b. (b || list_any (λ (u : Step). nat_eq u.node.0 n.0) (t ∷ w)) ≡ true) other has)
]

two_items : {X : Type 0} (xs : List X) (x y : X) → length xs ≤ 1 → Contains xs x → Contains xs y → x ≡ y
two_items xs x y few (zero, inside, at) (zero, within, same) = sym at ∙ (get_or_default xs 0 x y inside ∙ same)
two_items xs x y few (suc k, inside, at) there = absurd (omega arith)
two_items xs x y few (zero, inside, at) (suc k, within, same) = absurd (omega arith)

-- where one other cell alone is at a node of the last cell, only the last step can have gone over the node
pub over_no_more : (p : InstanceParts) (rows : List (List CellId)) (e : CellId) (w : List Step) (n : NodeId) → AreRows p rows → IsCell p e → IsWalkFrom p e w → 0 < length (behind p rows (end_of e w) n) → length (behind p rows (end_of e w) n) ≤ 1 → ends_over n w ≡ false → has_node n w ≡ false
over_no_more p rows e w n are here walk some few not_last =
    let cells : List CellId = behind p rows (end_of e w) n in
    let which = (behind_is p rows (end_of e w) n are (end_is_cell p e w (end_of e w) here walk.leads)).which in
    let c : CellId = get_or cells 0 e in
    let shares : SharesNode p (end_of e w) n c = ((which c).0 (Contains-get_or cells 0 e some)).0 in
    elim (cases_Bool (has_node n w)) [
      | inl has ↦ elim (over_last p e w n shares.one walk.leads walk.no_cell_twice shares.is_one shares.at_one has) [
        | inl last ↦ absurd (false≢true (sym not_last ∙ last))
        | inr two ↦ absurd (two.are_two (two_items cells two.one two.other few ((which two.one).1 (two.shares_one, two.one_is)) ((which two.other).1 (two.shares_other, two.other_is))))
      ]
      | inr none ↦ none
    ]

-- the last step goes over a node of the walk
pub over_ends : (n : NodeId) (w : List Step) → ends_over n w ≡ true → has_node n w ≡ true
unfolding has_node
over_ends n [] last = absurd (false≢true last)
over_ends n (s ∷ []) last = ap (λ b. b || false) last
over_ends n (s ∷ t ∷ w) last = elim (cases_Bool (nat_eq s.node.0 n.0)) [
  | inl here ↦ ap (λ b. b || list_any (λ (u : Step). nat_eq u.node.0 n.0) (t ∷ w)) here
  | inr other ↦ ap (λ b. b || list_any (λ (u : Step). nat_eq u.node.0 n.0) (t ∷ w)) other ∙ over_ends n (t ∷ w) last
]

-- whether a walk has a cell that none of its steps leads into
pub visits_first : (e c : CellId) (w : List Step) → nat_eq e.0 c.0 ≡ true → visits e c w ≡ true
unfolding visits
visits_first e c w same = ap (λ b. b || has_cell c w) same

pub visits_none : (e c : CellId) (w : List Step) → nat_eq e.0 c.0 ≡ false → has_cell c w ≡ false → visits e c w ≡ false
unfolding visits
visits_none e c w other new = ap (λ b. b || has_cell c w) other ∙ new
