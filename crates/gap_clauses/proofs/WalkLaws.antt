-- Walks one step longer, and the beginnings of walks.
use Rattle.std.proofs.Common.{◌≡◌, ◌≢◌, ◌<◌, ◌≤◌, ◌+◌, inl, inr, ℕ, zero, suc, Bool, true, false, List, [], ◌∷◌, ◌++◌, length, map, get_or, refl, sym, ap, ◌∙◌, subst, arith}
use Rattle.std.specs.Prelude.{AllPairs, Contains, ◌||◌, nat_eq}
use Rattle.std.specs.List.{list_any, range_with_len}
use Rattle.std.proofs.lemmas.Bool.{cases_Bool, eqb-true, eq-eqb, false≢true}
use Rattle.std.proofs.lemmas.List.{get_or-map, length-map, map-append, map_push}
use Rattle.std.proofs.lemmas.List.FromFn.{get_or-map-range_with_len, length-map-range_with_len}
use Rattle.std.proofs.lemmas.List.Folds.{Any-from_list_any, list_any-from_Any}
use Rattle.std.proofs.lemmas.List.Quantifiers.{all_pairs_push}
use Rattle.std.proofs.lemmas.Option.{slice_get_within}
use Rattle.cell_net.specs.Space.{IsCell}
use Rattle.cell_net.specs.Rules.{IsInstance}
use Rattle.cell_net.specs.declared.ids.CellId.{CellId}
use Rattle.cell_net.specs.declared.ids.NodeId.{NodeId}
use Rattle.cell_net.specs.declared.parts.InstanceParts.{InstanceParts}
use Rattle.gap_clauses.specs.Walks.{Step, step_nodes, step_cells, SharesNode, Leads, IsWalkFrom, end_of, node_numbers}
use Rattle.gap_clauses.specs.Fans.{has_node, has_cell, visits}
use Rattle.gap_clauses.specs.Views.{cell_of}
use Rattle.gap_clauses.proofs.ListLemmas.{in_tail, no_more_than, AllPairs-begin, not_before}

pub same_cell : (c d : CellId) → c.0 ≡ d.0 → c ≡ d
same_cell c d h = λ i. record { 0 = h i }

pub same_node : (m n : NodeId) → m.0 ≡ n.0 → m ≡ n
same_node m n h = λ i. record { 0 = h i }

-- the step over the node into the cell
abbrev pub step_to : NodeId → CellId → Step
step_to n c = record { node = n; cell = c }

pub end_of_push : (e : CellId) (w : List Step) (s : Step) → end_of e (w ++ s ∷ []) ≡ s.cell
end_of_push e [] s = refl
end_of_push e (t ∷ w) s = end_of_push t.cell w s

pub leads_end : (p : InstanceParts) (e : CellId) (w : List Step) (f : CellId) → Leads p e w f → end_of e w ≡ f
leads_end p e [] f led = led
leads_end p e (s ∷ w) f led = leads_end p s.cell w f led.1

leads_push : (p : InstanceParts) (e : CellId) (w : List Step) (s : Step) → Leads p e w (end_of e w) → SharesNode p (end_of e w) s.node s.cell → Leads p e (w ++ s ∷ []) s.cell
leads_push p e [] s led shares = (shares, refl)
leads_push p e (t ∷ w) s led shares = (led.0, leads_push p t.cell w s led.1 shares)

leads_split : (p : InstanceParts) (e : CellId) (w : List Step) (s : Step) (rest : List Step) (f : CellId) → Leads p e (w ++ s ∷ rest) f → Leads p e w (end_of e w) × SharesNode p (end_of e w) s.node s.cell
leads_split p e [] s rest f led = (refl, led.0)
leads_split p e (t ∷ w) s rest f led = let below = leads_split p t.cell w s rest f led.1 in ((led.0, below.0), below.1)

pub same_place : {X : Type 0} (xs : List X) (k : ℕ) (d : X) → k < length xs → get_or xs k (get_or xs k d) ≡ get_or xs k d
same_place [] k d within = absurd (omega arith)
same_place (x ∷ xs) zero d within = refl
same_place (x ∷ xs) (suc k) d within = same_place xs k d (omega arith)

-- the tests of nodes and cells
pub no_such_node : (n : NodeId) (w : List Step) → has_node n w ≡ false → ¬ Contains (step_nodes w) n
unfolding has_node
no_such_node n w none there =
    let d : Step = step_to n (record { 0 = 0 }) in
    let within : there.0 < length w = omega (arith, there.1, length-map w (λ (s : Step). s.node)) in
    let at : (get_or w there.0 d).node ≡ n = sym (get_or-map (λ (s : Step). s.node) w there.0 d n within) ∙ there.2 in
    false≢true (sym none ∙ list_any-from_Any (λ (s : Step). nat_eq s.node.0 n.0) w (there.0, get_or w there.0 d, within, same_place w there.0 d within, eq-eqb _ _ (ap (λ (m : NodeId). m.0) at)))

pub no_node_so : (n : NodeId) (w : List Step) → ¬ Contains (step_nodes w) n → has_node n w ≡ false
unfolding has_node
no_node_so n w none = elim (cases_Bool (list_any (λ (s : Step). nat_eq s.node.0 n.0) w)) [
  | inl has ↦
      let found = Any-from_list_any (λ (s : Step). nat_eq s.node.0 n.0) w has in
      let same : found.1.node ≡ n = same_node _ _ (eqb-true _ _ found.4) in
      absurd (none (found.0, omega (arith, found.2, length-map w (λ (s : Step). s.node)), get_or-map (λ (s : Step). s.node) w found.0 found.1 n found.2 ∙ (ap (λ (s : Step). s.node) found.3 ∙ same)))
  | inr never ↦ never
]

no_such_cell : (c : CellId) (w : List Step) → has_cell c w ≡ false → ¬ Contains (step_cells w) c
unfolding has_cell
no_such_cell c w none there =
    let d : Step = step_to (record { 0 = 0 }) c in
    let within : there.0 < length w = omega (arith, there.1, length-map w (λ (s : Step). s.cell)) in
    let at : (get_or w there.0 d).cell ≡ c = sym (get_or-map (λ (s : Step). s.cell) w there.0 d c within) ∙ there.2 in
    false≢true (sym none ∙ list_any-from_Any (λ (s : Step). nat_eq s.cell.0 c.0) w (there.0, get_or w there.0 d, within, same_place w there.0 d within, eq-eqb _ _ (ap (λ (m : CellId). m.0) at)))

no_cell_so : (c : CellId) (w : List Step) → ¬ Contains (step_cells w) c → has_cell c w ≡ false
unfolding has_cell
no_cell_so c w none = elim (cases_Bool (list_any (λ (s : Step). nat_eq s.cell.0 c.0) w)) [
  | inl has ↦
      let found = Any-from_list_any (λ (s : Step). nat_eq s.cell.0 c.0) w has in
      let same : found.1.cell ≡ c = same_cell _ _ (eqb-true _ _ found.4) in
      absurd (none (found.0, omega (arith, found.2, length-map w (λ (s : Step). s.cell)), get_or-map (λ (s : Step). s.cell) w found.0 found.1 c found.2 ∙ (ap (λ (s : Step). s.cell) found.3 ∙ same)))
  | inr never ↦ never
]

or_false : (a b : Bool) → (a || b) ≡ false → (a ≡ false) × (b ≡ false)
or_false true b h = absurd (false≢true (sym h))
or_false false b h = (refl, h)

pub no_visit : (e c : CellId) (w : List Step) → visits e c w ≡ false → ¬ Contains (e ∷ step_cells w) c
unfolding visits
no_visit e c w none (zero, within, same) = false≢true (sym (or_false _ _ none).0 ∙ eq-eqb e.0 c.0 (ap (λ (d : CellId). d.0) same))
no_visit e c w none (suc k, within, same) = no_such_cell c w (or_false _ _ none).1 (k, omega arith, same)

pub no_visit_so : (e c : CellId) (w : List Step) → ¬ Contains (e ∷ step_cells w) c → visits e c w ≡ false
unfolding visits
no_visit_so e c w none = elim (cases_Bool (nat_eq e.0 c.0)) [
  | inl same ↦ absurd (none (0, omega arith, same_cell e c (eqb-true _ _ same)))
  | inr other ↦ rw other (no_cell_so c w (λ there. none (in_tail e (step_cells w) c there)))
]

-- a walk one step longer
pub walk_push : (p : InstanceParts) (e : CellId) (w : List Step) (n : NodeId) (c : CellId) → IsWalkFrom p e w → SharesNode p (end_of e w) n c → has_node n w ≡ false → visits e c w ≡ false → IsWalkFrom p e (w ++ step_to n c ∷ [])
walk_push p e w n c walk shares new_node new_cell = record {
  leads = subst (Leads p e (w ++ step_to n c ∷ [])) (sym (end_of_push e w (step_to n c))) (leads_push p e w (step_to n c) walk.leads shares);
  no_cell_twice = subst (λ cs. AllPairs ◌≢◌ (e ∷ cs)) (sym (map_push (λ (s : Step). s.cell) w (step_to n c)))
      (all_pairs_push ◌≢◌ (e ∷ step_cells w) c walk.no_cell_twice (λ k d h same. no_visit e c w new_cell (k, h, subst (λ d. get_or (e ∷ step_cells w) k d ≡ c) same (same_place (e ∷ step_cells w) k d h ∙ same))));
  no_node_twice = subst (AllPairs ◌≢◌) (sym (map_push (λ (s : Step). s.node) w (step_to n c)))
      (all_pairs_push ◌≢◌ (step_nodes w) n walk.no_node_twice (λ k d h same. no_such_node n w new_node (k, h, subst (λ d. get_or (step_nodes w) k d ≡ n) same (same_place (step_nodes w) k d h ∙ same))));
}

-- a walk up to one of its steps
pub record IsSplit (p : InstanceParts) (e : CellId) (w : List Step) (s : Step) : Type 0 where
  pub begin : IsWalkFrom p e w
  pub shares : SharesNode p (end_of e w) s.node s.cell
  pub new_node : has_node s.node w ≡ false
  pub new_cell : visits e s.cell w ≡ false

pub walk_split : (p : InstanceParts) (e : CellId) (w : List Step) (s : Step) (rest : List Step) → IsWalkFrom p e (w ++ s ∷ rest) → IsSplit p e w s
walk_split p e w s rest walk =
    let cells : AllPairs ◌≢◌ ((e ∷ step_cells w) ++ s.cell ∷ step_cells rest) = subst (λ cs. AllPairs ◌≢◌ (e ∷ cs)) (map-append (λ (s : Step). s.cell) w (s ∷ rest)) walk.no_cell_twice in
    let nodes : AllPairs ◌≢◌ (step_nodes w ++ s.node ∷ step_nodes rest) = subst (AllPairs ◌≢◌) (map-append (λ (s : Step). s.node) w (s ∷ rest)) walk.no_node_twice in
    let led = leads_split p e w s rest (end_of e (w ++ s ∷ rest)) walk.leads in
    record {
      begin = record {
        leads = led.0;
        no_cell_twice = AllPairs-begin ◌≢◌ (e ∷ step_cells w) (s.cell ∷ step_cells rest) cells;
        no_node_twice = AllPairs-begin ◌≢◌ (step_nodes w) (s.node ∷ step_nodes rest) nodes;
      };
      shares = led.1;
      new_node = no_node_so s.node w (not_before (step_nodes w) s.node (step_nodes rest) nodes);
      new_cell = no_visit_so e s.cell w (not_before (e ∷ step_cells w) s.cell (step_cells rest) cells);
    }

-- the steps of a walk whose nodes are split
pub record Parted (w : List Step) (before : List ℕ) (n : ℕ) (behind : List ℕ) : Type 0 where
  pub begin : List Step
  pub step : Step
  pub rest : List Step
  pub is : w ≡ begin ++ step ∷ rest
  pub begin_is : node_numbers begin ≡ before
  pub step_is : step.node.0 ≡ n
  pub rest_is : node_numbers rest ≡ behind

head_is : (x y : ℕ) (xs ys : List ℕ) → x ∷ xs ≡ y ∷ ys → x ≡ y
head_is x y xs ys h = ap (λ zs. get_or zs 0 0) h

abbrev rest_of : List ℕ → List ℕ
rest_of [] = []
rest_of (x ∷ xs) = xs

tail_is : (x y : ℕ) (xs ys : List ℕ) → x ∷ xs ≡ y ∷ ys → xs ≡ ys
tail_is x y xs ys h = ap rest_of h

pub parted : (w : List Step) (before : List ℕ) (n : ℕ) (behind : List ℕ) → node_numbers w ≡ before ++ n ∷ behind → Parted w before n behind
parted [] [] n behind h = absurd (let e : 0 ≡ length (n ∷ behind) = ap length h in omega arith)
parted [] (m ∷ ms) n behind h = absurd (let e : 0 ≡ length (m ∷ (ms ++ n ∷ behind)) = ap length h in omega arith)
parted (s ∷ w) [] n behind h = record { begin = []; step = s; rest = w; is = refl; begin_is = refl; step_is = head_is _ _ _ _ h; rest_is = tail_is _ _ _ _ h }
parted (s ∷ w) (m ∷ ms) n behind h =
    let below = parted w ms n behind (tail_is _ _ _ _ h) in
    record {
      begin = s ∷ below.begin;
      step = below.step;
      rest = below.rest;
      is = ap (λ (v : List Step). s ∷ v) below.is;
      begin_is = let one : s.node.0 ≡ m = head_is _ _ _ _ h in let more : node_numbers below.begin ≡ ms = below.begin_is in cc;
      step_is = below.step_is;
      rest_is = below.rest_is;
    }

-- the cells of a walk are cells, and its nodes nodes
pub shares_cell : (p : InstanceParts) (e : CellId) (n : NodeId) (f : CellId) → SharesNode p e n f → IsCell p f
shares_cell p e n f shares = slice_get_within p.cells f.0 shares.other shares.is_other

pub shares_node : (p : InstanceParts) (e : CellId) (n : NodeId) (f : CellId) → IsInstance p → SharesNode p e n f → n.0 < p.nodes
shares_node p e n f rules shares =
    let good = rules.cells.at_each f.0 shares.other shares.is_other in
    elim shares.at_other [
      | inl low ↦ subst (λ (m : NodeId). m.0 < p.nodes) low good.low
      | inr high ↦ subst (λ (m : NodeId). m.0 < p.nodes) high good.high
    ]

cells_led : (p : InstanceParts) (e : CellId) (w : List Step) (f c : CellId) → IsCell p e → Leads p e w f → Contains (e ∷ step_cells w) c → IsCell p c
cells_led p e w f c here led (zero, within, same) = subst (IsCell p) same here
cells_led p e [] f c here led (suc k, within, same) = absurd (omega arith)
cells_led p e (s ∷ w) f c here led (suc k, within, same) = cells_led p s.cell w f c (shares_cell p e s.node s.cell led.0) led.1 (k, omega arith, same)

pub end_is_cell : (p : InstanceParts) (e : CellId) (w : List Step) (f : CellId) → IsCell p e → Leads p e w f → IsCell p (end_of e w)
end_is_cell p e [] f here led = here
end_is_cell p e (s ∷ w) f here led = end_is_cell p s.cell w f (shares_cell p e s.node s.cell led.0) led.1

-- a walk has fewer steps than there are cells
pub walk_is_short : (p : InstanceParts) (e : CellId) (w : List Step) → IsCell p e → IsWalkFrom p e w → length w < length p.cells
walk_is_short p e w here walk =
    let all : List CellId = map cell_of (range_with_len 0 (length p.cells)) in
    let size : length all ≡ length p.cells = length-map-range_with_len cell_of 0 (length p.cells) in
    let fits : length (e ∷ step_cells w) ≤ length all = no_more_than (e ∷ step_cells w) all walk.no_cell_twice (λ c there.
    let cell : c.0 < length p.cells = cells_led p e w (end_of e w) c here walk.leads there in
    (c.0, omega arith, get_or-map-range_with_len cell_of 0 (length p.cells) c.0 c.0 c cell (let e : 0 + c.0 ≡ c.0 = omega arith in e))) in
    omega (arith, fits, size, length-map w (λ (s : Step). s.cell))
