-- Any list of cells that links two cells shortens to a walk.
use Rattle.std.proofs.Common.{◌≡◌, ◌≢◌, ◌<◌, ◌⊎◌, inl, inr, ℕ, zero, suc, Bool, true, false, List, [], ◌∷◌, refl, sym, ap, ◌∙◌, subst, arith}
use Rattle.std.specs.Prelude.{All, AllPairs, Any, Contains, ◌↔◌, Option, Some, None, slice_get, nat_eq}
use Rattle.std.specs.List.{list_any}
use Rattle.std.proofs.lemmas.Bool.{cases_Bool, eqb-true, eq-eqb, false≢true}
use Rattle.std.proofs.lemmas.List.{get_or_default}
use Rattle.std.proofs.lemmas.List.Elements.{All-cons, All-head, All-tail}
use Rattle.std.proofs.lemmas.List.Folds.{Any-from_list_any, list_any-from_Any}
use Rattle.std.proofs.lemmas.List.Kept.{AllPairs-cons}
use Rattle.std.proofs.lemmas.Option.{same_Some, none-some}
use Rattle.vss_rows.proofs.JoinedLaws.{AllPairs-tail, AllPairs-head}
use Rattle.node_groups.specs.Reach.{Reaches, LeadsTo}
use Rattle.cell_net.specs.Borders.{IsAtEnd, IsBorder, IsInSection, Meet}
use Rattle.cell_net.specs.declared.ids.CellId.{CellId}
use Rattle.cell_net.specs.declared.ids.NodeId.{NodeId}
use Rattle.cell_net.specs.declared.ids.SectionId.{SectionId}
use Rattle.cell_net.specs.declared.ids.CandidateId.{CandidateId}
use Rattle.cell_net.specs.declared.cells.CellSpec.{CellSpec}
use Rattle.cell_net.specs.declared.parts.InstanceParts.{InstanceParts}
use Rattle.gap_clauses.specs.Walks.{Step, step_nodes, step_cells, SharesNode, Leads, IsWalk}
use Rattle.gap_clauses.specs.Laws.{IsCut, CutSeparates}

-- a list has a cell or not, and a node alike
has_cell : (cells : List CellId) (c : CellId) → Contains cells c ⊎ (¬ Contains cells c)
has_cell cells c = elim (cases_Bool (list_any (λ (d : CellId). nat_eq d.0 c.0) cells)) [
  | inl has ↦ let found = Any-from_list_any (λ (d : CellId). nat_eq d.0 c.0) cells has in
      let same : found.1 ≡ c = λ i. record { 0 = eqb-true _ _ found.4 i } in
      inl (subst (Contains cells) same (found.0, found.2, found.3))
  | inr none ↦ inr (λ there. false≢true (sym none ∙ list_any-from_Any (λ (d : CellId). nat_eq d.0 c.0) cells (there.0, c, there.1, there.2, eq-eqb c.0 c.0 refl)))
]

has_node : (nodes : List NodeId) (n : NodeId) → Contains nodes n ⊎ (¬ Contains nodes n)
has_node nodes n = elim (cases_Bool (list_any (λ (m : NodeId). nat_eq m.0 n.0) nodes)) [
  | inl has ↦ let found = Any-from_list_any (λ (m : NodeId). nat_eq m.0 n.0) nodes has in
      let same : found.1 ≡ n = λ i. record { 0 = eqb-true _ _ found.4 i } in
      inl (subst (Contains nodes) same (found.0, found.2, found.3))
  | inr none ↦ inr (λ there. false≢true (sym none ∙ list_any-from_Any (λ (m : NodeId). nat_eq m.0 n.0) nodes (there.0, n, there.1, there.2, eq-eqb n.0 n.0 refl)))
]

-- a candidate is at a node or not, and so is a border
abbrev is_node : NodeId → Option NodeId → Bool
is_node n None = false
is_node n (Some m) = nat_eq m.0 n.0

node_says : (n : NodeId) (o : Option NodeId) → (is_node n o ≡ true) ↔ (o ≡ Some n)
node_says n None = (λ h. absurd (false≢true h), λ h. absurd (none-some n h))
node_says n (Some m) = (λ h. ap Some (let e : m ≡ n = λ i. record { 0 = eqb-true _ _ h i } in e), λ h. eq-eqb _ _ (ap (λ (k : NodeId). k.0) (same_Some m n h)))

is_border : (p : InstanceParts) (borders : List CandidateId) (n : NodeId) → IsBorder p borders n ⊎ (¬ IsBorder p borders n)
is_border p borders n = elim (cases_Bool (list_any (λ (b : CandidateId). is_node n (slice_get p.candidates b.0)) borders)) [
  | inl has ↦ let found = Any-from_list_any (λ (b : CandidateId). is_node n (slice_get p.candidates b.0)) borders has in
      inl (found.0, found.1, found.2, found.3, (node_says n (slice_get p.candidates found.1.0)).0 found.4)
  | inr none ↦ inr (λ there. false≢true (sym none ∙ list_any-from_Any (λ (b : CandidateId). is_node n (slice_get p.candidates b.0)) borders (there.0, there.1, there.2, there.3, (node_says n (slice_get p.candidates there.1.0)).1 there.4)))
]

-- a list whose first item doesn't come again, and whose rest has none twice
fresh_from : {X : Type 0} (x : X) (xs : List X) → AllPairs ◌≢◌ (x ∷ xs) → ¬ Contains xs x
fresh_from x xs pairs there = AllPairs-head ◌≢◌ x x xs pairs there refl

to_fresh : {X : Type 0} (x : X) (xs : List X) → ¬ Contains xs x → AllPairs ◌≢◌ xs → AllPairs ◌≢◌ (x ∷ xs)
to_fresh x xs fresh pairs = AllPairs-cons ◌≢◌ x xs (λ k d h same. fresh (k, h, get_or_default xs k x d h ∙ sym same)) pairs

-- what isn't in a list isn't in its rest, and isn't its first item
not_later : {X : Type 0} (x y : X) (xs : List X) → ¬ Contains (x ∷ xs) y → ¬ Contains xs y
not_later x y xs none there = none (suc there.0, omega (arith, there.1), there.2)

contains_cases : {X : Type 0} (x y : X) (xs : List X) → Contains (x ∷ xs) y → (x ≡ y) ⊎ Contains xs y
contains_cases x y xs (zero, within, same) = inl same
contains_cases x y xs (suc k, within, same) = inr (k, omega arith, same)

-- a walk step by step
walk_rest : (p : InstanceParts) (e : CellId) (s : Step) (steps : List Step) (f : CellId) → IsWalk p e (s ∷ steps) f → IsWalk p s.cell steps f
walk_rest p e s steps f walk = record {
  leads = walk.leads.1;
  no_cell_twice = AllPairs-tail ◌≢◌ e (s.cell ∷ step_cells steps) walk.no_cell_twice;
  no_node_twice = AllPairs-tail ◌≢◌ s.node (step_nodes steps) walk.no_node_twice;
}

walk_more : (p : InstanceParts) (e : CellId) (s : Step) (steps : List Step) (f : CellId) → SharesNode p e s.node s.cell → ¬ Contains (s.cell ∷ step_cells steps) e → ¬ Contains (step_nodes steps) s.node → IsWalk p s.cell steps f → IsWalk p e (s ∷ steps) f
walk_more p e s steps f shares new_cell new_node walk = record {
  leads = (shares, walk.leads);
  no_cell_twice = to_fresh e (s.cell ∷ step_cells steps) new_cell walk.no_cell_twice;
  no_node_twice = to_fresh s.node (step_nodes steps) new_node walk.no_node_twice;
}

-- two cells that share a node are of one section
pub same_section : (p : InstanceParts) (e : CellId) (n : NodeId) (f : CellId) (k : ℕ) → SharesNode p e n f → IsInSection p k e → IsInSection p k f
same_section p e n f k shares here = record {
  cell = shares.other;
  is = shares.is_other;
  of_section = let one : here.cell ≡ shares.one = same_Some _ _ (sym here.is ∙ shares.is_one) in
      ap (λ (s : SectionId). s.0) (sym shares.one_section) ∙ (ap (λ (c : CellSpec). c.section.0) (sym one) ∙ here.of_section);
}

-- cells of one section that both have the node at an end share it
share : (p : InstanceParts) (e c : CellId) (n : NodeId) (k : ℕ) → IsInSection p k e → IsInSection p k c → (one other : CellSpec) → slice_get p.cells e.0 ≡ Some one → slice_get p.cells c.0 ≡ Some other → IsAtEnd one n → IsAtEnd other n → SharesNode p e n c
share p e c n k in_e in_c one other is_one is_other at_one at_other = record {
  one = one;
  other = other;
  is_one = is_one;
  is_other = is_other;
  one_section = let x : one ≡ in_e.cell = same_Some _ _ (sym is_one ∙ in_e.is) in let y : other ≡ in_c.cell = same_Some _ _ (sym is_other ∙ in_c.is) in
      let n : one.section.0 ≡ other.section.0 = ap (λ (c : CellSpec). c.section.0) x ∙ (in_e.of_section ∙ (sym in_c.of_section ∙ ap (λ (c : CellSpec). c.section.0) (sym y))) in
      λ i. record { 0 = n i };
  at_one = at_one;
  at_other = at_other;
}

module _ (p : InstanceParts) (borders : List CandidateId) where
  -- steps over no border
  abbrev AreFree : List Step → Type 0
  AreFree steps = All (λ s. ¬ IsBorder p borders s.node) steps

  -- what is behind a cell of a walk
  record Rest (from e f : CellId) (old : List Step) : Type 0 where
    pub steps : List Step
    pub walk : IsWalk p e steps f
    pub free : AreFree steps

  rest_from_cell : (c e f : CellId) (steps : List Step) → IsWalk p c steps f → AreFree steps → Contains (c ∷ step_cells steps) e → Rest c e f steps
  rest_from_cell c e f [] walk free among = elim (contains_cases c e [] among) [
    | inl same ↦ subst (λ d. Rest c d f []) same (record { steps = []; walk = walk; free = free })
    | inr later ↦ absurd (let low : later.0 < 0 = later.1 in omega arith)
  ]
  rest_from_cell c e f (s ∷ steps) walk free among = elim (contains_cases c e (s.cell ∷ step_cells steps) among) [
    | inl same ↦ subst (λ d. Rest c d f (s ∷ steps)) same (record { steps = s ∷ steps; walk = walk; free = free })
    | inr later ↦
        let rest = rest_from_cell s.cell e f steps (walk_rest p c s steps f walk) (All-tail (λ t. ¬ IsBorder p borders t.node) s steps free) later in
        record { steps = rest.steps; walk = rest.walk; free = rest.free }
  ]

  -- what is behind a node of a walk: the cell there has the node at an end, and the node doesn't come again
  record RestBehind (from : CellId) (n : NodeId) (f : CellId) (old : List Step) : Type 0 where
    pub cell : CellId
    pub steps : List Step
    pub spec : CellSpec
    pub is : slice_get p.cells cell.0 ≡ Some spec
    pub has : IsAtEnd spec n
    pub fresh : ¬ Contains (step_nodes steps) n
    pub walk : IsWalk p cell steps f
    pub free : AreFree steps
    pub same : (k : ℕ) → IsInSection p k from → IsInSection p k cell
    pub no_new : (d : CellId) → ¬ Contains (from ∷ step_cells old) d → ¬ Contains (cell ∷ step_cells steps) d

  rest_behind : (c : CellId) (n : NodeId) (f : CellId) (steps : List Step) → IsWalk p c steps f → AreFree steps → Contains (step_nodes steps) n → RestBehind c n f steps
  rest_behind c n f [] walk free among = absurd (let low : among.0 < 0 = among.1 in omega arith)
  rest_behind c n f (s ∷ steps) walk free among =
      let rest_free = All-tail (λ t. ¬ IsBorder p borders t.node) s steps free in
      elim (contains_cases s.node n (step_nodes steps) among) [
        | inl same ↦ record {
          cell = s.cell;
          steps = steps;
          spec = walk.leads.0.other;
          is = walk.leads.0.is_other;
          has = subst (IsAtEnd walk.leads.0.other) same walk.leads.0.at_other;
          fresh = subst (λ m. ¬ Contains (step_nodes steps) m) same (fresh_from s.node (step_nodes steps) walk.no_node_twice);
          walk = walk_rest p c s steps f walk;
          free = rest_free;
          same = λ k here. same_section p c s.node s.cell k walk.leads.0 here;
          no_new = λ d none. not_later c d (s.cell ∷ step_cells steps) none;
        }
        | inr later ↦
            let rest = rest_behind s.cell n f steps (walk_rest p c s steps f walk) rest_free later in
            record {
              cell = rest.cell;
              steps = rest.steps;
              spec = rest.spec;
              is = rest.is;
              has = rest.has;
              fresh = rest.fresh;
              walk = rest.walk;
              free = rest.free;
              same = λ k here. rest.same k (same_section p c s.node s.cell k walk.leads.0 here);
              no_new = λ d none. rest.no_new d (not_later c d (s.cell ∷ step_cells steps) none);
            }
      ]

  -- a walk over no border
  record FreeWalk (e f : CellId) : Type 0 where
    pub steps : List Step
    pub walk : IsWalk p e steps f
    pub free : AreFree steps

  -- one cell before a walk: a walk from that cell
  before_walk : (e : CellId) (n : NodeId) (c f : CellId) → SharesNode p e n c → ¬ IsBorder p borders n → FreeWalk c f → FreeWalk e f
  before_walk e n c f shares open_node old = elim (has_cell (c ∷ step_cells old.steps) e) [
    | inl there ↦ let rest = rest_from_cell c e f old.steps old.walk old.free there in record { steps = rest.steps; walk = rest.walk; free = rest.free }
    | inr new ↦ elim (has_node (step_nodes old.steps) n) [
      | inl again ↦
          let rest = rest_behind c n f old.steps old.walk old.free again in
          let k : ℕ = shares.one.section.0 in
          let in_e : IsInSection p k e = record { cell = shares.one; is = shares.is_one; of_section = refl } in
          let in_rest : IsInSection p k rest.cell = rest.same k (same_section p e n c k shares in_e) in
          record {
            steps = record { node = n; cell = rest.cell } ∷ rest.steps;
            walk = walk_more p e (record { node = n; cell = rest.cell }) rest.steps f (share p e rest.cell n k in_e in_rest shares.one rest.spec shares.is_one rest.is shares.at_one rest.has) (rest.no_new e new) rest.fresh rest.walk;
            free = All-cons (λ t. ¬ IsBorder p borders t.node) (record { node = n; cell = rest.cell }) rest.steps open_node rest.free;
          }
      | inr fresh ↦ record {
        steps = record { node = n; cell = c } ∷ old.steps;
        walk = walk_more p e (record { node = n; cell = c }) old.steps f shares new fresh old.walk;
        free = All-cons (λ t. ¬ IsBorder p borders t.node) (record { node = n; cell = c }) old.steps open_node old.free;
      }
    ]
  ]

  shares_from_meet : (e f : CellId) (m : Meet p borders e f) → SharesNode p e m.node f
  shares_from_meet e f m = record { one = m.one; other = m.other; is_one = m.is_one; is_other = m.is_other; one_section = m.one_section; at_one = m.at_one; at_other = m.at_other }

  nowhere : (e f : CellId) → e ≡ f → FreeWalk e f
  nowhere e f same = record {
    steps = [];
    walk = record { leads = same; no_cell_twice = λ i j d low high. absurd (omega arith); no_node_twice = λ i j d low high. absurd (omega arith) };
    free = λ k d h. absurd (omega arith);
  }

  shortens : (e : CellId) (cells : List CellId) (f : CellId) → LeadsTo (Meet p borders) e cells f → FreeWalk e f
  shortens e [] f same = nowhere e f same
  shortens e (c ∷ cells) f (m, led) = before_walk e m.node c f (shares_from_meet e c m) m.free (shortens c cells f led)

  -- a walk over no border links
  links : (e : CellId) (steps : List Step) (f : CellId) → Leads p e steps f → AreFree steps → LeadsTo (Meet p borders) e (step_cells steps) f
  links e [] f same free = same
  links e (s ∷ steps) f (shares, led) free = (
    record { one = shares.one; other = shares.other; node = s.node; is_one = shares.is_one; is_other = shares.is_other; one_section = shares.one_section; at_one = shares.at_one; at_other = shares.at_other; free = All-head (λ t. ¬ IsBorder p borders t.node) s steps free },
    links s.cell steps f led (All-tail (λ t. ¬ IsBorder p borders t.node) s steps free),
  )

  -- steps have a border among their nodes or none
  free_or_cut : (steps : List Step) → Any (λ s. IsBorder p borders s.node) steps ⊎ AreFree steps
  free_or_cut [] = inr (λ k d h. absurd (omega arith))
  free_or_cut (s ∷ steps) = elim (is_border p borders s.node) [
    | inl here ↦ inl (0, s, omega arith, refl, here)
    | inr open_node ↦ elim (free_or_cut steps) [
      | inl later ↦ inl (suc later.0, later.1, omega (arith, later.2), later.3, later.4)
      | inr free ↦ inr (All-cons (λ t. ¬ IsBorder p borders t.node) s steps open_node free)
    ]
  ]

  free_not_cut : (steps : List Step) → AreFree steps → ¬ Any (λ s. IsBorder p borders s.node) steps
  free_not_cut steps free there = free there.0 there.1 there.2 (subst (λ s. IsBorder p borders s.node) (sym there.3) there.4)

  pub cut_separates : CutSeparates p borders
  unfolding IsCut Reaches
  cut_separates e f = (
    λ apart w walk. elim (free_or_cut w) [ inl cut ↦ cut | inr free ↦ absurd (apart (step_cells w, links e w f walk.leads free)) ],
    λ cut linked. let free = shortens e linked.0 f linked.1 in free_not_cut free.steps free.free (cut free.steps free.walk),
  )
