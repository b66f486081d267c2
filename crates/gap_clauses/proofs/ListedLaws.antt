-- The walks from a cell in their order: what each part of the search adds to them.
use Rattle.std.proofs.Common.{◌≡◌, ◌<◌, ◌≤◌, ◌+◌, ◌⊎◌, inl, inr, ℕ, zero, suc, List, [], ◌∷◌, ◌++◌, length, refl, sym, ap, ◌∙◌, subst, arith, append_assoc}
use Rattle.std.specs.Prelude.{Contains, All, ◌↔◌, Option, Some, None}
use Rattle.std.proofs.lemmas.Bool.{cases_lt}
use Rattle.std.proofs.lemmas.List.{map_push}
use Rattle.std.proofs.lemmas.List.Elements.{Contains-append_left, Contains-append_right, Contains-append_cases}
use Rattle.vss_rows.proofs.JoinedLaws.{AllPairs-append}
use Rattle.cell_net.specs.Rules.{IsInstance}
use Rattle.cell_net.specs.declared.ids.CellId.{CellId}
use Rattle.cell_net.specs.declared.ids.NodeId.{NodeId}
use Rattle.cell_net.specs.declared.parts.InstanceParts.{InstanceParts}
use Rattle.gap_clauses.specs.Walks.{Step, SharesNode, IsWalkFrom, IsLess, IsWalkBefore, end_of, node_numbers, cell_numbers}
use Rattle.gap_clauses.specs.Fans.{behind, AreListed, IsOverNodes, IsUpTo, GoesOnOver, IsDone, IsSkipped, GoesOverNext}
use Rattle.gap_clauses.proofs.ListLemmas.{nothing_in_nil}
use Rattle.gap_clauses.proofs.WalkLaws.{parted, same_node, step_to, walk_push, walk_split, shares_node}

-- the order of lists of numbers
less_more : (u ms xs : List ℕ) → IsLess u ms → IsLess u (ms ++ xs)
less_more [] [] xs less = absurd less
less_more [] (m ∷ ms) xs less = tt
less_more (x ∷ u) [] xs less = absurd less
less_more (x ∷ u) (m ∷ ms) xs less = elim less [ inl low ↦ inl low | inr both ↦ inr (both.0, less_more u ms xs both.1) ]

less_end : (ms : List ℕ) (n : ℕ) (xs : List ℕ) → IsLess ms (ms ++ n ∷ xs)
less_end [] n xs = tt
less_end (m ∷ ms) n xs = inr (refl, less_end ms n xs)

pub less_at : (ms : List ℕ) (m n : ℕ) (xs ys : List ℕ) → m < n → IsLess (ms ++ m ∷ xs) (ms ++ n ∷ ys)
less_at [] m n xs ys low = inl low
less_at (k ∷ ms) m n xs ys low = inr (refl, less_at ms m n xs ys low)

pub less_push : (xs ys : List ℕ) (a b : ℕ) → length xs ≡ length ys → IsLess xs ys → IsLess (xs ++ a ∷ []) (ys ++ b ∷ [])
less_push [] [] a b size less = absurd less
less_push [] (y ∷ ys) a b size less = absurd (omega arith)
less_push (x ∷ xs) [] a b size less = absurd less
less_push (x ∷ xs) (y ∷ ys) a b size less = elim less [ inl low ↦ inl low | inr both ↦ inr (both.0, less_push xs ys a b (omega arith) both.1) ]

-- what comes before a list with one number more
record IsFurther (ms : List ℕ) (n : ℕ) (u : List ℕ) : Type 0 where
  pub at : ℕ
  pub rest : List ℕ
  pub is : u ≡ ms ++ at ∷ rest
  pub low : at < n

none_below : (u : List ℕ) → ¬ IsLess u []
none_below [] less = less
none_below (x ∷ u) less = less

before_push : (ms : List ℕ) (n : ℕ) (u : List ℕ) → IsLess u (ms ++ n ∷ []) → IsLess u ms ⊎ ((u ≡ ms) ⊎ IsFurther ms n u)
before_push [] n [] less = inr (inl refl)
before_push [] n (x ∷ u) less = elim less [ inl low ↦ inr (inr (record { at = x; rest = u; is = refl; low = low })) | inr both ↦ absurd (none_below u both.1) ]
before_push (m ∷ ms) n [] less = inl tt
before_push (m ∷ ms) n (x ∷ u) less = elim less [
  | inl low ↦ inl (inl low)
  | inr both ↦ elim (before_push ms n u both.1) [
    | inl lower ↦ inl (inr (both.0, lower))
    | inr other ↦ elim other [
      | inl same ↦ inr (inl (let head : x ≡ m = both.0 in let tail : u ≡ ms = same in cc))
      | inr further ↦ inr (inr (record { at = further.at; rest = further.rest; is = (let head : x ≡ m = both.0 in let tail : u ≡ ms ++ further.at ∷ further.rest = further.is in cc); low = further.low }))
    ]
  ]
]

-- the numbers of a walk one step longer
pub nodes_push : (w : List Step) (n : NodeId) (c : CellId) → node_numbers (w ++ step_to n c ∷ []) ≡ node_numbers w ++ n.0 ∷ []
nodes_push w n c = map_push (λ (s : Step). s.node.0) w (step_to n c)

pub cells_push : (w : List Step) (n : NodeId) (c : CellId) → cell_numbers (w ++ step_to n c ∷ []) ≡ cell_numbers w ++ c.0 ∷ []
cells_push w n c = map_push (λ (s : Step). s.cell.0) w (step_to n c)

-- the same walks under another name
pub same_listed : (p : InstanceParts) (e : CellId) (P Q : List Step → Type 0) (walks : List (List Step)) → ((w : List Step) → IsWalkFrom p e w → P w ↔ Q w) → AreListed p e P walks → AreListed p e Q walks
same_listed p e P Q walks same old = record {
  each = λ w. (
    λ there. let both = (old.each w).0 there in (both.0, (same w both.0).0 both.1),
    λ both. (old.each w).1 (both.0, (same w both.0).1 both.1),
  );
  in_order = old.in_order;
}

-- further over the nodes up to none is no further
pub done_none : (p : InstanceParts) (e : CellId) (ms : List ℕ) (walks : List (List Step)) → AreListed p e (IsUpTo ms) walks → AreListed p e (IsDone ms 0) walks
unfolding IsDone GoesOnOver
done_none p e ms walks old = same_listed p e (IsUpTo ms) (IsDone ms 0) walks (λ w walk. (λ up. inl up, λ done. elim done [ inl up ↦ up | inr on ↦ absurd (let low : on.0 < 0 = on.3 in omega arith) ])) old

-- up to the nodes with one more: done below it, or over exactly these
done_less : (ms : List ℕ) (n : ℕ) (w : List Step) → IsDone ms n w → IsLess (node_numbers w) (ms ++ n ∷ [])
unfolding IsDone IsUpTo GoesOnOver
done_less ms n w done = elim done [
  | inl up ↦ elim up [
    | inl less ↦ less_more (node_numbers w) ms (n ∷ []) less
    | inr same ↦ subst (λ u. IsLess u (ms ++ n ∷ [])) (sym same) (less_end ms n [])
  ]
  | inr on ↦ subst (λ u. IsLess u (ms ++ n ∷ [])) (sym on.2) (less_at ms on.0 n on.1 [] on.3)
]

less_done : (ms : List ℕ) (n : ℕ) (w : List Step) → IsLess (node_numbers w) (ms ++ n ∷ []) → IsDone ms n w
unfolding IsDone IsUpTo GoesOnOver
less_done ms n w less = elim (before_push ms n (node_numbers w) less) [
  | inl lower ↦ inl (inl lower)
  | inr other ↦ elim other [
    | inl same ↦ inl (inr same)
    | inr further ↦ inr (further.at, further.rest, further.is, further.low)
  ]
]

pub listed_push : (p : InstanceParts) (e : CellId) (ms : List ℕ) (n : ℕ) (old more new : List (List Step)) → AreListed p e (IsDone ms n) old → AreListed p e (IsOverNodes (ms ++ n ∷ [])) more → new ≡ old ++ more → AreListed p e (IsUpTo (ms ++ n ∷ [])) new
unfolding IsUpTo IsOverNodes IsWalkBefore
listed_push p e ms n old more new before here is = subst (AreListed p e (IsUpTo (ms ++ n ∷ []))) (sym is) (record {
  each = λ w. (
    λ there. elim (Contains-append_cases old more w there) [
      | inl early ↦ let both = (before.each w).0 early in (both.0, inl (done_less ms n w both.1))
      | inr late ↦ let both = (here.each w).0 late in (both.0, inr both.1)
    ],
    λ both. elim both.1 [
      | inl less ↦ Contains-append_left old more w ((before.each w).1 (both.0, less_done ms n w less))
      | inr same ↦ Contains-append_right old more w ((here.each w).1 (both.0, same))
    ],
  );
  in_order = AllPairs-append IsWalkBefore old more before.in_order here.in_order (λ v w early late.
      let low = done_less ms n v ((before.each v).0 early).1 in
      let same : node_numbers w ≡ ms ++ n ∷ [] = ((here.each w).0 late).1 in
      inl (subst (IsLess (node_numbers v)) (sym same) low));
})

-- a node of a walk is one of the instance's
node_is_node : (p : InstanceParts) (e : CellId) (w : List Step) (before : List ℕ) (n : ℕ) (behind : List ℕ) → IsInstance p → IsWalkFrom p e w → node_numbers w ≡ before ++ n ∷ behind → n < p.nodes
node_is_node p e w before n behind rules walk is =
    let part = parted w before n behind is in
    let split = walk_split p e part.begin part.step part.rest (subst (IsWalkFrom p e) part.is walk) in
    let low = shares_node p (end_of e part.begin) part.step.node part.step.cell rules split.shares in
    omega (arith, low, part.step_is)

-- a walk over the nodes with one more and whatever follows
further : (p : InstanceParts) (e : CellId) (ms : List ℕ) (n : ℕ) (w : List Step) (rest : List ℕ) → IsInstance p → IsWalkFrom p e w → node_numbers w ≡ ms ++ n ∷ rest → IsDone (ms ++ n ∷ []) p.nodes w
unfolding IsDone IsUpTo GoesOnOver
further p e ms n w [] rules walk is = inl (inr is)
further p e ms n w (m ∷ rest) rules walk is =
    let same : node_numbers w ≡ (ms ++ n ∷ []) ++ m ∷ rest = is ∙ sym (append_assoc ms (n ∷ []) (m ∷ rest)) in
    inr (m, rest, same, node_is_node p e w (ms ++ n ∷ []) m rest rules walk same)

-- all over the nodes with one more and whatever follows
pub done_more : (p : InstanceParts) (e : CellId) (ms : List ℕ) (n : ℕ) (walks : List (List Step)) → IsInstance p → AreListed p e (IsDone (ms ++ n ∷ []) p.nodes) walks → AreListed p e (IsDone ms (n + 1)) walks
unfolding IsDone IsUpTo GoesOnOver
done_more p e ms n walks rules old = same_listed p e (IsDone (ms ++ n ∷ []) p.nodes) (IsDone ms (n + 1)) walks (λ w walk. (
  λ done. elim done [
    | inl up ↦ elim up [
      | inl less ↦ elim (less_done ms n w less) [ inl early ↦ inl early | inr on ↦ inr (on.0, on.1, on.2, omega (arith, on.3)) ]
      | inr same ↦ inr (n, [], same, omega arith)
    ]
    | inr on ↦ inr (n, on.0 ∷ on.1, on.2 ∙ append_assoc ms (n ∷ []) (on.0 ∷ on.1), omega arith)
  ],
  λ done. elim done [
    | inl up ↦ inl (inl (done_less ms n w (inl up)))
    | inr on ↦ elim (cases_lt on.0 n) [
      | inl low ↦ inl (inl (done_less ms n w (inr (on.0, on.1, on.2, low))))
      | inr high ↦ let same : on.0 ≡ n = omega (arith, on.3) in further p e ms n w on.1 rules walk (on.2 ∙ ap (λ k. ms ++ k ∷ on.1) same)
    ]
  ],
)) old

-- the beginning of a walk over the nodes and one more
pub record IsBegun (p : InstanceParts) (e : CellId) (ms : List ℕ) (n : ℕ) : Type 0 where
  pub begin : List Step
  pub walk : IsWalkFrom p e begin
  pub is : node_numbers begin ≡ ms
  pub node : NodeId
  pub cell : CellId
  pub node_is : node.0 ≡ n
  pub shares : SharesNode p (end_of e begin) node cell
  pub longer_walk : IsWalkFrom p e (begin ++ step_to node cell ∷ [])

pub begun : (p : InstanceParts) (e : CellId) (ms : List ℕ) (n : ℕ) (w : List Step) (rest : List ℕ) → IsWalkFrom p e w → node_numbers w ≡ ms ++ n ∷ rest → IsBegun p e ms n
begun p e ms n w rest walk is =
    let part = parted w ms n rest is in
    let split = walk_split p e part.begin part.step part.rest (subst (IsWalkFrom p e) part.is walk) in
    record {
      begin = part.begin;
      walk = split.begin;
      is = part.begin_is;
      node = part.step.node;
      cell = part.step.cell;
      node_is = part.step_is;
      shares = split.shares;
      longer_walk = walk_push p e part.begin part.step.node part.step.cell split.begin split.shares split.new_node split.new_cell;
    }

-- no walk goes over exactly the nodes with one more
pub done_alone : (p : InstanceParts) (e : CellId) (ms : List ℕ) (n : ℕ) (walks : List (List Step)) → AreListed p e (IsUpTo (ms ++ n ∷ [])) walks → AreListed p e (IsOverNodes (ms ++ n ∷ [])) [] → AreListed p e (IsDone ms (n + 1)) walks
unfolding IsDone IsUpTo GoesOnOver IsOverNodes
done_alone p e ms n walks old none = same_listed p e (IsUpTo (ms ++ n ∷ [])) (IsDone ms (n + 1)) walks (λ w walk. (
  λ up. elim up [
    | inl less ↦ elim (less_done ms n w less) [ inl early ↦ inl early | inr on ↦ inr (on.0, on.1, on.2, omega (arith, on.3)) ]
    | inr same ↦ inr (n, [], same, omega arith)
  ],
  λ done. elim done [
    | inl up ↦ inl (done_less ms n w (inl up))
    | inr on ↦ elim (cases_lt on.0 n) [
      | inl low ↦ inl (done_less ms n w (inr (on.0, on.1, on.2, low)))
      | inr high ↦
          let same : on.0 ≡ n = omega (arith, on.3) in
          let first = begun p e ms n w on.1 walk (on.2 ∙ ap (λ k. ms ++ k ∷ on.1) same) in
          let nodes : node_numbers (first.begin ++ step_to first.node first.cell ∷ []) ≡ ms ++ n ∷ [] = nodes_push first.begin first.node first.cell ∙ (ap (λ u. u ++ first.node.0 ∷ []) first.is ∙ ap (λ k. ms ++ k ∷ []) first.node_is) in
          nothing_in_nil (first.begin ++ step_to first.node first.cell ∷ []) ((none.each (first.begin ++ step_to first.node first.cell ∷ [])).1 (first.longer_walk, nodes))
    ]
  ],
)) old

-- over a node from this number on the walks of a group go on over no node below the next one
skipped : (p : InstanceParts) (e : CellId) (ms : List ℕ) (below : ℕ) (next : Option NodeId) (group : List (List Step)) (w : List Step) (m : ℕ) (rest : List ℕ) →
    AreListed p e (IsOverNodes ms) group → All (GoesOverNext p e below next) group → IsWalkFrom p e w → node_numbers w ≡ ms ++ m ∷ rest → IsSkipped below next (record { 0 = m })
unfolding IsOverNodes GoesOverNext
skipped p e ms below next group w m rest here all walk is =
    let first = begun p e ms m w rest walk is in
    let there = (here.each first.begin).1 (first.walk, first.is) in
    let goes = all there.0 first.begin there.1 in
    let at = subst (GoesOverNext p e below next) there.2 goes in
    subst (IsSkipped below next) (same_node first.node (record { 0 = m }) first.node_is) (at first.shares.one first.node first.shares.is_one first.shares.at_one)

pub done_next : (p : InstanceParts) (e : CellId) (ms : List ℕ) (below : ℕ) (next : NodeId) (group walks : List (List Step)) → AreListed p e (IsOverNodes ms) group → All (GoesOverNext p e below (Some next)) group → below ≤ next.0 →
    AreListed p e (IsDone ms below) walks → AreListed p e (IsDone ms next.0) walks
unfolding IsDone GoesOnOver
done_next p e ms below next group walks here all high old = same_listed p e (IsDone ms below) (IsDone ms next.0) walks (λ w walk. (
  λ done. elim done [ inl up ↦ inl up | inr on ↦ inr (on.0, on.1, on.2, omega (arith, on.3)) ],
  λ done. elim done [
    | inl up ↦ inl up
    | inr on ↦ elim (skipped p e ms below (Some next) group w on.0 on.1 here all walk on.2) [
      | inl low ↦ inr (on.0, on.1, on.2, low)
      | inr past ↦ absurd (let low : on.0 < next.0 = on.3 in let above : next.0 ≤ on.0 = past in omega arith)
    ]
  ],
)) old

pub done_last : (p : InstanceParts) (e : CellId) (ms : List ℕ) (below : ℕ) (group walks : List (List Step)) → IsInstance p → AreListed p e (IsOverNodes ms) group → All (GoesOverNext p e below None) group →
    AreListed p e (IsDone ms below) walks → AreListed p e (IsDone ms p.nodes) walks
unfolding IsDone GoesOnOver
done_last p e ms below group walks rules here all old = same_listed p e (IsDone ms below) (IsDone ms p.nodes) walks (λ w walk. (
  λ done. elim done [ inl up ↦ inl up | inr on ↦ inr (on.0, on.1, on.2, node_is_node p e w ms on.0 on.1 rules walk on.2) ],
  λ done. elim done [
    | inl up ↦ inl up
    | inr on ↦ inr (on.0, on.1, on.2, skipped p e ms below None group w on.0 on.1 here all walk on.2)
  ],
)) old

-- the walk without a step, and the end of the search
no_steps : (w : List Step) → node_numbers w ≡ [] → w ≡ []
no_steps [] h = refl
no_steps (s ∷ w) h = absurd (let e : length (node_numbers (s ∷ w)) ≡ 0 = ap length h in omega arith)

none_less : (w : List Step) → ¬ IsLess (node_numbers w) []
none_less [] less = less
none_less (s ∷ w) less = less

empty_walk : (p : InstanceParts) (e : CellId) → IsWalkFrom p e []
empty_walk p e = record { leads = refl; no_cell_twice = λ i j d low high. absurd (omega arith); no_node_twice = λ i j d low high. absurd (omega arith) }

first_walk_only : (p : InstanceParts) (e : CellId) (w : List Step) → Contains ([] ∷ []) w → IsWalkFrom p e w × (node_numbers w ≡ [])
first_walk_only p e w (zero, within, same) = (subst (IsWalkFrom p e) same (empty_walk p e), ap node_numbers (sym same))
first_walk_only p e w (suc k, within, same) = absurd (omega arith)

first_only : (p : InstanceParts) (e : CellId) (w : List Step) → Contains ([] ∷ []) w → IsWalkFrom p e w × (IsLess (node_numbers w) [] ⊎ (node_numbers w ≡ []))
first_only p e w there = let both = first_walk_only p e w there in (both.0, inr both.1)

every : (p : InstanceParts) (e : CellId) → IsInstance p → (w : List Step) → IsWalkFrom p e w → IsDone [] p.nodes w
unfolding IsDone IsUpTo GoesOnOver
every p e rules [] walk = inl (inr refl)
every p e rules (s ∷ w) walk = inr (s.node.0, node_numbers w, refl, node_is_node p e (s ∷ w) [] s.node.0 (node_numbers w) rules walk refl)

pub first_listed : (p : InstanceParts) (e : CellId) → AreListed p e (IsUpTo []) ([] ∷ [])
unfolding IsUpTo
first_listed p e = record {
  each = λ w. (first_only p e w, λ both. elim both.1 [ inl less ↦ absurd (none_less w less) | inr same ↦ (0, omega arith, sym (no_steps w same)) ]);
  in_order = λ i j d low high. absurd (omega arith);
}

pub first_group : (p : InstanceParts) (e : CellId) → AreListed p e (IsOverNodes []) ([] ∷ [])
unfolding IsOverNodes
first_group p e = record {
  each = λ w. (λ there. let both = first_walk_only p e w there in both, λ both. (0, omega arith, sym (no_steps w both.1)));
  in_order = λ i j d low high. absurd (omega arith);
}

pub all_listed : (p : InstanceParts) (e : CellId) (walks : List (List Step)) → IsInstance p → AreListed p e (IsDone [] p.nodes) walks → AreListed p e (λ w. Unit {0}) walks
unfolding IsDone IsUpTo GoesOnOver
all_listed p e walks rules old = same_listed p e (IsDone [] p.nodes) (λ w. Unit {0}) walks (λ w walk. (λ done. tt, λ any. every p e rules w walk)) old
