-- One walk more in a tree of walks.
use Rattle.std.proofs.Common.{◌≡◌, ◌≢◌, ◌<◌, ◌≤◌, ◌+◌, ◌-◌, inl, inr, ℕ, zero, suc, Bool, true, false, List, [], ◌∷◌, ◌++◌, length, get_or, refl, sym, ap, ◌∙◌, subst, arith}
use Rattle.std.specs.Prelude.{◌||◌, nat_eq}
use Rattle.std.specs.List.{list_any}
use Rattle.std.proofs.lemmas.Bool.{cases_lt, eq-eqb, ne_eqb}
use Rattle.std.proofs.lemmas.List.Folds.{list_any-append}
use Rattle.cell_net.specs.declared.ids.NodeId.{NodeId}
use Rattle.std.proofs.lemmas.List.{length_push, get_or_push, get_or_append_left}
use Rattle.gap_clauses.specs.declared.tree.Branch.{Branch}
use Rattle.gap_clauses.specs.Walks.{Step}
use Rattle.gap_clauses.specs.Fans.{has_node, walk_at}
use Rattle.gap_clauses.specs.Trees.{AreBranches, grown_from, lengthened, step_of, walks_of_tree}

grown_push : (walks : List (List Step)) (branches : List Branch) (b : Branch) → grown_from walks (branches ++ b ∷ []) ≡ grown_from walks branches ++ lengthened (grown_from walks branches) b ∷ []
grown_push walks [] b = refl
grown_push walks (c ∷ branches) b = grown_push (walks ++ lengthened walks c ∷ []) branches b

grown_length : (walks : List (List Step)) (branches : List Branch) → length (grown_from walks branches) ≡ length walks + length branches
grown_length walks [] = omega arith
grown_length walks (c ∷ branches) = omega (arith, grown_length (walks ++ lengthened walks c ∷ []) branches, length_push walks (lengthened walks c))

pub walks_push : (branches : List Branch) (b : Branch) → walks_of_tree (branches ++ b ∷ []) ≡ walks_of_tree branches ++ lengthened (walks_of_tree branches) b ∷ []
unfolding walks_of_tree
walks_push branches b = grown_push ([] ∷ []) branches b

pub walks_length : (branches : List Branch) → length (walks_of_tree branches) ≡ length branches + 1
unfolding walks_of_tree
walks_length branches = omega (arith, grown_length ([] ∷ []) branches)

pub first_walk : walks_of_tree [] ≡ [] ∷ []
unfolding walks_of_tree
first_walk = refl

pub branches_push : (branches new : List Branch) (b : Branch) → AreBranches branches → b.before < length branches + 1 → new ≡ branches ++ b ∷ [] → AreBranches new
branches_push branches new b old low is = subst AreBranches (sym is) (record {
  before = λ k d h. elim (cases_lt k (length branches)) [
    | inl inside ↦ let e : get_or (branches ++ b ∷ []) k d ≡ get_or branches k d = get_or_append_left branches (b ∷ []) d k inside in
        rw e (old.before k d inside)
    | inr past ↦ let n : length branches ≡ k = omega (arith, length_push branches b) in
        let e : get_or (branches ++ b ∷ []) k d ≡ b = get_or_push branches b d k n in
        rw e (let low' : b.before ≤ k = omega arith in low')
  ];
})

or_true : (b : Bool) → (b || (true || false)) ≡ true
or_true true = refl
or_true false = refl

or_no : (b : Bool) → (b || (false || false)) ≡ b
or_no true = refl
or_no false = refl

-- walks stay where they stand
kept_at : (walks : List (List Step)) (branches : List Branch) (k : ℕ) → k < length walks → get_or (grown_from walks branches) k [] ≡ get_or walks k []
kept_at walks [] k h = refl
kept_at walks (b ∷ branches) k h = kept_at (walks ++ lengthened walks b ∷ []) branches k (omega (arith, length_push walks (lengthened walks b))) ∙ get_or_append_left walks (lengthened walks b ∷ []) [] k h

grown_at : (walks : List (List Step)) (branches : List Branch) (k : ℕ) (b : Branch) → k < length branches → get_or branches k b ≡ b → b.before < length walks + k → get_or (grown_from walks branches) (length walks + k) [] ≡ get_or (grown_from walks branches) b.before [] ++ step_of b ∷ []
grown_at walks [] k b within same low = absurd (omega arith)
grown_at walks (c ∷ branches) zero b within same low =
    let more : length (walks ++ lengthened walks c ∷ []) ≡ length walks + 1 = length_push walks (lengthened walks c) in
    let here : get_or (grown_from (walks ++ lengthened walks c ∷ []) branches) (length walks + 0) [] ≡ lengthened walks c =
    kept_at (walks ++ lengthened walks c ∷ []) branches (length walks + 0) (omega arith) ∙ get_or_push walks (lengthened walks c) [] (length walks + 0) (omega arith) in
    let before : get_or (grown_from walks (c ∷ branches)) b.before [] ≡ get_or walks b.before [] = kept_at walks (c ∷ branches) b.before (omega arith) in
    here ∙ (ap (lengthened walks) same ∙ ap (λ w. w ++ step_of b ∷ []) (sym before))
grown_at walks (c ∷ branches) (suc k) b within same low =
    let more : length (walks ++ lengthened walks c ∷ []) ≡ length walks + 1 = length_push walks (lengthened walks c) in
    let at : length walks + suc k ≡ length (walks ++ lengthened walks c ∷ []) + k = omega arith in
    ap (λ m. get_or (grown_from (walks ++ lengthened walks c ∷ []) branches) m []) at ∙ grown_at (walks ++ lengthened walks c ∷ []) branches k b (omega arith) same (omega arith)

-- the first walk has no step
pub walk_first : (branches : List Branch) → walk_at (walks_of_tree branches) 0 ≡ []
unfolding walks_of_tree
walk_first branches = kept_at ([] ∷ []) branches 0 (omega arith)

-- each other is one step longer than the walk of its branch
pub walk_step : (branches : List Branch) (walks : List (List Step)) (at : ℕ) (b : Branch) → AreBranches branches → walks_of_tree branches ≡ walks → 0 < at → at < length walks → get_or branches (at - 1) b ≡ b → walk_at walks at ≡ walk_at walks b.before ++ step_of b ∷ []
unfolding walks_of_tree
walk_step branches walks at b are is some within same =
    let size : length (walks_of_tree branches) ≡ length branches + 1 = walks_length branches in
    let total : length (walks_of_tree branches) ≡ length walks = ap length is in
    let low : b.before ≤ at - 1 = subst (λ (c : Branch). c.before ≤ at - 1) same (are.before (at - 1) b (omega arith)) in
    let place : at ≡ 1 + (at - 1) = omega arith in
    subst (λ ws. walk_at ws at ≡ walk_at ws b.before ++ step_of b ∷ []) is
    (ap (λ m. get_or (grown_from ([] ∷ []) branches) m []) place ∙ grown_at ([] ∷ []) branches (at - 1) b (omega arith) same (omega arith))

pub before_lower : (branches : List Branch) (walks : List (List Step)) (at : ℕ) (b : Branch) → AreBranches branches → walks_of_tree branches ≡ walks → 0 < at → at < length walks → get_or branches (at - 1) b ≡ b → b.before < at
before_lower branches walks at b are is some within same =
    let size : length (walks_of_tree branches) ≡ length branches + 1 = walks_length branches in
    let total : length (walks_of_tree branches) ≡ length walks = ap length is in
    let low : b.before ≤ at - 1 = subst (λ (c : Branch). c.before ≤ at - 1) same (are.before (at - 1) b (omega arith)) in
    omega arith

pub branch_within : (branches : List Branch) (walks : List (List Step)) (at : ℕ) → walks_of_tree branches ≡ walks → 0 < at → at < length walks → at - 1 < length branches
branch_within branches walks at is some within = omega (arith, walks_length branches, ap length is)

-- the tests of a walk one step longer
pub node_here : (n : NodeId) (w v : List Step) (s : Step) → v ≡ w ++ s ∷ [] → s.node.0 ≡ n.0 → has_node n v ≡ true
unfolding has_node
node_here n w v s is same =
    let e : nat_eq s.node.0 n.0 ≡ true = eq-eqb _ _ same in
    ap (list_any (λ (t : Step). nat_eq t.node.0 n.0)) is ∙ (list_any-append (λ (t : Step). nat_eq t.node.0 n.0) w (s ∷ []) ∙ rw e (or_true (list_any (λ (t : Step). nat_eq t.node.0 n.0) w)))

pub node_elsewhere : (n : NodeId) (w v : List Step) (s : Step) → v ≡ w ++ s ∷ [] → s.node.0 ≢ n.0 → has_node n v ≡ has_node n w
unfolding has_node
node_elsewhere n w v s is other =
    let e : nat_eq s.node.0 n.0 ≡ false = ne_eqb _ _ other in
    ap (list_any (λ (t : Step). nat_eq t.node.0 n.0)) is ∙ (list_any-append (λ (t : Step). nat_eq t.node.0 n.0) w (s ∷ []) ∙ rw e (or_no (list_any (λ (t : Step). nat_eq t.node.0 n.0) w)))

pub no_node_first : (n : NodeId) (w : List Step) → w ≡ [] → has_node n w ≡ false
unfolding has_node
no_node_first n w is = ap (list_any (λ (t : Step). nat_eq t.node.0 n.0)) is

pub ruleset tree_laws = (walks_push, walks_length, first_walk)
