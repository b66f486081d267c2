-- From neighbouring ends of one group to parts of one group
use Rattle.std.proofs.Common.{◌≡◌, ℕ, zero, suc, ◌+◌, ◌-◌, ◌<◌, ◌≤◌, List, length, get_or, refl, sym, subst, ap, ◌∙◌, inl, inr, arith, add-one}
use Rattle.std.specs.List.{AllAdjacentBelow}
use Rattle.std.specs.List.Sorted.{IsNonDecreasingBy}
use Rattle.std.proofs.lemmas.Bool.{cases_eq, cases_lt}
use Rattle.std.proofs.lemmas.List.{get_or_default}
use Rattle.std.proofs.lemmas.List.Elements.{Contains-get_or}
use Rattle.std.proofs.lemmas.List.Sorted.{all_adjacent_more}
use Rattle.node_groups.specs.declared.ends.End.{End}
use Rattle.node_groups.specs.Ends.{end_at}
use Rattle.node_groups.specs.Parts.{HasOneGroup, IsLowestWhereNot}

-- the part of the end at this place of the list
abbrev pub part_at : List End → ℕ → ℕ
part_at ends place = (get_or ends place (end_at 0 0 0)).part

-- the two ends stand at places of one group
abbrev pub SameGroup : List ℕ → End → End → Type 0
SameGroup groups e f = get_or groups e.place 0 ≡ get_or groups f.place 0

-- the loop over the ends: of the neighbours before a place, those of one part are of one group
pub record OneGroupBelow (ends : List End) (groups : List ℕ) (place : ℕ) : Type 0 where
  pub near : AllAdjacentBelow (λ e f. e.part ≡ f.part → SameGroup groups e f) ends place

module _ (ends : List End) (groups : List ℕ) (rising : IsNonDecreasingBy (λ e. e.part) ends) where
  pub one_group_first : OneGroupBelow ends groups 1
  one_group_first = record { near = λ k d below. absurd (omega arith) }

  pub one_group_more : (n : ℕ) → OneGroupBelow ends groups n → 0 < n → n < length ends → (part_at ends (n - 1) ≡ part_at ends n → SameGroup groups (get_or ends (n - 1) (end_at 0 0 0)) (get_or ends n (end_at 0 0 0))) → OneGroupBelow ends groups (n + 1)
  one_group_more n before above within here = record {
    near = all_adjacent_more ends (λ e f. e.part ≡ f.part → SameGroup groups e f) n above before.near
        (λ d. rw (get_or_default ends (n - 1) d (end_at 0 0 0) (omega arith), get_or_default ends n d (end_at 0 0 0) within) here);
  }

  -- ends of one part are of one group, where those before the place are
  same_far : (n : ℕ) → n ≤ length ends → OneGroupBelow ends groups n → (i j : ℕ) (d : End) → i ≤ j → j < n → (get_or ends i d).part ≡ (get_or ends j d).part → SameGroup groups (get_or ends i d) (get_or ends j d)
  same_far n within below i zero d le lt same = let e : i ≡ zero = omega arith in rw e refl
  same_far n within below i (suc j) d le lt same = elim (cases_eq i (suc j)) [
    | inl here ↦ rw here refl
    | inr other ↦
        let first : (get_or ends i d).part ≤ (get_or ends j d).part = rising i j d (omega arith) (omega arith) in
        let second : (get_or ends j d).part ≤ (get_or ends (suc j) d).part = rising j (suc j) d (omega arith) (omega arith) in
        let next : (get_or ends j d).part ≡ (get_or ends (suc j) d).part → SameGroup groups (get_or ends j d) (get_or ends (suc j) d) =
        subst (λ m. (get_or ends j d).part ≡ (get_or ends m d).part → SameGroup groups (get_or ends j d) (get_or ends m d)) (add-one j) (below.near j d (omega arith)) in
        same_far n within below i j d (omega arith) (omega arith) (omega arith) ∙ next (omega arith)
  ]

  -- a part whose ends all stand before the place has one group
  one_group : (n : ℕ) → n ≤ length ends → OneGroupBelow ends groups n → (part : ℕ) → ((k : ℕ) → k < length ends → part_at ends k ≡ part → k < n) → HasOneGroup ends groups part
  unfolding HasOneGroup
  one_group n within below part early e f (k, k_below, k_is) (m, m_below, m_is) e_part f_part =
      let e_is : get_or ends k e ≡ e = k_is in
      let f_is : get_or ends m e ≡ f = get_or_default ends m e f m_below ∙ m_is in
      let k_early : k < n = early k k_below (ap (λ x. x.part) (get_or_default ends k (end_at 0 0 0) e k_below ∙ k_is) ∙ e_part) in
      let m_early : m < n = early m m_below (ap (λ x. x.part) (get_or_default ends m (end_at 0 0 0) f m_below ∙ m_is) ∙ f_part) in
      elim (cases_lt m k) [
        | inr upto ↦ rw (e_is, f_is) at (same_far n within below k m e upto m_early (rw (e_is, f_is) (e_part ∙ sym f_part)))
        | inl above ↦ sym (rw (f_is, e_is) at (same_far n within below m k e (omega arith) k_early (rw (f_is, e_is) (f_part ∙ sym e_part))))
      ]

  pub one_group_all : (n : ℕ) → OneGroupBelow ends groups n → length ends ≤ n → (part : ℕ) → HasOneGroup ends groups part
  one_group_all n below past part =
      one_group (length ends) (omega arith) (record { near = λ k d lt. below.near k d (omega arith) }) part (λ k within is. within)

  pub one_group_fails : (n : ℕ) → OneGroupBelow ends groups n → 0 < n → n < length ends → part_at ends (n - 1) ≡ part_at ends n → ¬ SameGroup groups (get_or ends (n - 1) (end_at 0 0 0)) (get_or ends n (end_at 0 0 0)) → IsLowestWhereNot (HasOneGroup ends groups) (part_at ends n)
  unfolding HasOneGroup
  one_group_fails n below above within same differ = record {
    fails = λ has. differ (has (get_or ends (n - 1) (end_at 0 0 0)) (get_or ends n (end_at 0 0 0))
        (Contains-get_or ends (n - 1) (end_at 0 0 0) (omega arith)) (Contains-get_or ends n (end_at 0 0 0) within) same refl);
    before = λ part lower. one_group n (omega arith) below part (λ k k_below is. elim (cases_lt k n) [
      | inl early ↦ early
      | inr from ↦ absurd (let rise : part_at ends n ≤ part_at ends k = rising n k (end_at 0 0 0) from k_below in omega arith)
    ]);
  }
