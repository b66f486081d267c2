-- What follows each directed cell, gathered from the joins one by one.
use Rattle.std.proofs.Common.{◌≡◌, ◌≢◌, ◌<◌, ◌≤◌, ◌-◌, ◌*◌, inl, inr, ℕ, true, false, List, [], ◌∷◌, ◌++◌, length, take, get_or, ap, sym, ◌∙◌, refl, subst, arith}
use Rattle.std.specs.Prelude.{All, Any, Contains, ◌⊎◌, Some, slice_set}
use Rattle.std.specs.List.Sorted.{IsNonDecreasingBy, IsPermutation}
use Rattle.std.proofs.lemmas.List.Sorted.{Contains-permutation, IsPermutation-sym}
use Rattle.std.proofs.lemmas.Bool.{cases_Bool, cases_eq, false≢true}
use Rattle.std.proofs.lemmas.List.{length-set, length-take-le, get_or-set_same, get_or-set_other, get_or-take, get_or_default}
use Rattle.std.proofs.lemmas.List.Elements.{Contains-push, Contains-push_cases, Contains-append_left, Contains-get_or}
use Rattle.std.proofs.lemmas.List.Quantifiers.{Any-push, all_pairs_push}
use Rattle.std.proofs.lemmas.Option.{slice_get-get_or, slice_get_within}
use Rattle.cell_net.specs.Rules.{IsInstance, IsNodeOf}
use Rattle.cell_net.specs.Space.{Follows, Pairs, head_of, opposite, tail_of}
use Rattle.cell_net.specs.declared.cells.CellEnd.{CellEnd}
use Rattle.cell_net.specs.declared.cells.DirCell.{DirCell}
use Rattle.cell_net.specs.declared.cells.End.{End}
use Rattle.cell_net.specs.declared.cells.End.TheVariants.{Low, High}
use Rattle.cell_net.specs.declared.cells.JoinSpec.{JoinSpec}
use Rattle.cell_net.specs.declared.ids.NodeId.{NodeId}
use Rattle.cell_net.specs.declared.parts.InstanceParts.{InstanceParts}
use Rattle.sweep_table.specs.Growing.{AreAfter, lowward}
use Rattle.sweep_table.specs.Order.{directed_number}
use Rattle.sweep_table.specs.Parts.{ends_with}
use Rattle.sweep_table.specs.Successions.{AreSuccessorLists, AreSuccessionsOf, AreSuccessors, coming_from, heading_to, succession}
use Rattle.sweep_table.specs.declared.successors.Succession.{Succession}
use Rattle.sweep_table.proofs.DirectedLaws.{ends_says, has_end, same_directed}
use Rattle.sweep_table.proofs.GrowLemmas.{number_low}

-- what a read past the end gives
abbrev pub no_succession : Succession
no_succession = succession (lowward 0) (lowward 0)

opposite_twice : (e : End) → opposite (opposite e) ≡ e
opposite_twice Low = refl
opposite_twice High = refl

-- what heads to the one end, and what comes from the other
abbrev pub over : CellEnd → CellEnd → Succession
over one other = record { before = heading_to one; after = coming_from other }

comes_from : (e : CellEnd) → tail_of (coming_from e) ≡ e
comes_from e = λ i. record { cell = e.cell; end = opposite_twice e.end i }

comes_back : (d : DirCell) → coming_from (tail_of d) ≡ d
comes_back d = λ i. record { cell = d.cell; end = opposite_twice d.end i }

from_over : (one other : CellEnd) (d e : DirCell) → over one other ≡ succession d e → (one ≡ head_of d) × (other ≡ tail_of e)
from_over one other d e same = (ap (λ (s : Succession). head_of s.before) same, sym (comes_from other) ∙ ap (λ (s : Succession). tail_of s.after) same)

to_over : (one other : CellEnd) (d e : DirCell) → one ≡ head_of d → other ≡ tail_of e → over one other ≡ succession d e
to_over one other d e head tail =
    let back : coming_from other ≡ e = ap coming_from tail ∙ comes_back e in
    λ i. record { before = heading_to (head i); after = back i }

-- a rule that some item keeps, in a list with one item more
any_before : {X : Type 0} (P : X → Type 0) (xs : List X) (y : X) → Any P xs → Any P (xs ++ y ∷ [])
any_before P xs y (k, x, within, is, kept) = let there = Contains-append_left xs (y ∷ []) x (k, within, is) in (there.0, x, there.1, there.2, kept)

any_cases : {X : Type 0} (P : X → Type 0) (xs : List X) (y : X) → Any P (xs ++ y ∷ []) → Any P xs ⊎ P y
any_cases {X} P xs y (k, x, within, is, kept) =
    elim (Contains-push_cases xs y x (k, within, is)) [ inl there ↦ inl (there.0, x, there.1, there.2, kept) | inr same ↦ inr (subst P (sym same) kept) ]

-- both ways over one join more
pub both_more : (joins : List JoinSpec) (j : JoinSpec) (found : List Succession) → AreSuccessionsOf joins found →
    AreSuccessionsOf (joins ++ j ∷ []) ((found ++ over j.one j.other ∷ []) ++ over j.other j.one ∷ [])
both_more joins j found old d e =
    let P : JoinSpec → Type 0 = Pairs (head_of d) (tail_of e) in
    let s : Succession = succession d e in
    let a : Succession = over j.one j.other in
    let b : Succession = over j.other j.one in (
      λ there. elim (Contains-push_cases (found ++ a ∷ []) b s there) [
        | inr last ↦ let ends = from_over j.other j.one d e last in Any-push P joins j (inr (ends.1, ends.0))
        | inl earlier ↦ elim (Contains-push_cases found a s earlier) [
          | inr first ↦ Any-push P joins j (inl (from_over j.one j.other d e first))
          | inl was ↦ any_before P joins j ((old d e).0 was)
        ]
      ],
      λ paired. elim (any_cases P joins j paired) [
        | inl was ↦ Contains-append_left (found ++ a ∷ []) (b ∷ []) s (Contains-append_left found (a ∷ []) s ((old d e).1 was))
        | inr this ↦ elim this [
          | inl same ↦ Contains-append_left (found ++ a ∷ []) (b ∷ []) s (subst (Contains (found ++ a ∷ [])) (to_over j.one j.other d e same.0 same.1) (Contains-push found a))
          | inr turned ↦ subst (Contains ((found ++ a ∷ []) ++ b ∷ [])) (to_over j.other j.one d e turned.1 turned.0) (Contains-push (found ++ a ∷ []) b)
        ]
      ],
    )

-- the order of successions doesn't matter
pub successions_permuted : (joins : List JoinSpec) (found moved : List Succession) → IsPermutation found moved → AreSuccessionsOf joins found → AreSuccessionsOf joins moved
successions_permuted joins found moved same are d e = (
  λ there. (are d e).0 (Contains-permutation moved found _ (IsPermutation-sym found moved same) there),
  λ paired. Contains-permutation found moved _ same ((are d e).1 paired),
)

pub none_gathered : (count : ℕ) (lists : List (List DirCell)) → length lists ≡ count → All (λ (g : List DirCell). g ≡ []) lists → AreSuccessorLists [] count lists
none_gathered count lists size none = record {
  for_each = size;
  each = λ d low. subst (AreSuccessors [] d) (sym (none (directed_number d) [] (omega arith))) (record {
    which = λ e. (λ there. absurd (let no : there.0 < 0 = there.1 in omega arith), λ there. absurd (let no : there.0 < 0 = there.1 in omega arith));
    rising = λ i j x lower high. absurd (omega arith);
  });
}

-- what follows in the successions so far is no higher, and is lower where the list doesn't end with it
lower : (found : List Succession) (s : Succession) (list : List DirCell) → AreSuccessors found s.before list →
    ((e : DirCell) → Contains found (succession s.before e) → directed_number e ≤ directed_number s.after) → ends_with s.after list ≡ false →
    (k : ℕ) (x : DirCell) → k < length list → directed_number (get_or list k x) < directed_number s.after
lower found s list are no_higher not_last k x within =
    let e : DirCell = get_or list k x in
    let last : DirCell = get_or list (length list - 1) x in
    let here = no_higher e ((are.which e).0 (Contains-get_or list k x within)) in
    elim (cases_eq (directed_number e) (directed_number s.after)) [
      | inr other ↦ omega arith
      | inl same ↦ elim (cases_eq k (length list - 1)) [
        | inl at_last ↦
            let is : get_or list (length list - 1) x ≡ s.after = ap (λ n. get_or list n x) (sym at_last) ∙ same_directed e s.after same in
            absurd (false≢true (sym not_last ∙ (ends_says s.after list).1 (slice_get-get_or list (length list - 1) x (omega arith) ∙ ap Some is)))
        | inr before ↦
            let rises : directed_number e < directed_number last = are.rising k (length list - 1) x (omega arith) (omega arith) in
            let high = no_higher last ((are.which last).0 (Contains-get_or list (length list - 1) x (omega arith))) in
            absurd (omega arith)
      ]
    ]

-- with one succession more: of another directed cell, of this one that was told already, and of this one that is new
of_another : (found : List Succession) (s : Succession) (d : DirCell) (list : List DirCell) → AreSuccessors found d list → directed_number d ≢ directed_number s.before → AreSuccessors (found ++ s ∷ []) d list
of_another found s d list are differ = record {
  which = λ e. (
    λ there. Contains-append_left found (s ∷ []) (succession d e) ((are.which e).0 there),
    λ there. elim (Contains-push_cases found s (succession d e) there) [
      | inl was ↦ (are.which e).1 was
      | inr same ↦ absurd (differ (ap (λ (t : Succession). directed_number t.before) (sym same)))
    ],
  );
  rising = are.rising;
}

told_already : (found : List Succession) (s : Succession) (list : List DirCell) → AreSuccessors found s.before list → ends_with s.after list ≡ true → AreSuccessors (found ++ s ∷ []) s.before list
told_already found s list are last = record {
  which = λ e. (
    λ there. Contains-append_left found (s ∷ []) (succession s.before e) ((are.which e).0 there),
    λ there. elim (Contains-push_cases found s (succession s.before e) there) [
      | inl was ↦ (are.which e).1 was
      | inr same ↦ subst (Contains list) (ap (λ (t : Succession). t.after) same) (has_end s.after list last)
    ],
  );
  rising = are.rising;
}

is_new : (found : List Succession) (s : Succession) (list : List DirCell) → AreSuccessors found s.before list →
    ((e : DirCell) → Contains found (succession s.before e) → directed_number e ≤ directed_number s.after) → ends_with s.after list ≡ false →
    AreSuccessors (found ++ s ∷ []) s.before (list ++ s.after ∷ [])
is_new found s list are no_higher not_last = record {
  which = λ e. (
    λ there. elim (Contains-push_cases list s.after e there) [
      | inl was ↦ Contains-append_left found (s ∷ []) (succession s.before e) ((are.which e).0 was)
      | inr same ↦ subst (λ (x : DirCell). Contains (found ++ s ∷ []) (succession s.before x)) same (Contains-push found s)
    ],
    λ there. elim (Contains-push_cases found s (succession s.before e) there) [
      | inl was ↦ Contains-append_left list (s.after ∷ []) e ((are.which e).1 was)
      | inr same ↦ subst (Contains (list ++ s.after ∷ [])) (ap (λ (t : Succession). t.after) same) (Contains-push list s.after)
    ],
  );
  rising = all_pairs_push (λ e f. directed_number e < directed_number f) list s.after are.rising (lower found s list are no_higher not_last);
}

-- a number names a directed cell, so what holds of the one holds of the other
at_same : (found : List Succession) (d e : DirCell) (list : List DirCell) → directed_number d ≡ directed_number e → AreSuccessors found e list → AreSuccessors found d list
at_same found d e list same are = subst (λ (x : DirCell). AreSuccessors found x list) (sym (same_directed d e same)) are

pub gathered_one_more : (found : List Succession) (s : Succession) (count : ℕ) (lists new : List (List DirCell)) → AreSuccessorLists found count lists → directed_number s.before < count →
    ((e : DirCell) → Contains found (succession s.before e) → directed_number e ≤ directed_number s.after) →
    (ends_with s.after (get_or lists (directed_number s.before) []) ≡ true → new ≡ lists) →
    (ends_with s.after (get_or lists (directed_number s.before) []) ≡ false → new ≡ slice_set lists (directed_number s.before) (get_or lists (directed_number s.before) [] ++ s.after ∷ [])) →
    AreSuccessorLists (found ++ s ∷ []) count new
gathered_one_more found s count lists new old within no_higher there_is new_is =
    let n : ℕ = directed_number s.before in
    let list : List DirCell = get_or lists n [] in
    let longer : List DirCell = list ++ s.after ∷ [] in
    elim (cases_Bool (ends_with s.after list)) [
      | inl last ↦ subst (AreSuccessorLists (found ++ s ∷ []) count) (sym (there_is last)) (record {
        for_each = old.for_each;
        each = λ d low. elim (cases_eq (directed_number d) n) [
          | inl same ↦ at_same (found ++ s ∷ []) d s.before (get_or lists (directed_number d) []) same
              (subst (λ m. AreSuccessors (found ++ s ∷ []) s.before (get_or lists m [])) (sym same) (told_already found s list (old.each s.before within) last))
          | inr other ↦ of_another found s d (get_or lists (directed_number d) []) (old.each d low) other
        ];
      })
      | inr not_last ↦ subst (AreSuccessorLists (found ++ s ∷ []) count) (sym (new_is not_last)) (record {
        for_each = length-set lists n longer ∙ old.for_each;
        each = λ d low. elim (cases_eq (directed_number d) n) [
          | inl same ↦
              let at : get_or (slice_set lists n longer) (directed_number d) [] ≡ longer = ap (λ m. get_or (slice_set lists n longer) m []) same ∙ get_or-set_same lists n longer [] (omega (arith, old.for_each)) in
              at_same (found ++ s ∷ []) d s.before (get_or (slice_set lists n longer) (directed_number d) []) same
              (subst (AreSuccessors (found ++ s ∷ []) s.before) (sym at) (is_new found s list (old.each s.before within) no_higher not_last))
          | inr other ↦
              subst (AreSuccessors (found ++ s ∷ []) d) (sym (get_or-set_other lists n (directed_number d) longer [] other)) (of_another found s d (get_or lists (directed_number d) []) (old.each d low) other)
        ];
      })
    ]

-- of successions in order, those before a place have what follows no higher than there
pub no_higher_before : (all : List Succession) (place : ℕ) (s : Succession) → IsNonDecreasingBy (λ (t : Succession). directed_number t.after) all → place < length all → get_or all place s ≡ s →
    (e : DirCell) → Contains (take place all) (succession s.before e) → directed_number e ≤ directed_number s.after
no_higher_before all place s rising within is e there =
    let t : Succession = succession s.before e in
    let low : there.0 < place = omega (arith, there.1, length-take-le place all (omega arith)) in
    let at : get_or all there.0 t ≡ t = sym (get_or-take place all there.0 t low) ∙ there.2 in
    let rises = rising there.0 place t (omega arith) within in
    let here : get_or all place t ≡ s = get_or_default all place t s within ∙ is in
    subst (λ (x : Succession). directed_number e ≤ directed_number x.after) here (subst (λ (x : Succession). directed_number x.after ≤ directed_number (get_or all place t).after) at rises)

-- joins are between cells of the instance
node_within : (p : InstanceParts) (e : CellEnd) (n : NodeId) → IsNodeOf p e n → e.cell.0 < length p.cells
unfolding IsNodeOf
node_within p e n (c, is, at) = slice_get_within p.cells e.cell.0 c is

paired_within : (p : InstanceParts) (one other : CellEnd) → IsInstance p → Any (Pairs one other) p.joins → (one.cell.0 < length p.cells) × (other.cell.0 < length p.cells)
paired_within p one other rules (k, j, within, is, pairs) =
    let good = rules.joins.at_each k j (slice_get-get_or p.joins k j within ∙ ap Some is) in
    let first = node_within p j.one good.node good.at_one in
    let second = node_within p j.other good.node good.at_other in
    elim pairs [
      | inl same ↦ (subst (λ (e : CellEnd). e.cell.0 < length p.cells) same.0 first, subst (λ (e : CellEnd). e.cell.0 < length p.cells) same.1 second)
      | inr turned ↦ (subst (λ (e : CellEnd). e.cell.0 < length p.cells) turned.1 second, subst (λ (e : CellEnd). e.cell.0 < length p.cells) turned.0 first)
    ]

pub befores_within : (p : InstanceParts) (found : List Succession) → IsInstance p → AreSuccessionsOf p.joins found → All (λ (s : Succession). directed_number s.before < 2 * length p.cells) found
befores_within p found rules are k x within =
    let s : Succession = get_or found k x in
    number_low s.before.end s.before.cell.0 (length p.cells) (paired_within p (head_of s.before) (tail_of s.after) rules ((are s.before s.after).0 (Contains-get_or found k x within))).0

-- what was gathered of all joins follows each directed cell
pub are_after : (p : InstanceParts) (found : List Succession) (lists : List (List DirCell)) → IsInstance p → AreSuccessionsOf p.joins found → AreSuccessorLists found (2 * length p.cells) lists → AreAfter p lists
unfolding Follows
are_after p found lists rules are gathered = record {
  for_each = gathered.for_each;
  each = λ d low. let here = gathered.each d low in record {
    follow = λ e. (
      λ there. let paired = (are d e).0 ((here.which e).0 there) in
          (number_low e.end e.cell.0 (length p.cells) (paired_within p (head_of d) (tail_of e) rules paired).1, paired),
      λ both. (here.which e).1 ((are d e).1 both.1),
    );
    rising = here.rising;
  };
}
