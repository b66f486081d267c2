-- One walk more in a fan, and in the list of its last cell.
use Rattle.std.proofs.Common.{◌≡◌, ◌≢◌, ◌<◌, ◌≤◌, ◌+◌, inl, inr, ℕ, true, false, List, [], ◌∷◌, ◌++◌, length, map, get_or, refl, sym, ap, ◌∙◌, subst, arith}
use Rattle.std.specs.Prelude.{All, slice_set}
use Rattle.std.proofs.lemmas.Bool.{cases_eq, eq-eqb, ne_eqb}
use Rattle.std.proofs.lemmas.List.{append-nil, get_or_append_left, get_or_push, length_push, map_push, length-map, length-set, get_or-set_same, get_or-set_other, set-get_or, set-set}
use Rattle.std.proofs.lemmas.List.Elements.{All-cons, All-head, All-tail, All-push, All-weaker, filter-append}
use Rattle.std.proofs.lemmas.List.Sums.{length-filter}
use Rattle.cell_net.specs.declared.ids.CellId.{CellId}
use Rattle.gap_clauses.specs.Walks.{Step, end_of}
use Rattle.gap_clauses.specs.Fans.{AreListsOf, HasTooManyWalks, ends_in, walk_at, walks_to}
use Rattle.gap_clauses.proofs.ListLemmas.{filter_yes, filter_no}

pub ends_yes : (first f : CellId) (w : List Step) → (end_of first w).0 ≡ f.0 → ends_in first f w ≡ true
unfolding ends_in
ends_yes first f w same = eq-eqb _ _ same

ends_no : (first f : CellId) (w : List Step) → (end_of first w).0 ≢ f.0 → ends_in first f w ≡ false
unfolding ends_in
ends_no first f w other = ne_eqb _ _ other

to_more : (first f : CellId) (walks : List (List Step)) (w : List Step) → (end_of first w).0 ≡ f.0 → walks_to first (walks ++ w ∷ []) f ≡ walks_to first walks f ++ w ∷ []
to_more first f walks w same = filter-append (ends_in first f) walks (w ∷ []) ∙ ap (λ ws. walks_to first walks f ++ ws) (filter_yes (ends_in first f) w [] (ends_yes first f w same))

to_same : (first f : CellId) (walks : List (List Step)) (w : List Step) → (end_of first w).0 ≢ f.0 → walks_to first (walks ++ w ∷ []) f ≡ walks_to first walks f
to_same first f walks w other = filter-append (ends_in first f) walks (w ∷ []) ∙ (ap (λ ws. walks_to first walks f ++ ws) (filter_no (ends_in first f) w [] (ends_no first f w other)) ∙ append-nil (walks_to first walks f))

-- the walk without a step alone
pub lists_first : (first : CellId) (none lists : List (List ℕ)) (cells : ℕ) → length none ≡ cells → All (λ (g : List ℕ). g ≡ []) none → first.0 < cells →
    ((d : List ℕ) → lists ≡ slice_set none first.0 (get_or none first.0 d ++ 0 ∷ [])) → AreListsOf first ([] ∷ []) lists
lists_first first none lists cells size empty within is =
    let here : lists ≡ slice_set none first.0 (0 ∷ []) = is [] ∙ ap (λ g. slice_set none first.0 (g ++ 0 ∷ [])) (empty first.0 [] (omega arith)) in
    let total : length (slice_set none first.0 (0 ∷ [])) ≡ length none = length-set none first.0 (0 ∷ []) in
    let at_first : (f : ℕ) → f ≡ first.0 → get_or (slice_set none first.0 (0 ∷ [])) f [] ≡ 0 ∷ [] = λ f same. ap (λ k. get_or (slice_set none first.0 (0 ∷ [])) k []) same ∙ get_or-set_same none first.0 (0 ∷ []) [] (omega arith) in
    let at_other : (f : ℕ) → f ≢ first.0 → f < length none → get_or (slice_set none first.0 (0 ∷ [])) f [] ≡ [] = λ f other h. get_or-set_other none first.0 f (0 ∷ []) [] other ∙ empty f [] h in
    subst (AreListsOf first ([] ∷ [])) (sym here) (record {
      first_within = omega arith;
      places = λ f h. elim (cases_eq f first.0) [
        | inl same ↦ subst (All (λ k. k < 1)) (sym (at_first f same)) (All-cons (λ k. k < 1) 0 [] (omega arith) (λ k d low. absurd (omega arith)))
        | inr other ↦ subst (All (λ k. k < 1)) (sym (at_other f other (omega arith))) (λ k d low. absurd (omega arith))
      ];
      lead_there = λ f h. elim (cases_eq f.0 first.0) [
        | inl same ↦ ap (map (walk_at ([] ∷ []))) (at_first f.0 same) ∙ sym (to_more first f [] [] (sym same))
        | inr other ↦ ap (map (walk_at ([] ∷ []))) (at_other f.0 other (omega arith)) ∙ sym (to_same first f [] [] (λ same. other (sym same)))
      ];
      few = λ f h. elim (cases_eq f first.0) [
        | inl same ↦ omega (arith, ap length (at_first f same))
        | inr other ↦ omega (arith, ap length (at_other f other (omega arith)))
      ];
    })

-- places tell the same walks when there are more
same_walks : (walks more : List (List Step)) (places : List ℕ) → All (λ k. k < length walks) places → map (walk_at (walks ++ more)) places ≡ map (walk_at walks) places
same_walks walks more [] below = refl
same_walks walks more (k ∷ places) below =
    let here : walk_at (walks ++ more) k ≡ walk_at walks k = get_or_append_left walks more [] k (All-head (λ k. k < length walks) k places below) in
    let rest : map (walk_at (walks ++ more)) places ≡ map (walk_at walks) places = same_walks walks more places (All-tail (λ k. k < length walks) k places below) in
    cc

pub lists_push : (first cell : CellId) (walks longer : List (List Step)) (w : List Step) (lists new : List (List ℕ)) (place : ℕ) → AreListsOf first walks lists → cell.0 < length lists → length (walks_to first walks cell) < 64 →
    place ≡ length walks → end_of first w ≡ cell → ((d : List ℕ) → new ≡ slice_set lists cell.0 (get_or lists cell.0 d ++ place ∷ [])) → longer ≡ walks ++ w ∷ [] → AreListsOf first longer new
lists_push first cell walks longer w lists new place old within room at ends is more =
    let put : List (List ℕ) = slice_set lists cell.0 (get_or lists cell.0 [] ++ place ∷ []) in
    let total : length put ≡ length lists = length-set lists cell.0 (get_or lists cell.0 [] ++ place ∷ []) in
    let size : length (walks ++ w ∷ []) ≡ length walks + 1 = length_push walks w in
    let first_in = old.first_within in
    let here : (f : ℕ) → f ≡ cell.0 → get_or put f [] ≡ get_or lists f [] ++ place ∷ [] = λ f same. ap (λ k. get_or put k []) same ∙ (get_or-set_same lists cell.0 (get_or lists cell.0 [] ++ place ∷ []) [] within ∙ ap (λ k. get_or lists k [] ++ place ∷ []) (sym same)) in
    let elsewhere : (f : ℕ) → f ≢ cell.0 → get_or put f [] ≡ get_or lists f [] = λ f other. get_or-set_other lists cell.0 f (get_or lists cell.0 [] ++ place ∷ []) [] other in
    let weaker : (f : ℕ) → f < length lists → All (λ k. k < length (walks ++ w ∷ [])) (get_or lists f []) = λ f h. All-weaker (λ k. k < length walks) (λ k. k < length (walks ++ w ∷ [])) (λ k low. omega arith) (get_or lists f []) (old.places f h) in
    subst (λ ws. AreListsOf first ws new) (sym more) (subst (AreListsOf first (walks ++ w ∷ [])) (sym (is [])) (record {
      first_within = omega arith;
      places = λ f h. elim (cases_eq f cell.0) [
        | inl same ↦ subst (All (λ k. k < length (walks ++ w ∷ []))) (sym (here f same)) (All-push (λ k. k < length (walks ++ w ∷ [])) (get_or lists f []) place (weaker f (omega arith)) (omega arith))
        | inr other ↦ subst (All (λ k. k < length (walks ++ w ∷ []))) (sym (elsewhere f other)) (weaker f (omega arith))
      ];
      lead_there = λ f h. elim (cases_eq f.0 cell.0) [
        | inl same ↦
            let last : walk_at (walks ++ w ∷ []) place ≡ w = get_or_push walks w [] place (sym at) in
            ap (map (walk_at (walks ++ w ∷ []))) (here f.0 same) ∙ (map_push (walk_at (walks ++ w ∷ [])) (get_or lists f.0 []) place ∙ (ap (λ v. map (walk_at (walks ++ w ∷ [])) (get_or lists f.0 []) ++ v ∷ []) last
            ∙ (ap (λ ws. ws ++ w ∷ []) (same_walks walks (w ∷ []) (get_or lists f.0 []) (old.places f.0 (omega arith)) ∙ old.lead_there f (omega arith)) ∙ sym (to_more first f walks w (ap (λ (c : CellId). c.0) ends ∙ sym same)))))
        | inr other ↦ ap (map (walk_at (walks ++ w ∷ []))) (elsewhere f.0 other) ∙ (same_walks walks (w ∷ []) (get_or lists f.0 []) (old.places f.0 (omega arith)) ∙ (old.lead_there f (omega arith) ∙ sym (to_same first f walks w (λ same. other (sym same ∙ ap (λ (c : CellId). c.0) ends)))))
      ];
      few = λ f h. elim (cases_eq f cell.0) [
        | inl same ↦
            let count : length (get_or lists cell.0 []) ≡ length (walks_to first walks cell) = sym (length-map (get_or lists cell.0 []) (walk_at walks)) ∙ ap length (old.lead_there cell within) in
            omega (arith, ap length (here f same), length_push (get_or lists f []) place, ap (λ k. length (get_or lists k [])) same, count, room)
        | inr other ↦ omega (arith, ap length (elsewhere f other), old.few f (omega arith))
      ];
    }))

-- how many walks lead to a cell
pub count_is : (first cell : CellId) (walks : List (List Step)) (lists : List (List ℕ)) → AreListsOf first walks lists → cell.0 < length lists → length (get_or lists cell.0 []) ≡ length (walks_to first walks cell)
count_is first cell walks lists are within = sym (length-map (get_or lists cell.0 []) (walk_at walks)) ∙ ap length (are.lead_there cell within)

-- with one walk more to a cell that has 64 there are too many
pub over_full : (first cell : CellId) (walks : List (List Step)) (w : List Step) (lists : List (List ℕ)) → AreListsOf first walks lists → cell.0 < length lists → end_of first w ≡ cell → 64 ≤ length (get_or lists cell.0 []) → HasTooManyWalks first (walks ++ w ∷ [])
unfolding HasTooManyWalks
over_full first cell walks w lists are within ends full =
    let count = count_is first cell walks lists are within in
    let more : length (walks_to first (walks ++ w ∷ []) cell) ≡ length (walks_to first walks cell) + 1 = ap length (to_more first cell walks w (ap (λ (c : CellId). c.0) ends)) ∙ length_push (walks_to first walks cell) w in
    (cell, omega (arith, count, more, length-filter (ends_in first cell) (walks ++ w ∷ [])))

-- the last place dropped again
pub lists_back : (lists once new : List (List ℕ)) (at place : ℕ) → at < length lists → ((d : List ℕ) → once ≡ slice_set lists at (get_or lists at d ++ place ∷ [])) →
    ((d places : List ℕ) (k : ℕ) → get_or once at d ≡ places ++ k ∷ [] → new ≡ slice_set once at places) → new ≡ lists
lists_back lists once new at place within is back =
    let here : get_or once at [] ≡ get_or lists at [] ++ place ∷ [] = ap (λ ls. get_or ls at []) (is []) ∙ get_or-set_same lists at (get_or lists at [] ++ place ∷ []) [] within in
    back [] (get_or lists at []) place here ∙ (ap (λ ls. slice_set ls at (get_or lists at [])) (is []) ∙ (set-set lists at (get_or lists at [] ++ place ∷ []) (get_or lists at []) ∙ set-get_or lists at []))

pub lists_same : (first : CellId) (walks again : List (List Step)) (lists new : List (List ℕ)) → AreListsOf first walks lists → again ≡ walks → new ≡ lists → AreListsOf first again new
lists_same first walks again lists new are same is = subst (λ ws. AreListsOf first ws new) (sym same) (subst (AreListsOf first walks) (sym is) are)
