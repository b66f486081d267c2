-- Places put into the groups of their keys, one by one.
use Rattle.std.proofs.Common.{◌≡◌, ◌≢◌, ◌<◌, ◌+◌, inl, inr, ℕ, List, [], ◌∷◌, ◌++◌, length, get_or, ap, sym, ◌∙◌, subst, arith}
use Rattle.std.specs.Prelude.{Contains, All, slice_index, slice_set}
use Rattle.std.proofs.lemmas.Bool.{cases_eq}
use Rattle.std.proofs.lemmas.List.{length-set, get_or-set_same, get_or-set_other}
use Rattle.std.proofs.lemmas.List.Elements.{Contains-push, Contains-push_cases, Contains-append_left, Contains-get_or}
use Rattle.std.proofs.lemmas.List.Quantifiers.{all_pairs_push}
use Rattle.sweep_table.specs.declared.ids.SweepId.{SweepId}
use Rattle.sweep_table.specs.Groups.{IsGroupBelow, AreGroupsBelow}

pub none_grouped : (keys : List ℕ) (groups : List (List SweepId)) → length groups ≡ length keys → All (λ (g : List SweepId). g ≡ []) groups → AreGroupsBelow keys 0 groups
none_grouped keys groups len none = record {
  for_each = len;
  each = λ key h. subst (IsGroupBelow keys 0 key) (sym (none key [] (omega arith))) (record {
    which = λ v. (λ there. let low : there.0 < 0 = there.1 in absurd (omega arith), λ both. let low : v.0 < 0 = both.0 in absurd (omega arith));
    rising = λ i j d low high. absurd (omega arith);
  });
}

same_id : (v : SweepId) (n : ℕ) → v.0 ≡ n → v ≡ record { 0 = n }
same_id v n h = λ i. record { 0 = h i }

group_same : (keys : List ℕ) (place key : ℕ) (group : List SweepId) → IsGroupBelow keys place key group → slice_index keys place ≢ key → IsGroupBelow keys (place + 1) key group
group_same keys place key group old other = record {
  which = λ v. (
    λ there. let both = (old.which v).0 there in (omega (arith, both.0), both.1),
    λ both. elim (cases_eq v.0 place) [
      | inl here ↦ absurd (other (ap (slice_index keys) (sym here) ∙ both.1))
      | inr elsewhere ↦ (old.which v).1 (omega (arith, both.0), both.1)
    ],
  );
  rising = old.rising;
}

group_more : (keys : List ℕ) (place key : ℕ) (group : List SweepId) → IsGroupBelow keys place key group → slice_index keys place ≡ key → IsGroupBelow keys (place + 1) key (group ++ record { 0 = place } ∷ [])
group_more keys place key group old here = record {
  which = λ v. (
    λ there. elim (Contains-push_cases group (record { 0 = place }) v there) [
      | inl was ↦ let both = (old.which v).0 was in (omega (arith, both.0), both.1)
      | inr same ↦ let n : place ≡ v.0 = ap (λ (w : SweepId). w.0) same in (omega arith, ap (slice_index keys) (sym n) ∙ here)
    ],
    λ both. elim (cases_eq v.0 place) [
      | inl at ↦ subst (Contains (group ++ record { 0 = place } ∷ [])) (sym (same_id v place at)) (Contains-push group (record { 0 = place }))
      | inr elsewhere ↦ Contains-append_left group (record { 0 = place } ∷ []) v ((old.which v).1 (omega (arith, both.0), both.1))
    ],
  );
  rising = all_pairs_push (λ (v w : SweepId). v.0 < w.0) group (record { 0 = place }) old.rising (λ k d h. ((old.which (get_or group k d)).0 (Contains-get_or group k d h)).0);
}

pub grouped_more : (keys : List ℕ) (place key : ℕ) (id : SweepId) (groups new : List (List SweepId)) → AreGroupsBelow keys place groups → key < length keys → slice_index keys place ≡ key → id ≡ record { 0 = place } →
    ((d : List SweepId) → new ≡ slice_set groups key (get_or groups key d ++ id ∷ [])) → AreGroupsBelow keys (place + 1) new
grouped_more keys place key id groups new old within here id_is is = subst (AreGroupsBelow keys (place + 1)) (sym (is [])) (record {
  for_each = length-set groups key (get_or groups key [] ++ id ∷ []) ∙ old.for_each;
  each = λ k h. elim (cases_eq k key) [
    | inl same ↦
        let at : get_or (slice_set groups key (get_or groups key [] ++ id ∷ [])) k [] ≡ get_or groups key [] ++ id ∷ [] = ap (λ m. get_or (slice_set groups key (get_or groups key [] ++ id ∷ [])) m []) same ∙ get_or-set_same groups key _ [] (omega (arith, old.for_each)) in
        subst (IsGroupBelow keys (place + 1) k) (sym (at ∙ ap (λ v. get_or groups key [] ++ v ∷ []) id_is)) (subst (λ m. IsGroupBelow keys (place + 1) m (get_or groups key [] ++ record { 0 = place } ∷ [])) (sym same) (group_more keys place key (get_or groups key []) (old.each key within) here))
    | inr other ↦
        subst (IsGroupBelow keys (place + 1) k) (sym (get_or-set_other groups key k (get_or groups key [] ++ id ∷ []) [] other)) (group_same keys place k (get_or groups k []) (old.each k h) (λ same. other (sym same ∙ here)))
  ];
})
