-- Entries by their keys.
use Rattle.std.proofs.Common.{◌≡◌, ◌≢◌, ◌<◌, inl, inr, ◌↔◌, ℕ, Bool, true, false, IsTrue, List, [], ◌∷◌, ◌++◌, length, set, get_or, Option, Some, None, slice_get, refl, sym, ap, subst, ◌∙◌, arith}
use Rattle.std.specs.Prelude.{if◌then◌else◌}
use Rattle.std.specs.List.{All}
use Rattle.std.proofs.lemmas.Bool.{cases_eq, false≢true}
use Rattle.std.proofs.lemmas.List.Elements.{Contains-push, Contains-push_cases, Contains-append_left}
use Rattle.std.proofs.lemmas.Option.{same_Some, slice_get_within, slice_get-get_or, get_or_from_slice_get}
use Rattle.rail_net.specs.Entries.{HasEntry, IsValueAt, AreValues, IsMixed, AreMixed}
use Rattle.rail_net.specs.declared.entries.Entry.{Entry}
use Rattle.rail_net.proofs.ListLaws.{set_here, set_other}

-- an entry under another key changes nothing at this key
value_kept : (entries : List Entry) (e : Entry) (key : ℕ) (found : Option ℕ) → key ≢ e.key → IsValueAt entries key found → IsValueAt (entries ++ e ∷ []) key found
value_kept entries e key None other none = λ value there. elim (Contains-push_cases entries e (record { key = key; value = value }) there) [
  | inl before ↦ none value before
  | inr same ↦ other (sym (ap (λ (x : Entry). x.key) same))
]
value_kept entries e key (Some value) other there = Contains-append_left entries (e ∷ []) (record { key = key; value = value }) there

-- one more entry, whose value is written at its key
pub values_more : (entries : List Entry) (values : List (Option ℕ)) (e : Entry) → e.key < length values → AreValues entries values → AreValues (entries ++ e ∷ []) (set values e.key (Some e.value))
unfolding AreValues
values_more entries values e within so_far key found is = elim (cases_eq key e.key) [
  | inl same ↦
      let written : Some (Some e.value) ≡ Some found = sym (set_here values e.key (Some e.value) within) ∙ subst (λ k. slice_get (set values e.key (Some e.value)) k ≡ Some found) same is in
      let value : Some e.value ≡ found = same_Some (Some e.value) found written in
      let here : IsValueAt (entries ++ e ∷ []) e.key (Some e.value) = Contains-push entries e in
      subst (λ k. IsValueAt (entries ++ e ∷ []) k found) (sym same) (subst (λ v. IsValueAt (entries ++ e ∷ []) e.key v) value here)
  | inr other ↦ value_kept entries e key found other (so_far key found (sym (set_other values e.key key (Some e.value) other) ∙ is))
]

-- with no entry there is no value
pub no_values : (values : List (Option ℕ)) → All (λ v. v ≡ None) values → AreValues [] values
unfolding AreValues
no_values values all key found is =
    let none : found ≡ None = sym (get_or_from_slice_get values key found found is) ∙ all key found (slice_get_within values key found is) in
    subst (λ v. IsValueAt [] key v) (sym none) (λ value there. absurd (omega (arith, there.1)))

-- an entry under that key has a value other than the one kept there
unfoldable pub Differs : List Entry → List (Option ℕ) → ℕ → Type 0
Differs entries values key = (value : ℕ) × HasEntry entries key value × (slice_get values key ≢ Some (Some value))

-- the keys are marked under which a value differs from the one kept there
unfoldable pub AreMarked : List Entry → List (Option ℕ) → List Bool → Type 0
AreMarked entries values marks = (key : ℕ) (mark : Bool) → slice_get marks key ≡ Some mark → IsTrue mark ↔ Differs entries values key

-- one more entry: its key is marked, if its value differs
pub marked_more : (entries : List Entry) (values : List (Option ℕ)) (marks : List Bool) (e : Entry) → e.key < length marks
    → (slice_get values e.key ≢ Some (Some e.value)) → AreMarked entries values marks → AreMarked (entries ++ e ∷ []) values (set marks e.key true)
unfolding AreMarked Differs
marked_more entries values marks e within differs so_far key mark is = elim (cases_eq key e.key) [
  | inl same ↦
      let written : Some true ≡ Some mark = sym (set_here marks e.key true within) ∙ subst (λ k. slice_get (set marks e.key true) k ≡ Some mark) same is in
      let yes : true ≡ mark = same_Some true mark written in
      let here : Differs (entries ++ e ∷ []) values e.key = (e.value, Contains-push entries e, differs) in
      (λ h. subst (λ k. Differs (entries ++ e ∷ []) values k) (sym same) here, λ h. sym yes)
  | inr other ↦
      let before = so_far key mark (sym (set_other marks e.key key true other) ∙ is) in (
        λ h. let old = before.0 h in (old.0, Contains-append_left entries (e ∷ []) (record { key = key; value = old.0 }) old.1, old.2),
        λ new. elim (Contains-push_cases entries e (record { key = key; value = new.0 }) new.1) [
          | inl there ↦ before.1 (new.0, there, new.2)
          | inr same ↦ absurd (other (sym (ap (λ (x : Entry). x.key) same)))
        ],
      )
]

-- one more entry whose value is the one kept
pub marked_same : (entries : List Entry) (values : List (Option ℕ)) (marks : List Bool) (e : Entry)
    → slice_get values e.key ≡ Some (Some e.value) → AreMarked entries values marks → AreMarked (entries ++ e ∷ []) values marks
unfolding AreMarked Differs
marked_same entries values marks e kept so_far key mark is =
    let before = so_far key mark is in (
      λ h. let old = before.0 h in (old.0, Contains-append_left entries (e ∷ []) (record { key = key; value = old.0 }) old.1, old.2),
      λ new. elim (Contains-push_cases entries e (record { key = key; value = new.0 }) new.1) [
        | inl there ↦ before.1 (new.0, there, new.2)
        | inr same ↦ absurd (new.2 (ap (slice_get values) (sym (ap (λ (x : Entry). x.key) same)) ∙ (kept ∙ ap (λ v. Some (Some v)) (ap (λ (x : Entry). x.value) same))))
      ],
    )

-- one more entry, whose key is marked unless its value is the one kept
pub marked_by : (kept : Bool) (entries : List Entry) (values : List (Option ℕ)) (marks : List Bool) (e : Entry) (d : Option ℕ) → e.key < length marks → length values ≡ length marks
    → IsTrue kept ↔ (get_or values e.key d ≡ Some e.value) → AreMarked entries values marks → AreMarked (entries ++ e ∷ []) values (if kept then marks else set marks e.key true)
marked_by true entries values marks e d within same kept so_far =
    let low : e.key < length values = omega arith in
    marked_same entries values marks e (slice_get-get_or values e.key d low ∙ ap Some (kept.0 refl)) so_far
marked_by false entries values marks e d within same kept so_far =
    let low : e.key < length values = omega arith in
    marked_more entries values marks e within (λ also. absurd (false≢true (kept.1 (same_Some (get_or values e.key d) (Some e.value) (sym (slice_get-get_or values e.key d low) ∙ also))))) so_far

-- with no entry no key is marked
pub no_marks : (values : List (Option ℕ)) (marks : List Bool) → All (λ m. m ≡ false) marks → AreMarked [] values marks
unfolding AreMarked Differs
no_marks values marks all key mark is =
    let none : mark ≡ false = sym (get_or_from_slice_get marks key mark mark is) ∙ all key mark (slice_get_within marks key mark is) in
    (λ h. absurd (grind arith), λ new. absurd (omega (arith, new.1.1)))

-- values differ from the one kept exactly if two of them differ
differs_mixed : (entries : List Entry) (values : List (Option ℕ)) (key : ℕ) → key < length values → AreValues entries values → Differs entries values key → IsMixed entries key
unfolding AreValues Differs IsMixed
differs_mixed entries values key within kept (value, there, differs) =
    by (get_it values key within)
  where
    get_it : (values : List (Option ℕ)) (key : ℕ) → key < length values → (found : Option ℕ) × (slice_get values key ≡ Some found)
    get_it values key within = (_, slice_get-get_or values key None within)

    by : (found : Option ℕ) × (slice_get values key ≡ Some found) → IsMixed entries key
    by (None, is) = absurd (kept key None is value there)
    by (Some other, is) = (other, value, kept key (Some other) is, there, λ same. differs (is ∙ ap (λ v. Some (Some v)) same))

mixed_differs : (entries : List Entry) (values : List (Option ℕ)) (key : ℕ) → IsMixed entries key → Differs entries values key
unfolding Differs IsMixed
mixed_differs entries values key (one, other, has_one, has_other, differ) =
    by (slice_get values key) refl
  where
    by : (found : Option (Option ℕ)) → slice_get values key ≡ found → Differs entries values key
    by None is = (one, has_one, λ same. absurd (grind arith))
    by (Some None) is = (one, has_one, λ same. absurd (grind arith))
    by (Some (Some kept)) is = elim (cases_eq kept one) [
      | inl same ↦ (other, has_other, λ also. differ (sym same ∙ same_Some kept other (same_Some (Some kept) (Some other) (sym is ∙ also))))
      | inr not_one ↦ (one, has_one, λ also. not_one (same_Some kept one (same_Some (Some kept) (Some one) (sym is ∙ also))))
    ]

pub marks_mixed : (entries : List Entry) (values : List (Option ℕ)) (marks : List Bool) → length values ≡ length marks → AreValues entries values → AreMarked entries values marks → AreMixed entries marks
unfolding AreMarked AreMixed
marks_mixed entries values marks same kept marked key mark is =
    let within : key < length values = omega (arith, slice_get_within marks key mark is) in
    (λ h. differs_mixed entries values key within kept ((marked key mark is).0 h), λ h. (marked key mark is).1 (mixed_differs entries values key h))
