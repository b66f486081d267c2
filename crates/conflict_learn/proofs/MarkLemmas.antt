-- Laws of marks that are undone by what was touched.
use Rattle.std.proofs.Common.{◌≡◌, ◌≢◌, ℕ, ◌+◌, ◌-◌, ◌<◌, ◌≤◌, Bool, true, false, inl, inr, List, [], ◌∷◌, ◌++◌, length, map, get_or, set, replicate, ap, sym, ◌∙◌, arith}
use Rattle.std.proofs.lemmas.Bool.{cases_eq, cases_lt, cases_Bool}
use Rattle.std.proofs.lemmas.List.{length-set, get_or-set_same, get_or-set_other, length-replicate, get_or-replicate, get_or_past, length-map, get_or-map, length_push, get_or_default, get_or_append_left}
use Rattle.std.proofs.lemmas.List.Elements.{All-push, All-nil}
use Rattle.std.proofs.lemmas.List.Quantifiers.{all_pairs_push, Any-push}
use Rattle.sat_core.specs.declared.literal.Var.{Var}
use Rattle.sat_core.proofs.OpenLaws.{distinct_below, true_is_not_false}
use Rattle.conflict_learn.specs.Marks.{AreAmong, IsTouched}

pub none_marked : (n k : ℕ) → get_or (replicate n false) k false ≡ false
none_marked n k = elim (cases_lt k n) [
  | inl inside ↦ get_or-replicate n k false false inside
  | inr outside ↦ get_or_past (replicate n false) k false (omega (arith, outside, length-replicate n false))
]

pub IsTouched-none : (vars room : ℕ) → vars ≤ room → IsTouched (replicate vars false) [] room
IsTouched-none vars room enough = record {
  in_range = All-nil (λ (v : Var). (1 ≤ v.0) × (v.0 ≤ length (replicate vars false)));
  once = λ i j d low high. absurd (omega arith);
  all_marked = All-nil (λ (v : Var). get_or (replicate vars false) (v.0 - 1) false ≡ true);
  among = λ n marked. absurd (true_is_not_false (sym marked ∙ none_marked vars n));
  enough = omega (arith, length-replicate vars false);
}

pub touched_room : (flags : List Bool) (touched : List Var) (room : ℕ) (var : Var) → IsTouched flags touched room → (1 ≤ var.0) × (var.0 ≤ length flags) → get_or flags (var.0 - 1) false ≡ false → length touched < length flags
touched_room flags touched room var kept over unmarked =
    let place : Var → ℕ = λ v. v.0 - 1 in
    let all : length (map place touched ++ (var.0 - 1) ∷ []) ≤ length flags = distinct_below (map place touched ++ (var.0 - 1) ∷ []) (length flags)
    (all_pairs_push (λ a b. a ≢ b) (map place touched) (var.0 - 1)
    (λ i j d low high same.
    let high' : j < length touched = omega (arith, length-map touched place, high) in
    let one = kept.in_range i var (omega arith) in
    let two = kept.in_range j var high' in
    kept.once i j var low high' (omega (arith, one, two, same, get_or-map place touched i var d (omega arith), get_or-map place touched j var d high')))
    (λ k d within same.
    let within' : k < length touched = omega (arith, length-map touched place, within) in
    true_is_not_false (sym (kept.all_marked k var within') ∙ (ap (λ n. get_or flags n false) (sym (get_or-map place touched k var d within') ∙ same) ∙ unmarked))))
    (All-push (λ x. x < length flags) (map place touched) (var.0 - 1)
    (λ k d within.
    let within' : k < length touched = omega (arith, length-map touched place, within) in
    let one = kept.in_range k var within' in
    omega (arith, one, get_or-map place touched k var d within'))
    (omega arith))
    in omega (arith, all, length_push (map place touched) (var.0 - 1), length-map touched place)

pub IsTouched-mark : (flags : List Bool) (touched : List Var) (room : ℕ) (var : Var) → IsTouched flags touched room → (1 ≤ var.0) × (var.0 ≤ length flags) → get_or flags (var.0 - 1) false ≡ false → IsTouched (set flags (var.0 - 1) true) (touched ++ var ∷ []) room
IsTouched-mark flags touched room var kept over unmarked =
    let long : length (set flags (var.0 - 1) true) ≡ length flags = length-set flags (var.0 - 1) true in
    let apart : (k : ℕ) (d : Var) → k < length touched → (get_or touched k d).0 ≢ var.0 = λ k d within same. true_is_not_false (sym (kept.all_marked k d within) ∙ (ap (λ n. get_or flags (n - 1) false) same ∙ unmarked)) in
    record {
      in_range = All-push (λ (v : Var). (1 ≤ v.0) × (v.0 ≤ length (set flags (var.0 - 1) true))) touched var (λ k d within. let one = kept.in_range k d within in (one.0, omega (arith, one.1, long))) (over.0, omega (arith, over.1, long));
      once = all_pairs_push (λ (one later : Var). one.0 ≢ later.0) touched var kept.once apart;
      all_marked = All-push (λ (v : Var). get_or (set flags (var.0 - 1) true) (v.0 - 1) false ≡ true) touched var
          (λ k d within. let one = kept.in_range k d within in get_or-set_other flags (var.0 - 1) ((get_or touched k d).0 - 1) true false (λ same. apart k d within (omega (arith, one, over, same))) ∙ kept.all_marked k d within)
          (get_or-set_same flags (var.0 - 1) true false (omega (arith, over)));
      among = λ n marked. elim (cases_eq n (var.0 - 1)) [
        | inl here ↦ Any-push (λ (v : Var). v.0 - 1 ≡ n) touched var (sym here)
        | inr other ↦ let old = kept.among n (sym (get_or-set_other flags (var.0 - 1) n true false other) ∙ marked) in
            (old.0, old.1, omega (arith, old.2, length_push touched var), get_or_append_left touched (var ∷ []) old.1 old.0 old.2 ∙ old.3, old.4)
      ];
      enough = omega (arith, kept.enough, long);
    }

pub IsTouched-clear : (flags : List Bool) (room : ℕ) → ((n : ℕ) → get_or flags n false ≡ false) → length flags ≤ room → IsTouched flags [] room
IsTouched-clear flags room clear enough = record {
  in_range = All-nil (λ (v : Var). (1 ≤ v.0) × (v.0 ≤ length flags));
  once = λ i j d low high. absurd (omega arith);
  all_marked = All-nil (λ (v : Var). get_or flags (v.0 - 1) false ≡ true);
  among = λ n marked. absurd (true_is_not_false (sym marked ∙ clear n));
  enough = enough;
}

-- while marks are undone: a marked place belongs to one of the variables that are left
abbrev pub IsLeftFrom : List Bool → List Var → ℕ → Type 0
IsLeftFrom flags touched from = (n : ℕ) → get_or flags n false ≡ true → (k : ℕ) × (from ≤ k) × (k < length touched) × ((d : Var) → (get_or touched k d).0 - 1 ≡ n)

pub left_first : (flags : List Bool) (touched : List Var) → AreAmong flags touched → IsLeftFrom flags touched 0
left_first flags touched among n marked = let at = among n marked in (at.0, omega arith, at.2, λ d. ap (λ (v : Var). v.0 - 1) (get_or_default touched at.0 d at.1 at.2 ∙ at.3) ∙ at.4)

pub left_more : (flags : List Bool) (touched : List Var) (from : ℕ) (d : Var) → from < length touched → (get_or touched from d).0 - 1 < length flags → IsLeftFrom flags touched from → IsLeftFrom (set flags ((get_or touched from d).0 - 1) false) touched (from + 1)
left_more flags touched from d within inside left n marked = elim (cases_eq n ((get_or touched from d).0 - 1)) [
  | inl here ↦ absurd (true_is_not_false (sym marked ∙ (ap (λ i. get_or (set flags ((get_or touched from d).0 - 1) false) i false) here ∙ get_or-set_same flags ((get_or touched from d).0 - 1) false false inside)))
  | inr other ↦
      let at = left n (sym (get_or-set_other flags ((get_or touched from d).0 - 1) n false false other) ∙ marked) in (
        at.0,
        elim (cases_eq at.0 from) [
          | inl first ↦ absurd (other (sym (at.3 d) ∙ ap (λ k. (get_or touched k d).0 - 1) first))
          | inr later ↦ omega (arith, at.1)
        ],
        at.2,
        at.3,
      )
]

pub left_none : (flags : List Bool) (touched : List Var) (from : ℕ) → length touched ≤ from → IsLeftFrom flags touched from → (n : ℕ) → get_or flags n false ≡ false
left_none flags touched from over left n = elim (cases_Bool (get_or flags n false)) [
  | inl marked ↦ let at = left n marked in absurd (omega (arith, at.1, at.2))
  | inr fine ↦ fine
]
