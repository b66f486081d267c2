-- Laws of what is picked of a list.
use Rattle.std.proofs.Common.{◌≡◌, ◌+◌, inl, inr, ℕ, List, [], ◌∷◌, ◌++◌, refl, sym, ap, subst, ◌∙◌, arith}
use Rattle.std.specs.List.{Contains, range_with_len}
use Rattle.discretise.specs.Picks.{Picks}
use Rattle.discretise.proofs.RowLemmas.{has_first, has_later, has_cases, range_more}

module _ {X : Type 0} (holds : X → Type 0) where
  -- what is picked of two lists in a row
  pub picks_append : (xs ys ps qs : List X) → Picks holds xs ps → Picks holds ys qs → Picks holds (xs ++ ys) (ps ++ qs)
  picks_append [] ys ps qs none picked = subst (λ cs. Picks holds ys (cs ++ qs)) (sym none) picked
  picks_append (x ∷ xs) ys ps qs picked more = elim picked [
    | inl here ↦ inl (here.0, here.1 ++ qs, ap (λ cs. cs ++ qs) here.2, picks_append xs ys here.1 qs here.3 more)
    | inr not ↦ inr (not.0, picks_append xs ys ps qs not.1 more)
  ]

  pub picks_one : (x : X) → holds x → Picks holds (x ∷ []) (x ∷ [])
  picks_one x it = inl (it, [], refl, refl)

  pub picks_not : (x : X) → ¬ holds x → Picks holds (x ∷ []) []
  picks_not x none = inr (none, refl)

  -- one more item at the end, picked or not
  pub picks_push : (xs ps : List X) (x : X) → Picks holds xs ps → holds x → Picks holds (xs ++ x ∷ []) (ps ++ x ∷ [])
  picks_push xs ps x picked it = picks_append xs (x ∷ []) ps (x ∷ []) picked (picks_one x it)

  pub picks_skip : (xs ps : List X) (x : X) → Picks holds xs ps → ¬ holds x → Picks holds (xs ++ x ∷ []) ps
  picks_skip xs ps x picked none = subst (Picks holds (xs ++ x ∷ [])) (nothing ps) (picks_append xs (x ∷ []) ps [] picked (picks_not x none))
    where
      nothing : (cs : List X) → cs ++ [] ≡ cs
      nothing [] = refl
      nothing (c ∷ cs) = ap (λ ds. c ∷ ds) (nothing cs)

  -- it holds of what is picked, which is of the list
  pub picked_holds : (xs ps : List X) → Picks holds xs ps → (x : X) → Contains ps x → Contains xs x × holds x
  picked_holds [] ps none x there = absurd (let has : Contains [] x = subst (λ cs. Contains cs x) none there in omega (arith, has.1))
  picked_holds (y ∷ ys) ps picked x there = elim picked [
    | inl here ↦ elim (has_cases y here.1 x (subst (λ (cs : List X). Contains cs x) here.2 there)) [
      | inl first ↦ (subst (Contains (y ∷ ys)) first (has_first y ys), subst holds first here.0)
      | inr later ↦ let rest = picked_holds ys here.1 here.3 x later in (has_later y ys x rest.0, rest.1)
    ]
    | inr not ↦ let rest = picked_holds ys ps not.1 x there in (has_later y ys x rest.0, rest.1)
  ]

  -- what it holds of is picked
  pub picks_all : (xs ps : List X) → Picks holds xs ps → (x : X) → Contains xs x → holds x → Contains ps x
  picks_all [] ps none x there it = absurd (omega (arith, there.1))
  picks_all (y ∷ ys) ps picked x there it = elim picked [
    | inl here ↦ subst (λ cs. Contains cs x) (sym here.2) (elim (has_cases y ys x there) [
      | inl first ↦ subst (Contains (y ∷ here.1)) first (has_first y here.1)
      | inr later ↦ has_later y here.1 x (picks_all ys here.1 here.3 x later it)
    ])
    | inr not ↦ elim (has_cases y ys x there) [
      | inl first ↦ absurd (not.0 (subst holds (sym first) it))
      | inr later ↦ picks_all ys ps not.1 x later it
    ]
  ]

  -- what is picked is one list
  pub picks_same : (xs ps qs : List X) → Picks holds xs ps → Picks holds xs qs → ps ≡ qs
  picks_same [] ps qs none also = none ∙ sym also
  picks_same (x ∷ xs) ps qs picked also = elim picked [
    | inl here ↦ elim also [
      | inl there ↦ here.2 ∙ (ap (λ cs. x ∷ cs) (picks_same xs here.1 there.1 here.3 there.3) ∙ sym there.2)
      | inr not ↦ absurd (not.0 here.0)
    ]
    | inr not ↦ elim also [
      | inl there ↦ absurd (not.0 there.0)
      | inr neither ↦ picks_same xs ps qs not.1 neither.1
    ]
  ]

-- one more number
pub picks_number : (holds : ℕ → Type 0) (n : ℕ) (ps : List ℕ) → Picks holds (range_with_len 0 n) ps → holds n → Picks holds (range_with_len 0 (n + 1)) (ps ++ n ∷ [])
picks_number holds n ps picked it = subst (λ xs. Picks holds xs (ps ++ n ∷ [])) (sym (range_more n)) (picks_push holds (range_with_len 0 n) ps n picked it)

pub skips_number : (holds : ℕ → Type 0) (n : ℕ) (ps : List ℕ) → Picks holds (range_with_len 0 n) ps → ¬ holds n → Picks holds (range_with_len 0 (n + 1)) ps
skips_number holds n ps picked none = subst (λ xs. Picks holds xs ps) (sym (range_more n)) (picks_skip holds (range_with_len 0 n) ps n picked none)
