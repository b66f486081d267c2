-- Steps of the loops that put texts.
use Rattle.std.proofs.Common.{◌≡◌, ℕ, ◌+◌, ◌-◌, ◌≤◌, ◌%◌, List, [], ◌∷◌, ◌++◌, refl, sym, ap, ◌∙◌, arith, append_assoc, add-one}
use Rattle.std.specs.List.{flat_map, range_with_len}
use Rattle.std.proofs.lemmas.List.{append-nil, map-id, flat_map_more}
use Rattle.std.proofs.lemmas.List.FromFn.{map-range_with_len_more}
use Rattle.case_maker.specs.Draws.{next_state, state}
use Rattle.case_maker.specs.Texts.{filled}

range_more : (a n : ℕ) → range_with_len a (n + 1) ≡ range_with_len a n ++ (a + n) ∷ []
range_more a n = sym (map-id (range_with_len a (n + 1))) ∙ (map-range_with_len_more (λ x. x) a n (a + n) refl ∙ ap (λ xs. xs ++ (a + n) ∷ []) (map-id (range_with_len a n)))

-- no text so far
pub none_yet : (text : ℕ → List ℕ) (a : ℕ) (base : List ℕ) → base ≡ base ++ flat_map text (range_with_len a 0)
none_yet text a base = sym (append-nil base)

-- one text more
pub one_more : (text : ℕ → List ℕ) (a i : ℕ) (base old new : List ℕ) → a ≤ i → old ≡ base ++ flat_map text (range_with_len a (i - a)) → new ≡ old ++ text i → new ≡ base ++ flat_map text (range_with_len a (i + 1 - a))
one_more text a i base old new h before grown =
    let count : i + 1 - a ≡ i - a + 1 = omega arith in
    let place : a + (i - a) ≡ i = omega arith in
    grown ∙ (ap (λ xs. xs ++ text i) before ∙ (flat_map_more text base (range_with_len a (i - a)) i ∙ sym (ap (λ xs. base ++ flat_map text xs) (ap (range_with_len a) count ∙ (range_more a (i - a) ∙ ap (λ n. range_with_len a (i - a) ++ n ∷ []) place)))))

-- one draw more
pub state_more : (seed n x y : ℕ) → x ≡ state seed n → y ≡ next_state x → y ≡ state seed (n + 1)
unfolding state
state_more seed n x y before is = rw add-one (is ∙ ap next_state before)

pub state_none : (seed : ℕ) → seed % 65537 ≡ state seed 0
unfolding state
state_none seed = refl

-- one text behind another
pub joined : (base text old new more : List ℕ) → old ≡ base ++ text → new ≡ old ++ more → new ≡ base ++ (text ++ more)
joined base text old new more before grown = grown ∙ ap (λ xs. xs ++ more) before ∙ append_assoc base text more

-- a text with a number that is known by another name
pub filled_as : (base text new : List ℕ) (m n : ℕ) → m ≡ n → new ≡ base ++ filled text m → new ≡ base ++ filled text n
filled_as base text new m n same grown = grown ∙ ap (λ k. base ++ filled text k) same
