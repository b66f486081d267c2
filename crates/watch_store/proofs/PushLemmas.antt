-- A node more, in front of the chain of its home.
use Rattle.std.proofs.Common.{◌≡◌, ◌≢◌, ℕ, ◌+◌, ◌-◌, ◌^◌, ◌<◌, ◌≤◌, false, ◌&&◌, ◌||◌, inl, inr, List, [], ◌∷◌, ◌++◌, length, get_or, set, refl, ap, sym, subst, ◌∙◌, arith}
use Rattle.std.specs.Prelude.{nat_eq, nat_lt}
use Rattle.std.proofs.lemmas.Bool.{cases_eq, cases_lt, cases_Bool, eq-eqb, lt-ltb, ltb-true}
use Rattle.std.proofs.lemmas.List.{length-set, get_or-set_same, get_or-set_other, length_push, get_or_push, get_or_append_left}
use Rattle.watch_store.specs.Chains.{IsLinked, is_among, lives_at, AreChained}
use Rattle.watch_store.proofs.ChainLemmas.{apart-eqb}

IsLinked-grow : (nexts : List ℕ) (v at : ℕ) (nodes : List ℕ) → IsLinked nexts at nodes → IsLinked (nexts ++ v ∷ []) at nodes
IsLinked-grow nexts v at [] end = end
IsLinked-grow nexts v at (node ∷ nodes) chain = (
  chain.0,
  omega (arith, chain.1, length_push nexts v),
  subst (λ a. IsLinked (nexts ++ v ∷ []) a nodes) (sym (get_or_append_left nexts (v ∷ []) 0 node chain.1)) (IsLinked-grow nexts v (get_or nexts node 0) nodes chain.2),
)

ltb-not : (a b : ℕ) → b ≤ a → nat_lt a b ≡ false
ltb-not a b le = elim (cases_Bool (nat_lt a b)) [ inl lt ↦ absurd (omega (arith, ltb-true a b lt, le)) | inr fine ↦ fine ]

pub lives-out : (homes : List ℕ) (home n : ℕ) → length homes ≤ n → lives_at homes home n ≡ false
lives-out homes home n out = ap (λ b. b && nat_eq (get_or homes n 0) home) (ltb-not n (length homes) out)

lives-grow : (homes : List ℕ) (h home n : ℕ) → n ≢ length homes → lives_at (homes ++ h ∷ []) home n ≡ lives_at homes home n
lives-grow homes h home n apart = elim (cases_lt n (length homes)) [
  | inl inside ↦
      ap (λ b. b && nat_eq (get_or (homes ++ h ∷ []) n 0) home) (lt-ltb n (length (homes ++ h ∷ [])) (omega (arith, length_push homes h)) ∙ sym (lt-ltb n (length homes) inside))
      ∙ ap (λ x. nat_lt n (length homes) && nat_eq x home) (get_or_append_left homes (h ∷ []) 0 n inside)
  | inr outside ↦ lives-out (homes ++ h ∷ []) home n (omega (arith, length_push homes h)) ∙ sym (lives-out homes home n outside)
]

lives-last : (homes : List ℕ) (h home : ℕ) → lives_at (homes ++ h ∷ []) home (length homes) ≡ nat_eq h home
lives-last homes h home =
    ap (λ b. b && nat_eq (get_or (homes ++ h ∷ []) (length homes) 0) home) (lt-ltb (length homes) (length (homes ++ h ∷ [])) (omega (arith, length_push homes h)))
    ∙ ap (λ x. nat_eq x home) (get_or_push homes h 0 (length homes) refl)

-- a new node in front of the chain of its home
pub AreChained-push : (heads nexts homes : List ℕ) (h : ℕ) → h < length heads → length homes < 2 ^ 32 - 1 → AreChained heads nexts homes → AreChained (set heads h (length homes)) (nexts ++ get_or heads h 0 ∷ []) (homes ++ h ∷ [])
AreChained-push heads nexts homes h within room chained =
    let n : ℕ = length homes in
    let head : ℕ = get_or heads h 0 in
    let more : length (homes ++ h ∷ []) ≡ n + 1 = length_push homes h in
    let more' : length (nexts ++ head ∷ []) ≡ length nexts + 1 = length_push nexts head in
    record {
      table = record {
        all_nodes = omega (arith, more, more', chained.table.all_nodes);
        few_nodes = omega (arith, more);
        all_homes = λ k inside. elim (cases_eq k n) [
          | inl here ↦ subst (λ x. x < length (set heads h n)) (sym (get_or_push homes h 0 k (sym here))) (omega (arith, within, length-set heads h n))
          | inr apart ↦ let inside' : k < length homes = omega (arith, inside, more) in
              subst (λ x. x < length (set heads h n)) (sym (get_or_append_left homes (h ∷ []) 0 k inside')) (omega (arith, chained.table.all_homes k inside', length-set heads h n))
        ];
      };
      chains = λ home inside.
          let old = chained.chains home (omega (arith, inside, length-set heads h n)) in
          let fresh : is_among old.0 n ≡ false = old.1.exact n ∙ lives-out homes home n (omega arith) in
          elim (cases_eq home h) [
            | inl here ↦ (
              n ∷ old.0,
              record {
                linked = subst (λ a. IsLinked (nexts ++ head ∷ []) a (n ∷ old.0)) (sym (ap (λ k. get_or (set heads h n) k 0) here ∙ get_or-set_same heads h n 0 within)) (
                  refl,
                  omega (arith, more', chained.table.all_nodes),
                  subst (λ a. IsLinked (nexts ++ head ∷ []) a old.0) (sym (get_or_push nexts head 0 n chained.table.all_nodes))
                      (subst (λ k. IsLinked (nexts ++ head ∷ []) (get_or heads k 0) old.0) here (IsLinked-grow nexts head (get_or heads home 0) old.0 old.1.linked)),
                );
                once = (fresh, old.1.once);
                exact = λ m. elim (cases_eq m n) [
                  | inl same ↦ ap (λ t. t || is_among old.0 m) (eq-eqb m n same) ∙ sym (ap (lives_at (homes ++ h ∷ []) home) same ∙ (lives-last homes h home ∙ eq-eqb h home (sym here)))
                  | inr apart ↦ ap (λ t. t || is_among old.0 m) (apart-eqb m n apart) ∙ (old.1.exact m ∙ sym (lives-grow homes h home m apart))
                ];
              },
            )
            | inr elsewhere ↦ (
              old.0,
              record {
                linked = subst (λ a. IsLinked (nexts ++ head ∷ []) a old.0) (sym (get_or-set_other heads h home n 0 elsewhere)) (IsLinked-grow nexts head (get_or heads home 0) old.0 old.1.linked);
                once = old.1.once;
                exact = λ m. elim (cases_eq m n) [
                  | inl same ↦ ap (is_among old.0) same ∙ (fresh ∙ sym (ap (lives_at (homes ++ h ∷ []) home) same ∙ (lives-last homes h home ∙ apart-eqb h home (λ is. elsewhere (sym is)))))
                  | inr apart ↦ old.1.exact m ∙ sym (lives-grow homes h home m apart)
                ];
              },
            )
          ];
    }
