-- Laws of what stands at the front of a text.
use Rattle.std.proofs.Common.{◌≡◌, ◌≢◌, ℕ, List, [], ◌∷◌, ◌++◌, ◌⊎◌, inl, inr, refl, sym, ap, ◌∙◌, append_assoc, append-nil, length-append, arith}
use Rattle.std.proofs.lemmas.List.{append_cancel_left}
use Rattle.vss_text.specs.Reading.{NeverBegins, Misses, MissesText, IsReadOnce, Both, both_spelled}
use Rattle.vss_text.specs.declared.miss.Miss.{Miss}
use Rattle.vss_text.specs.declared.miss.Miss.TheVariants.{Short, Wrong}

-- of two texts that go on to the same, one is a front of the other
pub fronts : (one other r s : List ℕ) → one ++ r ≡ other ++ s → ((more : List ℕ) × (one ≡ other ++ more)) ⊎ ((more : List ℕ) × (other ≡ one ++ more))
fronts [] other r s e = inr (other, refl)
fronts (a ∷ one) [] r s e = inl (a ∷ one, refl)
fronts (a ∷ one) (b ∷ other) r s e =
    let first : a ≡ b = cc in
    let inner : one ++ r ≡ other ++ s = cc in
    elim (fronts one other r s inner) [
      | inl w ↦ inl (w.0, let more = w.1 in cc)
      | inr w ↦ inr (w.0, let more = w.1 in cc)
    ]

-- a text that isn't behind the word, nor a front of it
pub never_word : (word text : List ℕ) → ((rest : List ℕ) → text ≢ word ++ rest) → ((rest : List ℕ) → word ≢ text ++ rest) → MissesText word text Wrong
unfolding NeverBegins
never_word word text no_front no_back _ more rest _ same = elim (fronts text word more rest same) [
  | inl w ↦ no_front w.0 w.1
  | inr w ↦ no_back w.0 w.1
]

pub short_word : (word text more : List ℕ) → ((rest : List ℕ) → text ≢ word ++ rest) → word ≡ text ++ more → MissesText word text Short
short_word word text [] no_front is = absurd (no_front [] (sym (append-nil text) ∙ sym is ∙ sym (append-nil word)))
short_word word text (b ∷ more) no_front is = record { item = tt; more = b ∷ more; fits = tt; goes_on = sym is; too_early = omega arith }

-- the first of two items is missed, so both are
pub misses_first : {X Y : Type 0} (P : X → Type 0) (s : X → List ℕ) (Q : Y → Type 0) (t : Y → List ℕ) (text : List ℕ) (miss : Miss) (y : Y) → Q y → Misses P s text miss → Misses (Both P Q) (both_spelled s t) text miss
unfolding NeverBegins
misses_first P s Q t text Short y fits missed = record {
  item = (missed.item, y);
  more = missed.more ++ t y;
  fits = (missed.fits, fits);
  goes_on = sym (append_assoc text missed.more (t y)) ∙ ap (λ front. front ++ t y) missed.goes_on;
  too_early = omega (arith, missed.too_early, length-append missed.more (t y));
}
misses_first P s Q t text Wrong y fits missed = λ pair more rest both same. missed pair.0 more (t pair.1 ++ rest) both.0 (same ∙ append_assoc (s pair.0) (t pair.1) rest)

-- the first of two items is there, and the second is missed
pub misses_second : {X Y : Type 0} (P : X → Type 0) (s : X → List ℕ) (Q : Y → Type 0) (t : Y → List ℕ) (text behind : List ℕ) (miss : Miss) (x : X) → IsReadOnce P s → P x → text ≡ s x ++ behind → Misses Q t behind miss → Misses (Both P Q) (both_spelled s t) text miss
unfolding NeverBegins IsReadOnce
misses_second P s Q t text behind Short x once fits is missed = record {
  item = (x, missed.item);
  more = missed.more;
  fits = (fits, missed.fits);
  goes_on = ap (λ front. front ++ missed.more) is ∙ append_assoc (s x) behind missed.more ∙ ap (λ back. s x ++ back) missed.goes_on;
  too_early = missed.too_early;
}
misses_second P s Q t text behind Wrong x once fits is missed = λ pair more rest both same.
    let regrouped : s x ++ (behind ++ more) ≡ s pair.0 ++ (t pair.1 ++ rest) =
    sym (append_assoc (s x) behind more) ∙ ap (λ front. front ++ more) (sym is) ∙ same ∙ append_assoc (s pair.0) (t pair.1) rest in
    missed pair.1 more rest both.1 (once x pair.0 (behind ++ more) (t pair.1 ++ rest) fits both.0 regrouped).1

-- the same items under another name
pub misses_named : {X Z : Type 0} (P : X → Type 0) (s : X → List ℕ) (Q : Z → Type 0) (u : Z → List ℕ) (text : List ℕ) (miss : Miss)
    → ((x : X) → P x → (z : Z) × Q z × (u z ≡ s x))
    → ((z : Z) (more rest : List ℕ) → Q z → text ++ more ≡ u z ++ rest → (x : X) × P x × (u z ≡ s x))
    → Misses P s text miss → Misses Q u text miss
unfolding NeverBegins
misses_named P s Q u text Short up down missed =
    let named = up missed.item missed.fits in
    record { item = named.0; more = missed.more; fits = named.1; goes_on = missed.goes_on ∙ sym named.2; too_early = missed.too_early }
misses_named P s Q u text Wrong up down missed = λ z more rest fits same.
    let plain = down z more rest fits same in
    missed plain.0 more rest plain.1 (same ∙ ap (λ front. front ++ rest) plain.2)

pub word_read_once : (word : List ℕ) → IsReadOnce {X = Unit {0}} (λ _. Unit {0}) (λ _. word)
unfolding IsReadOnce
word_read_once word = λ one other rest rest' _ _ same. (refl, append_cancel_left word rest rest' same)

pub both_read_once : {X Y : Type 0} (P : X → Type 0) (s : X → List ℕ) (Q : Y → Type 0) (t : Y → List ℕ) → IsReadOnce P s → IsReadOnce Q t → IsReadOnce (Both P Q) (both_spelled s t)
unfolding IsReadOnce
both_read_once P s Q t once also = λ one other rest rest' fits fits' same.
    let first = once one.0 other.0 (t one.1 ++ rest) (t other.1 ++ rest') fits.0 fits'.0 (sym (append_assoc (s one.0) (t one.1) rest) ∙ same ∙ append_assoc (s other.0) (t other.1) rest') in
    let second = also one.1 other.1 rest rest' fits.1 fits'.1 first.1 in
    (λ i. (first.0 i, second.0 i), second.1)

-- the same, of items of two kinds, of which the first is never there
pub misses_either : {X Y Z : Type 0} (P : X → Type 0) (s : X → List ℕ) (Q : Y → Type 0) (t : Y → List ℕ) (R : Z → Type 0) (u : Z → List ℕ) (text : List ℕ) (miss : Miss)
    → ((y : Y) → Q y → (z : Z) × R z × (u z ≡ t y))
    → ((z : Z) → R z → ((x : X) × P x × (u z ≡ s x)) ⊎ ((y : Y) × Q y × (u z ≡ t y)))
    → Misses P s text Wrong → Misses Q t text miss → Misses R u text miss
unfolding NeverBegins
misses_either P s Q t R u text Short up down never missed =
    let named = up missed.item missed.fits in
    record { item = named.0; more = missed.more; fits = named.1; goes_on = missed.goes_on ∙ sym named.2; too_early = missed.too_early }
misses_either P s Q t R u text Wrong up down never missed = λ z more rest fits same. elim (down z fits) [
  | inl w ↦ never w.0 more rest w.1 (same ∙ ap (λ front. front ++ rest) w.2)
  | inr w ↦ missed w.0 more rest w.1 (same ∙ ap (λ front. front ++ rest) w.2)
]
