-- Laws of bits in words: a word more, one bit set, one truth more.
use Rattle.std.proofs.Common.{◌≡◌, ◌≢◌, ℕ, zero, suc, ◌+◌, ◌*◌, ◌/◌, ◌%◌, ◌^◌, ◌<◌, ◌≤◌, Bool, true, false, List, [], ◌∷◌, ◌++◌, length, set, get_or, refl, sym, ap, subst, ◌∙◌, arith, inl, inr}
use Rattle.std.specs.Prelude.{nat_eq}
use Rattle.std.specs.Int.{bit_at, w64}
use Rattle.std.specs.Int.RustNames.{bit_or}
use Rattle.std.specs.Int.Bits.{bit_and}
use Rattle.std.proofs.lemmas.Bool.{cases_eq}
use Rattle.std.proofs.lemmas.List.{length-set, get_or-set_same, get_or-set_other, get_or_past, get_or_read, same_lists}
use Rattle.std.proofs.lemmas.List.FromFn.{map-range_with_len_more, length-map-range_with_len, get_or-map-range_with_len}
use Rattle.std.proofs.lemmas.Nat.Bits.{shr_and_one, bit_at-zero, bit_at_set_same, bit_at_set_other}
use Rattle.vss_bits.specs.Words.{is_set, truths, AreInWords, SetsOnly}

-- what the code reads is the bit
pub reads_bit : (words : List ℕ) (place : ℕ) → nat_eq (bit_and (get_or words (place / 64) 0 / 2 ^ (place % 64)) 1) 1 ≡ is_set words place
unfolding is_set
reads_bit words place = ap (λ b. nat_eq b 1) (shr_and_one (get_or words (place / 64) 0) (place % 64))

-- a word of no bits behind the words
get_or-wider : (words : List ℕ) (i : ℕ) → get_or (words ++ 0 ∷ []) i 0 ≡ get_or words i 0
get_or-wider [] zero = refl
get_or-wider [] (suc i) = refl
get_or-wider (w ∷ ws) zero = refl
get_or-wider (w ∷ ws) (suc i) = get_or-wider ws i

pub is_set-wider : (words new : List ℕ) (other : ℕ) → new ≡ words ++ 0 ∷ [] → is_set new other ≡ is_set words other
unfolding is_set
is_set-wider words new other same = ap (λ w. nat_eq (bit_at w (other % 64)) 1) (ap (λ ws. get_or ws (other / 64) 0) same ∙ get_or-wider words (other / 64))

-- one bit is set, and no other one changes
pub sets_bit : (old new : List ℕ) (place : ℕ) → place / 64 < length old → new ≡ set old (place / 64) (bit_or (get_or old (place / 64) 0) (1 * 2 ^ (place % 64) % 2 ^ 64)) → SetsOnly old place true new
unfolding is_set
sets_bit old new place within same =
    let word : ℕ = get_or old (place / 64) 0 in
    let more : ℕ = bit_or word (1 * 2 ^ (place % 64) % 2 ^ 64) in
    let here : get_or new (place / 64) 0 ≡ more = ap (λ ws. get_or ws (place / 64) 0) same ∙ get_or-set_same old (place / 64) more 0 within in
    let low : place % 64 < 64 = omega arith in
    record {
      words = ap length same ∙ length-set old (place / 64) more;
      there = ap (λ b. nat_eq b 1) (ap (λ w. bit_at w (place % 64)) here ∙ bit_at_set_same w64 word (place % 64) low);
      elsewhere = λ other differs. elim (cases_eq (other / 64) (place / 64)) [
        | inl alike ↦
            let apart : other % 64 ≢ place % 64 = λ e. differs (omega (arith, alike, e)) in
            ap (λ b. nat_eq b 1) (ap (λ w. bit_at (get_or new w 0) (other % 64)) alike ∙ (ap (λ w. bit_at w (other % 64)) here ∙ (bit_at_set_other w64 word (place % 64) low (other % 64) apart ∙ ap (λ w. bit_at (get_or old w 0) (other % 64)) (sym alike))))
        | inr other_word ↦
            ap (λ w. nat_eq (bit_at w (other % 64)) 1) (ap (λ ws. get_or ws (other / 64) 0) same ∙ get_or-set_other old (place / 64) (other / 64) more 0 other_word)
      ];
    }

pub sets_word : (old new : List ℕ) (place word : ℕ) (truth : Bool) → truth ≡ true → place / 64 < length old → word ≡ get_or old (place / 64) word → new ≡ set old (place / 64) (bit_or word (1 * 2 ^ (place % 64) % 2 ^ 64)) → SetsOnly old place truth new
sets_word old new place word truth is within read same =
    let at : word ≡ get_or old (place / 64) 0 = get_or_read old (place / 64) word within read 0 in
    subst (λ t. SetsOnly old place t new) (sym is) (sets_bit old new place within (same ∙ ap (λ w. set old (place / 64) (bit_or w (1 * 2 ^ (place % 64) % 2 ^ 64))) at))

-- a clear bit that stays clear
pub sets_none : (old : List ℕ) (place : ℕ) → is_set old place ≡ false → SetsOnly old place false old
sets_none old place clear = record { words = refl; there = clear; elsewhere = λ other differs. refl }

-- one truth more
pub truths_more : (old wide new : List ℕ) (count : ℕ) (truth : Bool) → ((other : ℕ) → is_set wide other ≡ is_set old other) → SetsOnly wide count truth new → truths new (count + 1) ≡ truths old count ++ truth ∷ []
truths_more old wide new count truth alike sets =
    let front : truths new count ≡ truths old count =
    same_lists (truths new count) (truths old count) (length-map-range_with_len (is_set new) 0 count ∙ sym (length-map-range_with_len (is_set old) 0 count))
    (λ k d h. let below : k < count = omega (arith, length-map-range_with_len (is_set new) 0 count) in
    get_or-map-range_with_len (is_set new) 0 count k k d below (omega arith) ∙ (sets.elsewhere k (λ e. absurd (omega (arith, e))) ∙ (alike k ∙ sym (get_or-map-range_with_len (is_set old) 0 count k k d below (omega arith))))) in
    map-range_with_len_more (is_set new) 0 count count (omega arith) ∙ (ap (λ ts. ts ++ is_set new count ∷ []) front ∙ ap (λ t. truths old count ++ t ∷ []) sets.there)

pub stored_none : (words : List ℕ) → words ≡ [] → AreInWords words 0
unfolding is_set
stored_none words none = subst (λ ws. AreInWords ws 0) (sym none) (record {
  room = refl;
  clear = λ place h. ap (λ b. nat_eq b 1) (bit_at-zero (place % 64));
})

pub stored_more : (old wide new : List ℕ) (count : ℕ) (truth : Bool) → AreInWords old count → length wide ≡ count / 64 + 1 → ((other : ℕ) → is_set wide other ≡ is_set old other) → SetsOnly wide count truth new → AreInWords new (count + 1)
stored_more old wide new count truth stored size alike sets = record {
  room = let same : length new ≡ length wide = sets.words in omega arith;
  clear = λ place h. sets.elsewhere place (λ e. absurd (omega (arith, e))) ∙ (alike place ∙ stored.clear place (omega arith));
}

-- the truth of a place is its bit, and there is none behind the last
pub truth_at : (words : List ℕ) (count place : ℕ) → place < count → get_or (truths words count) place false ≡ is_set words place
truth_at words count place within = get_or-map-range_with_len (is_set words) 0 count place place false within (omega arith)

pub truth_past : (words : List ℕ) (count place : ℕ) → count ≤ place → get_or (truths words count) place false ≡ false
truth_past words count place past = get_or_past (truths words count) place false (let size : length (truths words count) ≡ count = length-map-range_with_len (is_set words) 0 count in omega arith)
