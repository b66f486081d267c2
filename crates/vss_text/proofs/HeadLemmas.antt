-- What the first ten bytes of a text tell of the number at its front.
use Rattle.std.proofs.Common.{◌≡◌, ℕ, ◌+◌, ◌<◌, ◌≤◌, List, [], ◌∷◌, ◌++◌, length, take, drop, ap, sym, ◌∙◌, arith, length-append, append_assoc}
use Rattle.std.specs.Prelude.{decimal}
use Rattle.std.proofs.lemmas.List.{take-append-drop, drop-append-le, length-take-le}
use Rattle.std.proofs.lemmas.Fmt.{length-decimal-le}
use Rattle.vss_text.specs.Numbers.{IsShort, ended}
use Rattle.vss_text.specs.Reading.{NeverBegins, Misses}
use Rattle.vss_text.specs.declared.miss.Miss.{Miss}
use Rattle.vss_text.specs.declared.miss.Miss.TheVariants.{Short, Wrong}

-- a number in the head is one of the text
pub number_of_head : (text head : List ℕ) (end value digits : ℕ) → head ≡ take 10 text → digits < length head → head ≡ decimal value ++ end ∷ drop (digits + 1) head
    → text ≡ decimal value ++ end ∷ drop (digits + 1) text
number_of_head text head end value digits is within found =
    let whole : head ++ drop 10 text ≡ text = ap (λ front. front ++ drop 10 text) is ∙ take-append-drop 10 text in
    let behind : drop (digits + 1) head ++ drop 10 text ≡ drop (digits + 1) text = sym (drop-append-le (digits + 1) head (drop 10 text) (omega (arith, within))) ∙ ap (drop (digits + 1)) whole in
    sym whole
    ∙ (ap (λ front. front ++ drop 10 text) found
    ∙ (append_assoc (decimal value) (end ∷ drop (digits + 1) head) (drop 10 text) ∙ ap (λ back. decimal value ++ end ∷ back) behind))

-- a head of ten bytes holds a number and the byte behind it, so what it misses the text misses
pub head_misses : (text head : List ℕ) (end : ℕ) (miss : Miss) → head ≡ take 10 text → 10 ≤ length text → Misses IsShort (ended end) head miss → Misses IsShort (ended end) text miss
unfolding NeverBegins
head_misses text head end Short is long missed =
    absurd (omega (
      arith,
      missed.too_early,
      ap length missed.goes_on,
      length-append head missed.more,
      length-append (decimal missed.item) (end ∷ []),
      length-decimal-le 9 missed.item (omega arith) missed.fits (omega (arith, missed.fits)),
      ap length is,
      length-take-le 10 text long,
    ))
head_misses text head end Wrong is long missed = λ n more rest small same.
    missed n (drop 10 text ++ more) rest small
    (sym (append_assoc head (drop 10 text) more) ∙ (ap (λ front. front ++ more) (ap (λ front. front ++ drop 10 text) is ∙ take-append-drop 10 text) ∙ same))
