-- What is known of a number of which some digits are read.
use Rattle.std.proofs.Common.{◌≡◌, ◌≢◌, ℕ, ◌+◌, ◌-◌, ◌*◌, ◌^◌, ◌<◌, ◌≤◌, inl, inr, List, [], ◌∷◌, ◌++◌, length, take, drop, get_or, refl, ap, sym, subst, ◌∙◌, arith, append_assoc}
use Rattle.std.specs.Prelude.{decimal}
use Rattle.std.specs.Char.{digit_value}
use Rattle.std.specs.Str.Parse.{digits_value, AllDigits}
use Rattle.std.proofs.lemmas.Bool.{cases_eq, cases_lt}
use Rattle.std.proofs.lemmas.List.{take-append-drop, drop_more, length-take-le, get_or-take, take_all, get_or_append_left}
use Rattle.std.proofs.lemmas.Fmt.{decimal-digits_value, decimal_digit}
use Rattle.std.proofs.lemmas.Int.Digits.{digits_value_more, digits_value-lt, digits_more}
use Rattle.std.proofs.lemmas.Str.{digit_value_digit}
use Rattle.std.proofs.Math.Nat.{pow-le-pow_right}
use Rattle.std.proofs.lemmas.Str.Parse.{numerals_by_value, tells_digits}
use Rattle.vss_text.specs.Numbers.{IsShort, ended}
use Rattle.vss_text.specs.Reading.{EndsWithin, NeverBegins}
use Rattle.vss_text.proofs.NumberLaws.{HasNumber, HasNumber-of}

-- the digits read so far
pub record AreRead (text : List ℕ) (count value : ℕ) : Type 0 where
  pub at_most_nine : count ≤ 9
  pub lead : 1 < count → 48 < get_or text 0 0
  pub all : (k : ℕ) → k < count → (48 ≤ get_or text k 0) × (get_or text k 0 ≤ 57)
  pub digits : AllDigits 10 (take count text)
  pub value_is : value ≡ digits_value 10 (take count text)

pub AreRead-none : (text : List ℕ) → AreRead text 0 0
AreRead-none text = record {
  at_most_nine = omega arith;
  lead = λ some. absurd (omega arith);
  all = λ k under. absurd (omega arith);
  digits = tt;
  value_is = refl;
}

-- the byte may stand at that place of a number
abbrev pub GoesOn : List ℕ → ℕ → Type 0
GoesOn text count = (48 ≤ get_or text count 0) × (get_or text count 0 ≤ 57) × (count < 9) × (0 < count → get_or text 0 0 ≢ 48)

pub AreRead-more : (text : List ℕ) (count value : ℕ) → AreRead text count value → count < length text → GoesOn text count → AreRead text (count + 1) (value * 10 + (get_or text count 0 - 48))
AreRead-more text count value before within goes =
    let byte : ℕ = get_or text count 0 in
    let digit : digit_value byte + 48 ≡ byte = digit_value_digit byte (goes.0, goes.1) in
    let low : 48 ≤ get_or text count 0 = goes.0 in
    let few : count < 9 = goes.2 in
    record {
      at_most_nine = omega arith;
      lead = λ some.
          let no_zero : get_or text 0 0 ≢ 48 = goes.3 (omega arith) in
          omega (arith, (before.all 0 (omega arith)).0);
      all = λ k under. elim (cases_eq k count) [
        | inl here ↦ subst (λ place. (48 ≤ get_or text place 0) × (get_or text place 0 ≤ 57)) (sym here) (goes.0, goes.1)
        | inr earlier ↦ before.all k (omega arith)
      ];
      digits = digits_more 10 text count within before.digits (omega arith);
      value_is = omega (arith, before.value_is, digits_value_more 10 text count within);
    }

ten_to : (count : ℕ) → count ≤ 9 → 10 ^ count ≤ 10 ^ 9
ten_to count few = pow-le-pow_right {n = 10} (omega arith) few

pub AreRead-small : (text : List ℕ) (count value : ℕ) → AreRead text count value → count ≤ length text → value < 10 ^ count
AreRead-small text count value read within = omega (arith, read.value_is, digits_value-lt 10 (take count text) read.digits, ap (λ n. 10 ^ n) (length-take-le count text within))

pub AreRead-short : (text : List ℕ) (count value : ℕ) → AreRead text count value → count ≤ length text → IsShort value
AreRead-short text count value read within = omega (arith, AreRead-small text count value read within, ten_to count read.at_most_nine)

-- the digits are those of the number
pub AreRead-decimal : (text : List ℕ) (count value : ℕ) → AreRead text count value → 0 < count → count ≤ length text → decimal value ≡ take count text
AreRead-decimal text count value read some within =
    let length_is : length (take count text) ≡ count = length-take-le count text within in
    let small : value < 10 ^ 9 = AreRead-short text count value read within in
    let first : get_or (take count text) 0 0 ≡ get_or text 0 0 = get_or-take count text 0 0 some in
    let alone : get_or (take count text) 0 0 ≡ 48 → length (take count text) ≡ 1 = λ zero_first. elim (cases_lt 1 count) [
      | inl long ↦ absurd (omega (arith, read.lead long))
      | inr short ↦ omega arith
    ] in
    ap decimal read.value_is ∙ decimal-digits_value (numerals_by_value (AllDigits 10) tells_digits) (take count text) read.digits (omega arith) alone (omega (arith, read.value_is))

-- the digits and the byte behind them are a number
pub AreRead-number : (text : List ℕ) (end count value : ℕ) → AreRead text count value → 0 < count → count < length text → get_or text count 0 ≡ end → text ≡ decimal value ++ end ∷ drop (count + 1) text
AreRead-number text end count value read some within behind =
    let digits = AreRead-decimal text count value read some (omega arith) in
    let rest : drop count text ≡ end ∷ drop (count + 1) text = drop_more text count 0 within ∙ ap (λ byte. byte ∷ drop (count + 1) text) behind in
    sym (ap (λ front. front ++ end ∷ drop (count + 1) text) digits ∙ (ap (λ back. take count text ++ back) (sym rest) ∙ take-append-drop count text))

-- what is read doesn't go on as a number does
pub AreRead-stops : (text : List ℕ) (end count value : ℕ) → end < 48 → AreRead text count value → count < length text → get_or text count 0 ≢ end → ¬ GoesOn text count → NeverBegins IsShort (ended end) text
unfolding NeverBegins
AreRead-stops text end count value low read within no_end stops = λ n more rest small same. never n more rest small (same ∙ simp append_assoc)
  where
    never : (n : ℕ) (more rest : List ℕ) → IsShort n → text ++ more ≡ decimal n ++ end ∷ rest → ⊥
    never n more rest small same =
        let has : HasNumber (text ++ more) end (length (decimal n)) = HasNumber-of (text ++ more) end n rest small same in
        let at : (k : ℕ) → k < length text → get_or (text ++ more) k 0 ≡ get_or text k 0 = λ k under. get_or_append_left text more 0 k under in
        elim (cases_lt count (length (decimal n))) [
          | inl before ↦ stops (
            omega (arith, at count within, (has.all count before).0),
            omega (arith, at count within, (has.all count before).1),
            omega (arith, has.at_most_nine),
            λ some zero_first. omega (arith, at 0 (omega arith), has.lead (omega arith)),
          )
          | inr behind ↦ elim (cases_eq count (length (decimal n))) [
            | inl here ↦ no_end (sym (at count within) ∙ (ap (λ k. get_or (text ++ more) k 0) here ∙ has.behind))
            | inr past ↦ omega (arith, has.behind, at (length (decimal n)) (omega arith), (read.all (length (decimal n)) (omega arith)).0)
          ]
        ]

-- where no digit stands, there is no number
pub AreRead-no_digit : (text : List ℕ) (end count value : ℕ) → end < 48 → count ≡ 0 → count < length text → get_or text count 0 ≡ end → NeverBegins IsShort (ended end) text
unfolding NeverBegins
AreRead-no_digit text end count value low none within is_end = λ n more rest small same.
    let has : HasNumber (text ++ more) end (length (decimal n)) = HasNumber-of (text ++ more) end n rest small (same ∙ simp append_assoc) in
    let first : get_or (text ++ more) 0 0 ≡ get_or text 0 0 = get_or_append_left text more 0 0 (omega arith) in
    let here : get_or text 0 0 ≡ end = ap (λ k. get_or text k 0) (sym none) ∙ is_end in
    omega (arith, (has.all 0 has.some).0)

-- all digits of the text are read, and it ends
pub AreRead-ends : (text : List ℕ) (end count value : ℕ) → AreRead text count value → count ≡ length text → EndsWithin IsShort (ended end) text
AreRead-ends [] end count value read all = record { item = 0; more = 48 ∷ end ∷ []; fits = omega arith; goes_on = ap (λ digits. digits ++ end ∷ []) (sym (decimal_digit 0 (omega arith))); too_early = omega arith }
AreRead-ends (b ∷ text) end count value read all =
    let digits : decimal value ≡ take count (b ∷ text) = AreRead-decimal (b ∷ text) count value read (omega arith) (omega arith) in
    let whole : take count (b ∷ text) ≡ b ∷ text = take_all count (b ∷ text) (omega arith) in
    record {
      item = value;
      more = end ∷ [];
      fits = AreRead-short (b ∷ text) count value read (omega arith);
      goes_on = ap (λ digits. digits ++ end ∷ []) (sym (digits ∙ whole));
      too_early = omega arith;
    }

-- there is room for one digit more
pub AreRead-room : (text : List ℕ) (count value : ℕ) → AreRead text count value → count ≤ length text → count < 9 → value < 10 ^ 8
AreRead-room text count value read within few = omega (arith, AreRead-small text count value read within, pow-le-pow_right {n = 10} (omega arith) {i = count} {j = 8} (omega arith))
