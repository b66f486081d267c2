-- Laws of numbers at the front of a text, with a byte behind them that is no digit.
use Rattle.std.proofs.Common.{◌≡◌, ℕ, ◌<◌, ◌≤◌, inl, inr, List, [], ◌∷◌, ◌++◌, length, take, drop, get_or, refl, ap, sym, ◌∙◌, arith, length-append, append_assoc}
use Rattle.std.specs.Prelude.{decimal}
use Rattle.std.proofs.lemmas.Bool.{cases_eq, cases_lt}
use Rattle.std.proofs.lemmas.List.{take_at, drop_at, get_or_append_left, get_or_at}
use Rattle.std.proofs.lemmas.Str.Parse.{digit_at}
use Rattle.std.proofs.lemmas.Fmt.{decimal_injective, first_decimal, decimal_nonempty, decimal_is_IsNumeral, length-decimal-le, decimal_digit}
use Rattle.vss_text.specs.Numbers.{IsShort, ended}
use Rattle.vss_text.specs.Reading.{IsReadOnce}

-- The text begins with `digits` digits, without a leading zero, and `end` behind them.
pub record HasNumber (text : List ℕ) (end digits : ℕ) : Type 0 where
  pub some : 0 < digits
  pub at_most_nine : digits ≤ 9
  pub within : digits < length text
  pub lead : 1 < digits → 48 < get_or text 0 0
  pub all : (k : ℕ) → k < digits → (48 ≤ get_or text k 0) × (get_or text k 0 ≤ 57)
  pub behind : get_or text digits 0 ≡ end

lead_of : (n : ℕ) → IsShort n → 1 < length (decimal n) → 48 < get_or (decimal n) 0 0
lead_of n small long = elim (cases_eq n 0) [
  | inl zero_is ↦ absurd (omega (arith, ap length (ap decimal zero_is ∙ decimal_digit 0 (omega arith))))
  | inr some ↦ first_decimal n (omega arith) (omega arith)
]

-- the text of a number has as many digits as the number
pub HasNumber-of : (text : List ℕ) (end n : ℕ) (rest : List ℕ) → IsShort n → text ≡ decimal n ++ end ∷ rest → HasNumber text end (length (decimal n))
HasNumber-of text end n rest small is = rw is (record {
  some = decimal_nonempty n (omega arith);
  at_most_nine = length-decimal-le 9 n (omega arith) (omega arith) (omega arith);
  within = omega (arith, length-append (decimal n) (end ∷ rest));
  lead = λ long. rw (get_or_append_left (decimal n) (end ∷ rest) 0 0 (decimal_nonempty n (omega arith))) (lead_of n small long);
  all = λ k under. rw (get_or_append_left (decimal n) (end ∷ rest) 0 k under) (digit_at (decimal n) k (decimal_is_IsNumeral n (omega arith)).0.1 under);
  behind = get_or_at (decimal n) end rest 0 (length (decimal n)) refl;
})

-- how many digits stand before the end
one_length : (text : List ℕ) (end end' digits digits' : ℕ) → end < 48 → end' < 48 → HasNumber text end digits → HasNumber text end' digits' → digits ≡ digits'
one_length text end end' digits digits' low low' one other = elim (cases_eq digits digits') [
  | inl same ↦ same
  | inr differs ↦ elim (cases_lt digits digits') [
    | inl before ↦ absurd (omega (arith, one.behind, (other.all digits before).0))
    | inr behind ↦ absurd (omega (arith, other.behind, (one.all digits' (omega arith)).0))
  ]
]

-- two numbers at the front of one text are one, and so are the bytes behind them
pub number_one_reading : (end end' m n : ℕ) (rest rest' : List ℕ) → end < 48 → end' < 48 → IsShort m → IsShort n → decimal m ++ end ∷ rest ≡ decimal n ++ end' ∷ rest' → (m ≡ n) × (end ≡ end') × (rest ≡ rest')
number_one_reading end end' m n rest rest' low low' small small' same =
    let digits : length (decimal m) ≡ length (decimal n) = one_length (decimal m ++ end ∷ rest) end end' (length (decimal m)) (length (decimal n)) low low' (HasNumber-of _ end m rest small refl) (HasNumber-of _ end' n rest' small' same) in
    let fronts : decimal m ≡ decimal n = sym (take_at (decimal m) (end ∷ rest) (length (decimal n)) digits) ∙ (ap (take (length (decimal n))) same ∙ take_at (decimal n) (end' ∷ rest') (length (decimal n)) refl) in
    let backs : end ∷ rest ≡ end' ∷ rest' = sym (drop_at (decimal m) (end ∷ rest) (length (decimal n)) digits) ∙ (ap (drop (length (decimal n))) same ∙ drop_at (decimal n) (end' ∷ rest') (length (decimal n)) refl) in
    (decimal_injective m n (omega arith) (omega arith) fronts, (cc), (cc))

-- no text begins with two numbers before the same byte
pub number_read_once : (end : ℕ) → end < 48 → IsReadOnce IsShort (ended end)
unfolding IsReadOnce
number_read_once end low = λ one other rest rest' small small' same.
    let parts = number_one_reading end end one other rest rest' low low small small' (sym (append_assoc (decimal one) (end ∷ []) rest) ∙ same ∙ append_assoc (decimal other) (end ∷ []) rest') in
    (parts.0, parts.2)
