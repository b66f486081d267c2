-- Which numbers of a text are numbers of a log.
use Rattle.std.proofs.Common.{◌≡◌, ◌≢◌, ℕ, ◌<◌, List, [], ◌∷◌, ◌++◌, Bool, true, false, cond, length, drop, refl, ap, sym, ◌∙◌, arith, append_assoc, append-nil}
use Rattle.std.specs.Prelude.{decimal, slice_index, nat_eq}
use Rattle.std.proofs.lemmas.Bool.{eqb-true}
use Rattle.std.proofs.lemmas.Fmt.{decimal_digit}
use Rattle.sat_core.specs.declared.literal.Lit.{Lit}
use Rattle.sat_core.specs.declared.literal.ClauseId.{ClauseId}
use Rattle.vss_text.specs.Numbers.{IsShort, ended}
use Rattle.vss_text.specs.Reading.{EndsWithin, NeverBegins, Misses}
use Rattle.vss_text.specs.declared.miss.Miss.{Miss}
use Rattle.vss_text.specs.declared.miss.Miss.TheVariants.{Short, Wrong}
use Rattle.derivation_log.specs.Text.{number_text, literal_text, blanked, IsLogNumber}
use Rattle.derivation_log.specs.WordLaws.{decimal_first}

-- a number that doesn't begin with 0 isn't 0
pub not_zero : (n : ℕ) (text rest : List ℕ) → slice_index text 0 ≢ 48 → text ≡ decimal n ++ 32 ∷ rest → n ≢ 0
not_zero n text rest first is zero_is = first (ap (λ bytes. slice_index bytes 0) (is ∙ ap (λ digits. digits ++ 32 ∷ rest) (ap decimal zero_is ∙ decimal_digit 0 (omega arith))))

-- where 0 stands first, there is no number of a log
pub never_zero : (text : List ℕ) → slice_index text 0 ≡ 48 → NeverBegins IsLogNumber (ended 32) text
unfolding NeverBegins
never_zero [] first = absurd (omega arith)
never_zero (b ∷ text) first = λ n more rest range same.
    omega (arith, decimal_first n rest range, ap (λ bytes. slice_index bytes 0) (same ∙ append_assoc (decimal n) (32 ∷ []) rest))

one_more : (text more : List ℕ) (n : ℕ) → slice_index text 0 ≢ 48 → n < 1000000000 → 0 < length more → text ++ more ≡ ended 32 n → EndsWithin IsLogNumber (ended 32) text
one_more [] more n first small some is = record { item = 1; more = 49 ∷ 32 ∷ []; fits = (omega arith, omega arith); goes_on = ap (λ digits. digits ++ 32 ∷ []) (sym (decimal_digit 1 (omega arith))); too_early = omega arith }
one_more (b ∷ text) more n first small some is =
    let some_number : n ≢ 0 = not_zero n (b ∷ (text ++ more)) [] first is in
    record { item = n; more = more; fits = (omega arith, omega arith); goes_on = is; too_early = some }

-- where 0 doesn't stand first, a missed number is a missed number of a log
pub log_misses : (text : List ℕ) (miss : Miss) → slice_index text 0 ≢ 48 → Misses IsShort (ended 32) text miss → Misses IsLogNumber (ended 32) text miss
unfolding NeverBegins
log_misses text Short first missed = one_more text missed.more missed.item first missed.fits missed.too_early missed.goes_on
log_misses text Wrong first missed = λ n more rest range same. missed n more rest (omega arith) same

make : ℕ → Bool → Lit
make n b = record { var = record { 0 = n }; positive = b }

-- behind a minus sign, a missed number is a missed literal
pub negative_misses : (text behind : List ℕ) (miss : Miss) → text ≡ 45 ∷ behind → Misses IsLogNumber (ended 32) behind miss → Misses (λ lit. IsLogNumber lit.var.0) (blanked literal_text) text miss
unfolding NeverBegins make
negative_misses text behind Short is missed = record {
  item = make missed.item false;
  more = missed.more;
  fits = missed.fits;
  goes_on = ap (λ bytes. bytes ++ missed.more) is ∙ ap (λ bytes. 45 ∷ bytes) missed.goes_on;
  too_early = missed.too_early;
}
negative_misses text behind Wrong is missed = λ lit more rest range same. by_sign lit.positive lit.var.0 more rest range (ap (λ bytes. bytes ++ more) (sym is) ∙ same)
  where
    by_sign : (b : Bool) (n : ℕ) (more rest : List ℕ) → IsLogNumber n → 45 ∷ (behind ++ more) ≡ ((cond b [] (45 ∷ []) ++ decimal n) ++ 32 ∷ []) ++ rest → ⊥
    by_sign true n more rest range same = omega (arith, decimal_first n rest range, ap (λ bytes. slice_index bytes 0) (same ∙ append_assoc (decimal n) (32 ∷ []) rest))
    by_sign false n more rest range same = missed n more rest range (cc)

-- where no minus sign stands, a missed number is a missed literal
pub positive_misses : (text : List ℕ) (miss : Miss) → slice_index text 0 ≢ 45 → Misses IsLogNumber (ended 32) text miss → Misses (λ lit. IsLogNumber lit.var.0) (blanked literal_text) text miss
unfolding NeverBegins make
positive_misses text Short first missed = record {
  item = make missed.item true;
  more = missed.more;
  fits = missed.fits;
  goes_on = missed.goes_on;
  too_early = missed.too_early;
}
positive_misses text Wrong first missed = λ lit more rest range same. by_sign text lit.positive lit.var.0 more rest first missed range same
  where
    by_sign : (text : List ℕ) (b : Bool) (n : ℕ) (more rest : List ℕ) → slice_index text 0 ≢ 45
        → ((m : ℕ) (more rest : List ℕ) → IsLogNumber m → text ++ more ≢ ended 32 m ++ rest)
        → IsLogNumber n → text ++ more ≡ ((cond b [] (45 ∷ []) ++ decimal n) ++ 32 ∷ []) ++ rest → ⊥
    by_sign text true n more rest first missed range same = missed n more rest range same
    by_sign [] false n more rest first missed range same = missed 1 (ended 32 1) [] (omega arith, omega arith) (sym (append-nil (ended 32 1)))
    by_sign (byte ∷ text) false n more rest first missed range same = first (ap (λ bytes. slice_index bytes 0) same)

id_of : ℕ → ClauseId
id_of n = record { 0 = n }

-- a missed number of a log is a missed number of a clause
pub id_misses : (text : List ℕ) (miss : Miss) → Misses IsLogNumber (ended 32) text miss → Misses (λ id. IsLogNumber id.0) (blanked number_text) text miss
unfolding NeverBegins id_of
id_misses text Short missed = record { item = id_of missed.item; more = missed.more; fits = missed.fits; goes_on = missed.goes_on; too_early = missed.too_early }
id_misses text Wrong missed = λ id more rest range same. missed id.0 more rest range same

-- the byte that stands first, and what follows it
pub begins : (byte : ℕ) (text : List ℕ) → 0 < byte → slice_index text 0 ≡ byte → text ≡ byte ∷ drop 1 text
begins byte [] some never = absurd (omega arith)
begins byte (b ∷ text) some is = ap (λ first. first ∷ text) is

-- what the test of an empty text tells
pub some_left : (text : List ℕ) (empty : Bool) → empty ≡ nat_eq (length text) 0 → empty ≡ false → 0 < length text
some_left [] empty is not_empty = let never : true ≡ false = sym is ∙ not_empty in cc
some_left (b ∷ text) empty is not_empty = omega arith

pub none_left : (text : List ℕ) (empty : Bool) → empty ≡ nat_eq (length text) 0 → empty ≡ true → length text ≡ 0
none_left [] empty is all = refl
none_left (b ∷ text) empty is all = eqb-true (length (b ∷ text)) 0 (sym is ∙ all)

pub empty_is : (text : List ℕ) (empty : Bool) → empty ≡ nat_eq (length text) 0 → length text ≡ 0 → empty ≡ true
empty_is [] empty is none = is
empty_is (b ∷ text) empty is none = absurd (omega arith)
