-- A text in the form of numbers is parsed as the number that its digits write.
use Rattle.std.proofs.Common.{rules, ◌≡◌, ◌&&◌, ℕ, Bool, true, false, List, Result, Ok, ◌≤◌, length, arith, refl}
use Rattle.std.specs.Prelude.{nat_le}
use Rattle.std.specs.Char.{is_ascii_digit}
use Rattle.std.specs.List.{list_all}
use Rattle.std.specs.Str.Parse.{ParsesUnsigned, digits_value}
use Rattle.std.proofs.lemmas.Str.Parse.{IsNumeralModel, digits_value_short, numerals_by_value, parse_gives}
use Rattle.std.proofs.lemmas.Bool.Decides.{leb_tells}
use Rattle.vss_words.specs.Numbers.{is_number}

digits : IsNumeralModel (λ ds. list_all is_ascii_digit ds ≡ true) (digits_value 10)
digits = numerals_by_value _ (search rules)

parts : (a b : Bool) → (a && b) ≡ true → (a ≡ true) × (b ≡ true)
parts true b h = (refl, h)
parts false b h = cc

at_most : (a b : ℕ) → nat_le a b ≡ true → a ≤ b
at_most a b h = grind (arith, leb_tells a b)

pub parses : {E : Type 0} → (text : List ℕ) (r : Result ℕ E) → is_number text ≡ true → ParsesUnsigned 64 10 text r → r ≡ Ok (digits_value 10 text)
parses text r form read =
    let some = parts _ _ form in
    let few = parts _ _ some.1 in
    let long : 1 ≤ length text = at_most _ _ some.0 in
    let short : length text ≤ 10 = at_most _ _ few.0 in
    let small = digits_value_short digits text 10 few.1 short in
    parse_gives digits 64 text r read few.1 (omega arith) (omega (arith, small))
