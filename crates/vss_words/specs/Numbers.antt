-- Numbers among the words.
use Rattle.std.specs.Prelude.{ℕ, Bool, ◌&&◌, List, length, Option, Some, None, cond, nat_le}
use Rattle.std.specs.Char.{is_ascii_digit}
use Rattle.std.specs.List.{list_all}
use Rattle.std.specs.Str.Parse.{digits_value}

-- 1 to 10 decimal digits
abbrev pub is_number : List ℕ → Bool
is_number text = nat_le 1 (length text) && (nat_le (length text) 10 && list_all is_ascii_digit text)

-- the number lies in the range
abbrev pub is_between : ℕ → ℕ → ℕ → Bool
is_between low high value = nat_le low value && nat_le value high

-- the number that the text writes, where it is in form and in range
abbrev pub number_from : ℕ → ℕ → List ℕ → Option ℕ
number_from low high text = cond (is_number text && is_between low high (digits_value 10 text)) (Some (digits_value 10 text)) None
