-- Names: of nodes, tracks, sections, stations and trains.
use Rattle.std.specs.Prelude.{ℕ, ◌<◌, ◌≤◌, ◌==◌, ◌||◌, Bool, List, length, All, IsTrue}
use Rattle.std.specs.Char.{is_ascii_alphanumeric}

-- a letter or a digit of ASCII, `_` or `-`
abbrev pub is_name_byte : ℕ → Bool
is_name_byte b = is_ascii_alphanumeric b || b == 95 || b == 45

-- a name: 1 to 32 such bytes
pub record IsName (text : List ℕ) : Type 0 where
  pub not_empty : 0 < length text
  pub at_most_32 : length text ≤ 32
  pub plain : All (λ b. IsTrue (is_name_byte b)) text
