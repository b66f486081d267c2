-- The calls of a device in memory, which fail where a list says so.
use Rattle.std.specs.Prelude.{ℕ, List, Bool, nat_eq}
use Rattle.std.specs.List.{list_any}

-- the numbers of the calls that fail, counted from 0, and how many calls were made
pub record CallCount : Type 0 where
  pub failing : List ℕ
  pub made : ℕ

-- the next call is one of those that fail
abbrev pub next_fails : CallCount → Bool
next_fails calls = list_any (λ call. nat_eq call calls.made) calls.failing
