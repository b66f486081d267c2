-- What devices show of themselves: a shelf its files, a sink its output.
use Rattle.std.specs.Prelude.{ℕ, Bool, List, Option}

-- what a shelf shows: whether it tells its files, the files, and how often the reading of a name failed
pub record Files : Type 0 where
  pub tells : Bool
  pub file : List ℕ → Option (List ℕ)
  pub faults : List ℕ → ℕ

-- what a sink shows: the bytes that were written, where it tells them, and how many pieces failed
pub record Output : Type 0 where
  pub written : Option (List ℕ)
  pub faults : ℕ
