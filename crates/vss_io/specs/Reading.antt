-- What reading a file answers, and what it leaves of the files.
use Rattle.std.specs.Prelude.{◌≡◌, ◌≢◌, ℕ, ◌<◌, ◌≤◌, ◌↔◌, List, length, Option, Some, Result, Err, Vec, All, IsTrue, IfOk, IsErrOf, vec_len}
use Rattle.std.specs.Option.{IsSomeAnd}
use Rattle.vss_io.specs.Faults.{Rose}
use Rattle.vss_io.specs.Shown.{Files}
use Rattle.vss_io.specs.declared.reading.ShelfFault.{ShelfFault}
use Rattle.vss_io.specs.declared.reading.ShelfFault.TheVariants as fault

-- there is a file, and it has more bytes than that
abbrev pub IsLongerThan : ℕ → Option (List ℕ) → Type 0
IsLongerThan max file = IsSomeAnd file (λ bytes. max < length bytes)

-- reading the file of that name gives its bytes, if they are at most so many; it is too long just where a file
-- that is told has more, and a failure shows in the count of the name
pub record Reads {A : Type 0} (before now : Files) (name : List ℕ) (max : ℕ) (result : Result (Vec ℕ A) ShelfFault) : Type 0 where
  pub within : IfOk result (λ bytes. vec_len bytes ≤ max)
  pub told : IsTrue before.tells → IfOk result (λ bytes. before.file name ≡ Some bytes.items)
  pub too_long : IsTrue before.tells
      → (IsErrOf result fault.TooLong ↔ (IsLongerThan max (before.file name) × (result ≢ Err fault.Failed) × (result ≢ Err fault.Memory)))
  pub failed : IsErrOf result fault.Failed → Rose (before.faults name) (now.faults name)

-- reading files of these names changes no file, and no count of failures falls; where the shelf tells its files,
-- the counts of other names stay
pub record Keeps (before now : Files) (names : List (List ℕ)) : Type 0 where
  pub same_tells : now.tells ≡ before.tells
  pub same_files : (other : List ℕ) → now.file other ≡ before.file other
  pub never_falls : (other : List ℕ) → before.faults other ≤ now.faults other
  pub others : IsTrue before.tells → (other : List ℕ) → All (λ name. other ≢ name) names → now.faults other ≡ before.faults other
