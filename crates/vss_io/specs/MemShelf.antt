-- A shelf in memory.
use Rattle.std.specs.Prelude.{ℕ, List, true, count_by}
use Rattle.std.specs.Str.{bytes_eq}
use Rattle.vss_io.specs.Calls.{CallCount}
use Rattle.vss_io.specs.MemFiles.{file_named}
use Rattle.vss_io.specs.Shown.{Files}

-- the files, the readings, and the name of each reading that failed
pub record MemReading : Type 0 where
  pub files : List (List ℕ × List ℕ)
  pub reads : CallCount
  pub failed : List (List ℕ)

-- how often the name stands in the list
abbrev pub count_of : List (List ℕ) → List ℕ → ℕ
count_of names name = count_by (λ other. bytes_eq other name) names

-- it tells its files, and counts failures name by name
abbrev pub files_of : MemReading → Files
files_of shelf = record { tells = true; file = file_named shelf.files; faults = count_of shelf.failed }
