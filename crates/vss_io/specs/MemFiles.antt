-- Files in memory, each a name and its bytes.
use Rattle.std.specs.Prelude.{ℕ, List, [], Option, Some, true, map, find, unwrap_or, string_bytes, String, Vec}
use Rattle.std.specs.Option.{option_map}
use Rattle.std.specs.Str.{bytes_eq}
use Rattle.vss_io.specs.Shown.{Files}

-- the names and the bytes of these files
abbrev pub named_bytes : {A B : Type 0} → List (String A × Vec ℕ B) → List (List ℕ × List ℕ)
named_bytes files = map (λ file. (string_bytes file.0, file.1.items)) files

-- the bytes of the first file of that name
abbrev pub file_named : List (List ℕ × List ℕ) → List ℕ → Option (List ℕ)
file_named files name = option_map (λ file. file.1) (find (λ file. bytes_eq file.0 name) files)

-- files that are all told and never fail to be read; a name that has none is that of the empty file
abbrev pub whole_files : List (List ℕ × List ℕ) → Files
whole_files files = record { tells = true; file = λ name. Some (unwrap_or (file_named files name) []); faults = λ _. 0 }
