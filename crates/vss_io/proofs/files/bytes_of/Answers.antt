-- Files are looked for alike by name, and among their names and bytes.
use Rattle.std.proofs.Common.{rules, ◌≡◌, ℕ, List, [], ◌∷◌, refl, true, false}
use Rattle.std.specs.Prelude.{find, string_bytes, String, Vec, cond, Some}
use Rattle.std.specs.Option.{option_map}
use Rattle.std.specs.Str.{bytes_eq}
use Rattle.vss_io.specs.MemFiles.{named_bytes, file_named}
use Rattle.vss_io.proofs.files.bytes_of.Goals as goal

-- the file is the same, looked for by its name among the files or among their names and bytes
find-named_bytes : {A B : Type 0} (files : List (String A × Vec ℕ B)) (name : List ℕ) → option_map (λ file. file.1.items) (find (λ file. bytes_eq (string_bytes file.0) name) files) ≡ file_named (named_bytes files) name
find-named_bytes [] name = refl
find-named_bytes (file ∷ files) name =
    elim (bytes_eq (string_bytes file.0) name) as
    (λ b. option_map (λ file. file.1.items) (cond b (Some file) (find (λ file. bytes_eq (string_bytes file.0) name) files))
    ≡ option_map (λ file. file.1) (cond b (Some (string_bytes file.0, file.1.items)) (find (λ file. bytes_eq file.0 name) (named_bytes files))))
    [ true ↦ refl | false ↦ find-named_bytes files name ]

pub returns : goal.returns
returns c = rw (← find-named_bytes c.args.files.now c.args.name.now, ← c.find_file.ensures) (search rules)
