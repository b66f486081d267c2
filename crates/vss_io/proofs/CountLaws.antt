-- How often a name stands in a list that grows.
use Rattle.std.proofs.Common.{◌≡◌, ◌≢◌, ◌≤◌, arith, ℕ, ◌+◌, List, [], ◌∷◌, ◌++◌, refl, sym, ap, ◌∙◌, zero-add, add-zero}
use Rattle.std.specs.Prelude.{cond}
use Rattle.std.specs.Str.{bytes_eq}
use Rattle.std.proofs.lemmas.Bool.{false_from_ne_true}
use Rattle.std.proofs.lemmas.List.Sums.{sum_by-append}
use Rattle.std.proofs.lemmas.Slice.Eq.{bytes_eq-Decides}
use Rattle.vss_io.specs.MemShelf.{count_of}

-- a name at the end counts with the others
count_of-append : (names : List (List ℕ)) (last name : List ℕ) → count_of (names ++ last ∷ []) name ≡ count_of names name + cond (bytes_eq last name) 1 0
count_of-append names last name =
    sum_by-append (λ other. cond (bytes_eq other name) 1 0) names (last ∷ []) ∙ ap (λ more. count_of names name + more) (zero-add _)

-- the name at the end counts once more
pub count_of-same : (names : List (List ℕ)) (name : List ℕ) → count_of (names ++ name ∷ []) name ≡ count_of names name + 1
count_of-same names name =
    count_of-append names name name ∙ ap (λ same. count_of names name + cond same 1 0) ((bytes_eq-Decides name name).1 refl)

-- another name counts as before
pub count_of-other : (names : List (List ℕ)) (last name : List ℕ) → name ≢ last → count_of (names ++ last ∷ []) name ≡ count_of names name
count_of-other names last name differ =
    count_of-append names last name
    ∙ ap (λ same. count_of names name + cond same 1 0) (false_from_ne_true (bytes_eq last name) (λ same. differ (sym ((bytes_eq-Decides last name).0 same))))
    ∙ add-zero (count_of names name)

-- no name counts less
pub count_of-never_falls : (names : List (List ℕ)) (last name : List ℕ) → count_of names name ≤ count_of (names ++ last ∷ []) name
count_of-never_falls names last name = omega (arith, count_of-append names last name)

pub ruleset count_laws = (count_of-same, count_of-other)
