-- What tests of an empty text and of its first byte tell.
use Rattle.std.proofs.Common.{◌≡◌, ◌<◌, ℕ, Bool, true, false, List, [], ◌∷◌, length, drop, refl, sym, ap, ◌∙◌, arith}
use Rattle.std.specs.Prelude.{nat_eq, slice_index}
use Rattle.std.proofs.lemmas.Bool.{eqb-true}

pub some_left : (text : List ℕ) (empty : Bool) → empty ≡ nat_eq (length text) 0 → empty ≡ false → 0 < length text
some_left [] empty is not_empty = let never : true ≡ false = sym is ∙ not_empty in cc
some_left (b ∷ text) empty is not_empty = omega arith

pub none_left : (text : List ℕ) (empty : Bool) → empty ≡ nat_eq (length text) 0 → empty ≡ true → length text ≡ 0
none_left [] empty is all = refl
none_left (b ∷ text) empty is all = eqb-true (length (b ∷ text)) 0 (sym is ∙ all)

-- the byte that stands first, and what follows it
pub begins : (byte : ℕ) (text : List ℕ) → 0 < byte → slice_index text 0 ≡ byte → text ≡ byte ∷ drop 1 text
begins byte [] some never = absurd (omega arith)
begins byte (b ∷ text) some is = ap (λ first. first ∷ text) is
