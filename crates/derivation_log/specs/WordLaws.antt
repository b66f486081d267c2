-- Laws of words: how they begin, and that no text begins with two of them.
use Rattle.std.proofs.Common.{◌≡◌, ◌≢◌, ℕ, ◌<◌, Bool, true, false, cond, List, [], ◌∷◌, ◌++◌, drop, refl, ap, ◌∙◌, arith}
use Rattle.std.specs.Prelude.{decimal, slice_index}
use Rattle.std.proofs.lemmas.List.{get_or_append_left}
use Rattle.std.proofs.lemmas.Fmt.{first_decimal, decimal_nonempty}
use Rattle.sat_core.specs.declared.literal.Lit.{Lit}
use Rattle.sat_core.specs.declared.literal.ClauseId.{ClauseId}
use Rattle.vss_text.proofs.NumberLaws.{number_one_reading}
use Rattle.derivation_log.specs.Text.{number_text, literal_text, IsLogNumber}

pub decimal_first : (n : ℕ) (rest : List ℕ) → IsLogNumber n → 48 < slice_index (decimal n ++ 32 ∷ rest) 0
decimal_first n rest range = rw (get_or_append_left (decimal n) (32 ∷ rest) 0 0 (decimal_nonempty n (omega arith))) (first_decimal n (omega arith) (omega arith))

pub decimal_one_reading : (m n : ℕ) (rest rest' : List ℕ) → IsLogNumber m → IsLogNumber n → decimal m ++ 32 ∷ rest ≡ decimal n ++ 32 ∷ rest' → (m ≡ n) × (rest ≡ rest')
decimal_one_reading m n rest rest' range range' same =
    let parts = number_one_reading 32 32 m n rest rest' (omega arith) (omega arith) (omega arith) (omega arith) same in
    (parts.0, parts.2)

pub id_no_zero : (id : ClauseId) (rest : List ℕ) → IsLogNumber id.0 → slice_index (number_text id ++ 32 ∷ rest) 0 ≢ 48
id_no_zero id rest range zero_is = omega (arith, decimal_first id.0 rest range)

pub id_one_reading : (one other : ClauseId) (rest rest' : List ℕ) → IsLogNumber one.0 → IsLogNumber other.0 → number_text one ++ 32 ∷ rest ≡ number_text other ++ 32 ∷ rest' → (one ≡ other) × (rest ≡ rest')
id_one_reading one other rest rest' range range' same =
    let parts = decimal_one_reading one.0 other.0 rest rest' range range' same in
    let make : ℕ → ClauseId = λ n. record { 0 = n } in
    (ap make parts.0, parts.1)

sign_first : (b : Bool) (n : ℕ) (rest : List ℕ) → IsLogNumber n → slice_index ((cond b [] (45 ∷ []) ++ decimal n) ++ 32 ∷ rest) 0 ≢ 48
sign_first true n rest range zero_is = omega (arith, decimal_first n rest range)
sign_first false n rest range zero_is = omega arith

pub literal_no_zero : (lit : Lit) (rest : List ℕ) → IsLogNumber lit.var.0 → slice_index (literal_text lit ++ 32 ∷ rest) 0 ≢ 48
literal_no_zero lit rest range = sign_first lit.positive lit.var.0 rest range

signs : (b c : Bool) (m n : ℕ) (rest rest' : List ℕ) → IsLogNumber m → IsLogNumber n → (cond b [] (45 ∷ []) ++ decimal m) ++ 32 ∷ rest ≡ (cond c [] (45 ∷ []) ++ decimal n) ++ 32 ∷ rest' → (b ≡ c) × (m ≡ n) × (rest ≡ rest')
signs true true m n rest rest' range range' same = let parts = decimal_one_reading m n rest rest' range range' same in (refl, parts.0, parts.1)
signs true false m n rest rest' range range' same = absurd (omega (arith, decimal_first m rest range, ap (λ text. slice_index text 0) same))
signs false true m n rest rest' range range' same = absurd (omega (arith, decimal_first n rest' range', ap (λ text. slice_index text 0) same))
signs false false m n rest rest' range range' same = let parts = decimal_one_reading m n rest rest' range range' (ap (drop 1) same) in (refl, parts.0, parts.1)

pub literal_one_reading : (one other : Lit) (rest rest' : List ℕ) → IsLogNumber one.var.0 → IsLogNumber other.var.0 → literal_text one ++ 32 ∷ rest ≡ literal_text other ++ 32 ∷ rest' → (one ≡ other) × (rest ≡ rest')
literal_one_reading one other rest rest' range range' same =
    let parts = signs one.positive other.positive one.var.0 other.var.0 rest rest' range range' same in
    let make : ℕ → Bool → Lit = λ n b. record { var = record { 0 = n }; positive = b } in
    (ap (λ n. make n one.positive) parts.1 ∙ ap (make other.var.0) parts.0, parts.2)
