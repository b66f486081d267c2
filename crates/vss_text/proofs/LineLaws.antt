-- Laws of the lines of a text.
use Rattle.std.proofs.Common.{◌≡◌, ◌≢◌, ℕ, zero, suc, Bool, true, false, List, [], ◌∷◌, ◌++◌, length, refl, sym, ap, ◌∙◌, arith}
use Rattle.std.specs.Prelude.{nat_eq, ◌==◌, if◌then◌else◌}
use Rattle.std.proofs.lemmas.Bool.{eqb-true, eq-eqb}
use Rattle.std.proofs.lemmas.List.Elements.{All-head, All-tail, All-nil}
use Rattle.vss_text.specs.Lines.{lines_of, with_first, Lacks, IsOneLine}

-- the line feed ends the line
lines_at : (byte : ℕ) (test : Bool) (bytes : List ℕ) → nat_eq byte 10 ≡ test → byte ≢ 10 → lines_of (byte ∷ bytes) ≡ with_first byte (lines_of bytes)
lines_at byte test bytes is other = no_feed (nat_eq byte 10) refl
  where
    no_feed : (t : Bool) → nat_eq byte 10 ≡ t → (if t then (10 ∷ []) ∷ lines_of bytes else with_first byte (lines_of bytes)) ≡ with_first byte (lines_of bytes)
    no_feed true same = absurd (other (eqb-true byte 10 same))
    no_feed false same = refl

-- the first line of a text that begins with one
pub lines-line : (body rest : List ℕ) → IsOneLine body → lines_of (body ++ 10 ∷ rest) ≡ (body ++ 10 ∷ []) ∷ lines_of rest
lines-line [] rest plain = refl
lines-line (byte ∷ body) rest plain =
    lines_at byte (nat_eq byte 10) (body ++ 10 ∷ rest) refl (All-head (λ b. b ≢ 10) byte body plain)
    ∙ ap (with_first byte) (lines-line body rest (All-tail (λ b. b ≢ 10) byte body plain))

-- bytes without a line feed are one line
pub lines-one : (byte : ℕ) (bytes : List ℕ) → IsOneLine (byte ∷ bytes) → lines_of (byte ∷ bytes) ≡ (byte ∷ bytes) ∷ []
lines-one byte [] plain = lines_at byte (nat_eq byte 10) [] refl (All-head (λ b. b ≢ 10) byte [] plain)
lines-one byte (next ∷ bytes) plain =
    lines_at byte (nat_eq byte 10) (next ∷ bytes) refl (All-head (λ b. b ≢ 10) byte (next ∷ bytes) plain)
    ∙ ap (with_first byte) (lines-one next bytes (All-tail (λ b. b ≢ 10) byte (next ∷ bytes) plain))

-- the first line of a text: with its line feed, or all that there is
pub data FirstLine (text : List ℕ) : Type 0 where
  none : text ≡ [] → FirstLine text
  whole : (body rest : List ℕ) → IsOneLine body → text ≡ body ++ 10 ∷ rest → FirstLine text
  last : (byte : ℕ) (bytes : List ℕ) → text ≡ byte ∷ bytes → IsOneLine text → FirstLine text

one_more : (byte : ℕ) (bytes : List ℕ) → byte ≢ 10 → IsOneLine bytes → IsOneLine (byte ∷ bytes)
one_more byte bytes other plain zero d within = other
one_more byte bytes other plain (suc k) d within = plain k d (omega arith)

pub first_line : (text : List ℕ) → FirstLine text
first_line [] = none refl
first_line (byte ∷ bytes) = by_byte (nat_eq byte 10) refl (first_line bytes)
  where
    by_byte : (t : Bool) → nat_eq byte 10 ≡ t → FirstLine bytes → FirstLine (byte ∷ bytes)
    by_byte true same more = whole [] bytes (All-nil (λ b. b ≢ 10)) (ap (λ b. b ∷ bytes) (eqb-true byte 10 same))
    by_byte false same more =
        let other : byte ≢ 10 = λ is. let never : false ≡ true = sym same ∙ eq-eqb byte 10 is in cc in
        elim more [
          | none is ↦ last byte bytes refl (one_more byte bytes other (λ k d within. absurd (omega (arith, ap length is))))
          | whole body rest plain is ↦ whole (byte ∷ body) rest (one_more byte body other plain) (ap (λ b. byte ∷ b) is)
          | last next others is plain ↦ last byte bytes refl (one_more byte bytes other plain)
        ]

-- two words before the first such byte of one text are one
pub word_same : (end : ℕ) (one other rest rest' : List ℕ) → Lacks end one → Lacks end other → one ++ end ∷ rest ≡ other ++ end ∷ rest' → (one ≡ other) × (rest ≡ rest')
word_same end [] [] rest rest' plain plain' same = (refl, cc)
word_same end [] (byte ∷ other) rest rest' plain plain' same = let is : byte ≡ end = cc in absurd (All-head (λ b. b ≢ end) byte other plain' is)
word_same end (byte ∷ one) [] rest rest' plain plain' same = let is : byte ≡ end = cc in absurd (All-head (λ b. b ≢ end) byte one plain is)
word_same end (byte ∷ one) (byte' ∷ other) rest rest' plain plain' same =
    let first : byte ≡ byte' = cc in
    let inner : one ++ end ∷ rest ≡ other ++ end ∷ rest' = cc in
    let rests = word_same end one other rest rest' (All-tail (λ b. b ≢ end) byte one plain) (All-tail (λ b. b ≢ end) byte' other plain') inner in
    let bodies : one ≡ other = rests.0 in
    (cc, rests.1)

abbrev pub has_feed : List ℕ → Bool
has_feed [] = false
has_feed (byte ∷ bytes) = if byte == 10 then true else has_feed bytes

-- a text in which a test finds no line feed is one line
pub one_line_by : (bytes : List ℕ) → has_feed bytes ≡ false → IsOneLine bytes
one_line_by [] free = All-nil (λ b. b ≢ 10)
one_line_by (byte ∷ bytes) free = by_byte (λ found. one_line_by bytes found) (nat_eq byte 10) refl free
  where
    by_byte : (has_feed bytes ≡ false → IsOneLine bytes) → (t : Bool) → nat_eq byte 10 ≡ t → (if t then true else has_feed bytes) ≡ false → IsOneLine (byte ∷ bytes)
    by_byte more true same found = absurd (let never : true ≡ false = found in cc)
    by_byte more false same found = one_more byte bytes (λ is. let never : false ≡ true = sym same ∙ eq-eqb byte 10 is in cc) (more found)
