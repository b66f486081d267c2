-- The lines of a text.
use Rattle.std.specs.Prelude.{◌≢◌, ◌==◌, ℕ, List, [], ◌∷◌, All, if◌then◌else◌}

-- the byte stands before the first line
abbrev pub with_first : ℕ → List (List ℕ) → List (List ℕ)
with_first byte [] = (byte ∷ []) ∷ []
with_first byte (line ∷ lines) = (byte ∷ line) ∷ lines

-- the lines of the text, each with its line feed; the last one may have none
abbrev pub lines_of : List ℕ → List (List ℕ)
lines_of [] = []
lines_of (byte ∷ bytes) = if byte == 10 then (10 ∷ []) ∷ lines_of bytes else with_first byte (lines_of bytes)

-- the byte stands nowhere in the bytes
abbrev pub Lacks : ℕ → List ℕ → Type 0
Lacks end bytes = All (λ byte. byte ≢ end) bytes

-- no line feed stands in the bytes
abbrev pub IsOneLine : List ℕ → Type 0
IsOneLine bytes = Lacks 10 bytes
