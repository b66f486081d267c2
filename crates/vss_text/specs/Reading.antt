-- Why the front of a text isn't what was looked for.
use Rattle.std.specs.Prelude.{◌≡◌, ◌≢◌, ◌<◌, ◌++◌, ℕ, List, length}
use Rattle.vss_text.specs.declared.miss.Miss.{Miss}
use Rattle.vss_text.specs.declared.miss.Miss.TheVariants.{Short, Wrong}

-- the text ends within such an item
pub record EndsWithin {X : Type 0} (P : X → Type 0) (spelled : X → List ℕ) (text : List ℕ) : Type 0 where
  pub item : X
  pub more : List ℕ
  pub fits : P item
  pub goes_on : text ++ more ≡ spelled item
  pub too_early : 0 < length more

-- whatever stands behind the text, it doesn't begin with such an item
unfoldable pub NeverBegins : {X : Type 0} → (X → Type 0) → (X → List ℕ) → List ℕ → Type 0
NeverBegins {X} P spelled text = (item : X) (more rest : List ℕ) → P item → text ++ more ≢ spelled item ++ rest

-- the text doesn't begin with an item of the kind, for this cause
abbrev pub Misses : {X : Type 0} → (X → Type 0) → (X → List ℕ) → List ℕ → Miss → Type 0
Misses P spelled text Short = EndsWithin P spelled text
Misses P spelled text Wrong = NeverBegins P spelled text

-- the text doesn't begin with the word, for this cause
abbrev pub MissesText : List ℕ → List ℕ → Miss → Type 0
MissesText word text = Misses {X = Unit {0}} (λ _. Unit {0}) (λ _. word) text

-- no text begins with two items of the kind, and what follows the item is told too
unfoldable pub IsReadOnce : {X : Type 0} → (X → Type 0) → (X → List ℕ) → Type 0
IsReadOnce {X} P spelled = (one other : X) (rest rest' : List ℕ) → P one → P other → spelled one ++ rest ≡ spelled other ++ rest' → (one ≡ other) × (rest ≡ rest')

-- an item, and one of another kind behind it
abbrev pub Both : {X Y : Type 0} → (X → Type 0) → (Y → Type 0) → X × Y → Type 0
Both P Q pair = P pair.0 × Q pair.1

abbrev pub both_spelled : {X Y : Type 0} → (X → List ℕ) → (Y → List ℕ) → X × Y → List ℕ
both_spelled s t pair = s pair.0 ++ t pair.1
