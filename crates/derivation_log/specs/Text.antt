-- The text of a step: its line without the line feed.
use Rattle.std.specs.Prelude.{ℕ, ◌≤◌, cond, List, [], ◌∷◌, ◌≡◌, ◌++◌, All, codes, decimal}
use Rattle.std.specs.List.{flat_map}
use Rattle.sat_core.specs.declared.literal.Lit.{Lit}
use Rattle.sat_core.specs.declared.literal.ClauseId.{ClauseId}
use Rattle.derivation_log.specs.declared.step.Step.{Step}
use Rattle.derivation_log.specs.declared.step.Step.TheVariants.{Add, Drop}

-- the number of a clause
abbrev pub number_text : ClauseId → List ℕ
number_text id = decimal id.0

-- a literal is the number of its variable, with - before it if it is negative
abbrev pub literal_text : Lit → List ℕ
literal_text lit = cond lit.positive [] (codes "-") ++ decimal lit.var.0

-- a word and the blank behind it
abbrev pub blanked : {X : Type 0} → (X → List ℕ) → X → List ℕ
blanked word x = word x ++ 32 ∷ []

-- the words of a list, with a blank behind each, and 0 at the end
abbrev pub list_text : {X : Type 0} → (X → List ℕ) → List X → List ℕ
list_text word words = flat_map (λ x. word x ++ codes " ") words ++ codes "0"

-- `a`, the number, the literals and the hints
abbrev pub clause_text : ClauseId → List Lit → List ClauseId → List ℕ
clause_text id lits hints = codes "a " ++ (number_text id ++ (codes " " ++ (list_text literal_text lits ++ (codes " " ++ list_text number_text hints))))

-- `d` and the numbers
abbrev pub drop_text : List ClauseId → List ℕ
drop_text ids = codes "d " ++ list_text number_text ids

abbrev pub step_text : Step → List ℕ
step_text (Add id lits hints) = clause_text id lits hints
step_text (Drop ids) = drop_text ids

-- numbers of clauses and variables in a log are 1 to 999,999,999
abbrev pub IsLogNumber : ℕ → Type 0
IsLogNumber n = (1 ≤ n) × (n ≤ 999999999)

abbrev pub IsInRange : Step → Type 0
IsInRange (Add id lits hints) = IsLogNumber id.0 × All (λ lit. IsLogNumber lit.var.0) lits × All (λ hint. IsLogNumber hint.0) hints
IsInRange (Drop ids) = All (λ id. IsLogNumber id.0) ids

-- the bytes are the line of some step in range
pub record IsLine (bytes : List ℕ) : Type 0 where
  pub step : Step
  pub in_range : IsInRange step
  pub text_is : bytes ≡ step_text step
