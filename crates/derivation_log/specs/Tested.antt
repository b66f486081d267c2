-- Texts of steps that were tested, and the steps that they spell.
use Rattle.std.specs.Prelude.{◌≡◌, ◌++◌, ℕ, List, All, length}
use Rattle.derivation_log.specs.Text.{number_text, literal_text, list_text, step_text, IsInRange}
use Rattle.derivation_log.specs.declared.list.ListText.{ListText}
use Rattle.derivation_log.specs.declared.step.Step.{Step}
use Rattle.derivation_log.specs.declared.step.Step.TheVariants as step
use Rattle.derivation_log.specs.declared.tested.StepText.{StepText}
use Rattle.derivation_log.specs.declared.tested.StepText.TheVariants as tested

-- the text is the one of these words, and the count is theirs
pub record IsListOf {X : Type 0} (spelled : X → List ℕ) (list : ListText) (words : List X) : Type 0 where
  pub text_is : list.text.now ≡ list_text spelled words
  pub counted : length words ≡ list.count

-- the text is the one of some words in range
pub record IsList {X : Type 0} (spelled : X → List ℕ) (P : X → Type 0) (list : ListText) : Type 0 where
  pub words : List X
  pub in_range : All P words
  pub is_of : IsListOf spelled list words

-- the text is the one of this step
abbrev pub IsTextOf : StepText → Step → Type 0
IsTextOf (tested.Add number lits hints) (step.Add id literals ids) = (number ≡ id) × IsListOf literal_text lits literals × IsListOf number_text hints ids
IsTextOf (tested.Drop ids) (step.Drop dropped) = IsListOf number_text ids dropped
IsTextOf text other = ⊥

-- the text is the one of some step in range
pub record IsTested (text : StepText) : Type 0 where
  pub step : Step
  pub in_range : IsInRange step
  pub is_of : IsTextOf text step

-- the text begins with that of a step in range, and this follows
pub record BeginsWithStep (bytes : List ℕ) (text : StepText) (rest : List ℕ) : Type 0 where
  pub step : Step
  pub in_range : IsInRange step
  pub is_of : IsTextOf text step
  pub begins : bytes ≡ step_text step ++ rest

-- the bytes are a front of the line of some step in range, or all of it
pub record IsFrontOfStep (bytes : List ℕ) : Type 0 where
  pub step : Step
  pub more : List ℕ
  pub in_range : IsInRange step
  pub goes_on : bytes ++ more ≡ step_text step
