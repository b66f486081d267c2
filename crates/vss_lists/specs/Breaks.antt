-- Where a list first breaks a rule on its items and their places.
use Rattle.std.specs.Prelude.{◌≡◌, ◌<◌, ℕ, List, Some, slice_get}

-- the rule holds of each item before the place
abbrev pub HoldsBelow : {X : Type 0} → (ℕ → X → Type 0) → List X → ℕ → Type 0
HoldsBelow {X} holds items place = (k : ℕ) (item : X) → k < place → slice_get items k ≡ Some item → holds k item

-- the rule holds of each item
pub record HoldsOfEach {X : Type 0} (holds : ℕ → X → Type 0) (items : List X) : Type 0 where
  pub at_each : (k : ℕ) (item : X) → slice_get items k ≡ Some item → holds k item

-- the rule holds of each item before the place and not of the item there
pub record BreaksFirstAt {X : Type 0} (holds : ℕ → X → Type 0) (items : List X) (place : ℕ) : Type 0 where
  pub before : HoldsBelow holds items place
  pub item : X
  pub is_there : slice_get items place ≡ Some item
  pub breaks : ¬ holds place item

-- the rule holds of each number below the count
pub record HoldsOfNumbers (holds : ℕ → Type 0) (count : ℕ) : Type 0 where
  pub at_each : (k : ℕ) → k < count → holds k

-- the rule holds of each number before this one, and not of this one, which is below the count
pub record FailsFirstAt (holds : ℕ → Type 0) (count number : ℕ) : Type 0 where
  pub within : number < count
  pub before : (k : ℕ) → k < number → holds k
  pub fails : ¬ holds number
