-- Units and derived steps as one list of events.
use Rattle.std.specs.Prelude.{◌≡◌, ℕ, ◌+◌, List, [], ◌∷◌, length, Option, Some, None}
use Rattle.sat_core.specs.declared.literal.Lit.{Lit}
use Rattle.sat_core.specs.Derivation.{DerivedStep}
use Rattle.sat_core.specs.Search.{Event, gives, derives, adds_in}

-- a unit at each turn that names one, and else the next step
abbrev pub interleaved : List (Option Lit) → List DerivedStep → List Event
interleaved [] steps = []
interleaved (Some lit ∷ turns) steps = gives lit ∷ interleaved turns steps
interleaved (None ∷ turns) [] = []
interleaved (None ∷ turns) (step ∷ steps) = derives step ∷ interleaved turns steps

-- how many turns are those of steps
abbrev pub step_turns : List (Option Lit) → ℕ
step_turns [] = 0
step_turns (Some lit ∷ turns) = step_turns turns
step_turns (None ∷ turns) = step_turns turns + 1

-- each step has its turn, and the clauses that were added are counted
pub record IsHistory (turns : List (Option Lit)) (steps : List DerivedStep) (adds : ℕ) : Type 0 where
  pub each_step : step_turns turns ≡ length steps
  pub counted : adds ≡ adds_in steps
