-- One event more, and the steps among the events.
use Rattle.std.proofs.Common.{◌≡◌, ◌+◌, List, [], ◌∷◌, ◌++◌, length, refl, ap, sym, ◌∙◌, arith}
use Rattle.std.specs.Prelude.{ℕ, Option, Some, None}
use Rattle.std.proofs.lemmas.List.{length_push, map_push}
use Rattle.derivation_log.specs.declared.step.Step.{Step}
use Rattle.derivation_log.specs.Steps.{derived, derived_steps}
use Rattle.sat_core.specs.declared.literal.Lit.{Lit}
use Rattle.sat_core.specs.Derivation.{DerivedStep}
use Rattle.sat_core.specs.Search.{Event, gives, derives, log_of, adds_in}
use Rattle.sat_core.proofs.SearchLaws.{adds_in-append}
use Rattle.search_history.specs.Histories.{interleaved, step_turns, IsHistory}

pub interleaved-unit : (turns : List (Option Lit)) (steps : List DerivedStep) (lit : Lit) → step_turns turns ≡ length steps → interleaved (turns ++ Some lit ∷ []) steps ≡ interleaved turns steps ++ gives lit ∷ []
interleaved-unit [] steps lit count = refl
interleaved-unit (Some one ∷ turns) steps lit count = ap (λ es. gives one ∷ es) (interleaved-unit turns steps lit count)
interleaved-unit (None ∷ turns) [] lit count = absurd (omega arith)
interleaved-unit (None ∷ turns) (step ∷ steps) lit count = ap (λ es. derives step ∷ es) (interleaved-unit turns steps lit (omega arith))

pub interleaved-step : (turns : List (Option Lit)) (steps : List DerivedStep) (more : DerivedStep) → step_turns turns ≡ length steps → interleaved (turns ++ None ∷ []) (steps ++ more ∷ []) ≡ interleaved turns steps ++ derives more ∷ []
interleaved-step [] [] more count = refl
interleaved-step [] (step ∷ steps) more count = absurd (omega arith)
interleaved-step (Some one ∷ turns) steps more count = ap (λ es. gives one ∷ es) (interleaved-step turns steps more count)
interleaved-step (None ∷ turns) [] more count = absurd (omega arith)
interleaved-step (None ∷ turns) (step ∷ steps) more count = ap (λ es. derives step ∷ es) (interleaved-step turns steps more (omega arith))

pub log_of-interleaved : (turns : List (Option Lit)) (steps : List DerivedStep) → step_turns turns ≡ length steps → log_of (interleaved turns steps) ≡ steps
log_of-interleaved [] [] count = refl
log_of-interleaved [] (step ∷ steps) count = absurd (omega arith)
log_of-interleaved (Some lit ∷ turns) steps count = log_of-interleaved turns steps count
log_of-interleaved (None ∷ turns) [] count = absurd (omega arith)
log_of-interleaved (None ∷ turns) (step ∷ steps) count = ap (λ l. step ∷ l) (log_of-interleaved turns steps (omega arith))

step_turns-unit : (turns : List (Option Lit)) (lit : Lit) → step_turns (turns ++ Some lit ∷ []) ≡ step_turns turns
step_turns-unit [] lit = refl
step_turns-unit (Some one ∷ turns) lit = step_turns-unit turns lit
step_turns-unit (None ∷ turns) lit = ap (λ n. n + 1) (step_turns-unit turns lit)

step_turns-step : (turns : List (Option Lit)) → step_turns (turns ++ None ∷ []) ≡ step_turns turns + 1
step_turns-step [] = refl
step_turns-step (Some one ∷ turns) = step_turns-step turns
step_turns-step (None ∷ turns) = ap (λ n. n + 1) (step_turns-step turns)

-- ---- the history with a unit more
pub history_unit : (turns later : List (Option Lit)) (steps : List DerivedStep) (count : ℕ) (lit : Lit) → later ≡ turns ++ Some lit ∷ [] → IsHistory turns steps count → IsHistory later steps count
history_unit turns later steps count lit is was = record {
  each_step = ap step_turns is ∙ (step_turns-unit turns lit ∙ was.each_step);
  counted = was.counted;
}

pub events_unit : (turns later : List (Option Lit)) (steps : List DerivedStep) (count : ℕ) (lit : Lit) (events : List Event) → later ≡ turns ++ Some lit ∷ [] → IsHistory turns steps count → interleaved turns steps ≡ events → interleaved later steps ≡ events ++ gives lit ∷ []
events_unit turns later steps count lit events is was now = ap (λ t. interleaved t steps) is ∙ (interleaved-unit turns steps lit was.each_step ∙ ap (λ es. es ++ gives lit ∷ []) now)

-- ---- the history with a step more
steps_push : (steps later : List Step) (step : Step) → later ≡ steps ++ step ∷ [] → derived_steps later ≡ derived_steps steps ++ derived step ∷ []
steps_push steps later step is = ap derived_steps is ∙ map_push derived steps step

pub history_step : (turns later_turns : List (Option Lit)) (steps later_steps : List Step) (count : ℕ) (step : Step) → later_turns ≡ turns ++ None ∷ [] → later_steps ≡ steps ++ step ∷ [] → IsHistory turns (derived_steps steps) count → IsHistory later_turns (derived_steps later_steps) (count + adds_in (derived step ∷ []))
history_step turns later_turns steps later_steps count step is_turns is_steps was =
    let pushed : derived_steps later_steps ≡ derived_steps steps ++ derived step ∷ [] = steps_push steps later_steps step is_steps in
    record {
      each_step = ap step_turns is_turns ∙ (step_turns-step turns ∙ (ap (λ n. n + 1) was.each_step ∙ sym (ap length pushed ∙ length_push (derived_steps steps) (derived step))));
      counted = ap (λ n. n + adds_in (derived step ∷ [])) was.counted ∙ sym (ap adds_in pushed ∙ adds_in-append (derived_steps steps) (derived step ∷ []));
    }

pub events_step : (turns later_turns : List (Option Lit)) (steps later_steps : List Step) (count : ℕ) (step : Step) (events : List Event) → later_turns ≡ turns ++ None ∷ [] → later_steps ≡ steps ++ step ∷ [] → IsHistory turns (derived_steps steps) count → interleaved turns (derived_steps steps) ≡ events → interleaved later_turns (derived_steps later_steps) ≡ events ++ derives (derived step) ∷ []
events_step turns later_turns steps later_steps count step events is_turns is_steps was now =
    ap (λ t. interleaved t (derived_steps later_steps)) is_turns
    ∙ (ap (interleaved (turns ++ None ∷ [])) (steps_push steps later_steps step is_steps)
    ∙ (interleaved-step turns (derived_steps steps) (derived step) was.each_step ∙ ap (λ es. es ++ derives (derived step) ∷ []) now))

-- ---- the steps among the events
pub log_told : (turns : List (Option Lit)) (steps : List DerivedStep) (count : ℕ) (events : List Event) → IsHistory turns steps count → interleaved turns steps ≡ events → steps ≡ log_of events
log_told turns steps count events was now = sym (log_of-interleaved turns steps was.each_step) ∙ ap log_of now

pub adds_told : (turns : List (Option Lit)) (steps : List DerivedStep) (count : ℕ) (events : List Event) → IsHistory turns steps count → interleaved turns steps ≡ events → count ≡ adds_in (log_of events)
adds_told turns steps count events was now = was.counted ∙ ap adds_in (log_told turns steps count events was now)
