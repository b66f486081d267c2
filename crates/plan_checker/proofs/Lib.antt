-- The lemmas and laws of `plan_checker`, each file a subject.
mod StreakLemmas
mod RunLemmas
mod StopLemmas
mod ListSteps
mod PairLemmas
mod ClashLemmas
mod MarkLemmas
mod JudgingLemmas
mod ClashLaws
mod BreachLaws
