-- The lemmas and laws of `conflict_learn`, each file a subject.
pub mod FormulaLemmas
pub mod FreshLaws
pub mod HintOrder
pub mod LowerLemmas
pub mod MarkLemmas
pub mod PendingLemmas
pub mod WorkLemmas
mod CallLemmas
