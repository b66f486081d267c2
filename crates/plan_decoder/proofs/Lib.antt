-- The lemmas of `plan_decoder`, each file a subject.
pub mod ChainLemmas
pub mod LayoutLemmas
pub mod PlanLemmas
pub mod KeptLemmas
pub mod TaskLemmas
