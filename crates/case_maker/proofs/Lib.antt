-- The lemmas of `case_maker`, each file a subject.
pub mod LoopLemmas
