-- The lemmas and laws of `derivation_log`, each file a subject.
pub mod ListLemmas
pub mod NumberLemmas
pub mod WriteLemmas
pub mod StepLemmas
