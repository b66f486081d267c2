-- The lemmas and laws of `task_driver`, each file a subject.
pub mod SessionLemmas
pub mod MeaningLemmas
pub mod GivenLemmas
pub mod TableLemmas
pub mod Truth
pub mod AlikeLemmas
pub mod EncodingLemmas
pub mod OnceLemmas
pub mod CounterLemmas
pub mod UnitLemmas
pub mod ChainLemmas
pub mod RefutedLemmas
pub mod SearchingLemmas
