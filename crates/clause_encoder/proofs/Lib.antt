-- The lemmas and laws of `clause_encoder`, each file a subject.
pub mod WritingLemmas
pub mod WriterLemmas
pub mod MarkLemmas
pub mod GatherLemmas
pub mod NetworkLemmas
pub mod ApartLemmas
pub mod CounterLemmas
pub mod WalkLemmas
pub mod TrainLemmas
pub mod StopLemmas
pub mod BuildLemmas
pub mod FamilyLemmas
pub mod FitLemmas
pub mod EncodeLemmas
pub mod CountLemmas
pub mod EncodingLemmas
pub mod TableLemmas
