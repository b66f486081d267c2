-- The lemmas and laws of `plain_solver`, each file a subject.
pub mod FullLemmas
pub mod PassLemmas
pub mod PlainLemmas
pub mod ReadingLemmas
pub mod RoundLemmas
pub mod StateLemmas
pub mod StepLemmas
