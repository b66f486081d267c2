-- The lemmas and laws of `sat_core`, each file a subject.
mod AnyLemmas
mod ClauseLemmas
pub mod HintLaws
pub mod LiteralLaws
pub mod LiveLaws
pub mod MarkLaws
pub mod OpenLaws
pub mod SearchLaws
mod SoundnessLemmas
pub mod StepLaws
mod StorageLemmas
pub mod ValueLaws
pub mod ValuationLaws
