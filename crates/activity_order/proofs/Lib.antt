-- The lemmas and laws of `activity_order`, each file a subject.
pub mod HeapLemmas
pub mod PlaceLemmas
pub mod RankLemmas
pub mod SiftLemmas
pub mod WaitLaws
pub mod WaitLemmas
