-- The lemmas and laws of `net_reader`, each file a subject.
pub mod ReadLemmas
pub mod ReadingLaws
