-- The lemmas and laws of `search_trail`, each file a subject.
pub mod KeptLemmas
pub mod LevelLaws
pub mod ReasonLaws
pub mod TrailLaws
