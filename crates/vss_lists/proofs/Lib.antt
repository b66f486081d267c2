-- The lemmas and laws of `vss_lists`, each file a subject.
pub mod OrderLaws
