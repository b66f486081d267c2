-- The lemmas and laws of `vss_json`, each file a subject.
pub mod ListLemmas
pub mod DocumentLaws
