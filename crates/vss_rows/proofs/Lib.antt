-- The lemmas and laws of `vss_rows`, each file a subject.
pub mod PieceLaws
pub mod JoinedLaws
