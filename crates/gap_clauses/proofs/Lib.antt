-- The lemmas and laws of `gap_clauses`, each file a subject.
mod Shortening
mod OrderLaws
mod CandidateLaws
mod TreeLemmas
mod ListLemmas
mod WalkLaws
mod ListedLaws
mod OverLaws
mod NeighbourLemmas
mod FanLemmas
mod SearchLemmas
mod GapLaws
mod MarkLemmas
mod SpanLemmas
mod OnceLaws
