-- The lemmas of `search_history`.
pub mod HistoryLemmas
