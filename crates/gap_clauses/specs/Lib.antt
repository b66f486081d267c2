-- What the contracts of `gap_clauses` cite, each file a subject.
pub mod Walks
pub mod Gaps
pub mod Laws
pub mod Trees
pub mod Crowds
pub mod Fans
pub mod Views
pub mod Searched
pub mod Spans
