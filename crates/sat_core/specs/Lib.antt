-- What the contracts of `sat_core` cite, each file a subject.
pub mod Clauses
pub mod Derivation
pub mod Fresh
pub mod Hints
pub mod Marks
pub mod Search
pub mod Storage
