-- What the contracts of `activity_order` cite, each file a subject.
pub mod Choices
pub mod Heaps
pub mod Scores
