-- What the contracts of `conflict_learn` cite, each file a subject.
pub mod Learning
pub mod Marks
pub mod Working
