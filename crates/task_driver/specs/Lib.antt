-- What the contracts of `task_driver` cite, each file a subject.
pub mod Questions
pub mod Sessions
pub mod Outcomes
pub mod BoundUnits
pub mod Underway
pub mod InstanceFormulas
pub mod TaskEnds
pub mod Encodings
