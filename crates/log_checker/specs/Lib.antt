-- What the contracts of `log_checker` cite, each file a subject.
pub mod Assigned
pub mod Drops
pub mod Readings
pub mod Stored
pub mod Verdicts
