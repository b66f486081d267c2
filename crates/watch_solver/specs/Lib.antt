-- What the contracts of `watch_solver` cite, each file a subject.
pub mod Dropping
pub mod Luby
pub mod Running
