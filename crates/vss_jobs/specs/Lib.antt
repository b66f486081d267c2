-- What the contracts of `vss_jobs` cite, each file a subject.
pub mod Asked
pub mod Held
pub mod Jobs
pub mod Laws
pub mod Readings
pub mod Settings
