-- What the contracts of `vss_json` cite, each file a subject.
pub mod Values
pub mod Readings
pub mod Documents
