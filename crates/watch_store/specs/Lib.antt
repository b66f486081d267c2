-- What the contracts of `watch_store` cite, each file a subject.
pub mod Chains
pub mod Fits
pub mod Places
pub mod Walking
pub mod Watching
