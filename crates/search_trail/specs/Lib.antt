-- What the contracts of `search_trail` cite, each file a subject.
pub mod Kept
pub mod Reasons
pub mod Trails
