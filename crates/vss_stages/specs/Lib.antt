-- What the contracts of `vss_stages` cite, each file a subject.
pub mod Inputs
pub mod Stages
