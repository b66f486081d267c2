-- What the contracts of `plan_laws` cite, each file a subject.
pub mod Chains
pub mod Telling
pub mod Satisfied
pub mod Laws
