-- What the laws of `plan_values` cite, each file a subject.
pub mod Values
pub mod Meanings
pub mod Laws
