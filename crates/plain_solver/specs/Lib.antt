-- What the contracts of `plain_solver` cite, each file a subject.
pub mod Plain
pub mod States
