-- What the contracts of `solver_face` cite, each file a subject.
pub mod Solving
