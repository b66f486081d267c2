-- The lemmas and laws of `solver_face`, each file a subject.
pub mod SolvingLaws
